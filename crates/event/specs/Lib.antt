-- What events do: §9.1, §9.2, §9.3, §9.4 and §9.5.
pub mod Event
