-- What a command changes: §1.1.
pub mod Effect
