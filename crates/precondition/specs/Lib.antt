-- What a command needs of the state: §12.3.
pub mod Allowed
