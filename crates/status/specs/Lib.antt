-- The registers, enables and status byte (§10.1, §10.2, §10.3, §10.4, §10.5), and the promise on the status byte.
pub mod Bits
pub mod Status
pub mod Flags
