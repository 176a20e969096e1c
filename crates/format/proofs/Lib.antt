-- Laws on replies' texts.
pub mod Appended
pub mod Digits
pub mod Value
pub mod Length
pub mod Reading
pub mod RoundTrip
pub mod Examples
