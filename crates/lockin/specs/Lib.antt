-- What the public calls do (§1.1): Start, Calls and Run, which their promises cite; Parts, which only inner functions
-- are held to.
pub mod Start
pub mod Calls
pub mod Run
pub mod Parts
