-- What a number's text means (§4.1, §4.2), and what a range makes of it (§4.3, §4.4, §4.5); Exact is the promise on it,
-- Parts and TextParts are what only inner functions are held to.
pub mod Number
pub mod Value
pub mod Parts
pub mod Exact
pub mod TextParts
