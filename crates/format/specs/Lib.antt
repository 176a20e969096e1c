-- What replies in text say (§4.6). RoundTrip is the promise on them (§4.7), Parts is what only inner functions are held
-- to.
pub mod Text
pub mod Parts
pub mod RoundTrip
