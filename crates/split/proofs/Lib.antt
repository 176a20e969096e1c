-- Laws on bytes divided at a separator.
pub mod Span
pub mod Quoted
pub mod Iterated
pub mod Counted
