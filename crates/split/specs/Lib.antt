-- What bytes mean when they are divided at a separator (§2.6, §3.1), and quoted text as bytes.
pub mod Divide
pub mod Ascii
