pub mod Numerals
pub mod States
pub mod Begins
pub mod Complete
pub mod Exact
