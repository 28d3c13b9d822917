pub mod Elimination
pub mod Parity
pub mod Inverting
