pub mod Congruence
pub mod Division
pub mod Remainder
pub mod Shift
pub mod Powers
pub mod Moduli
