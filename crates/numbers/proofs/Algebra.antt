pub mod IntRing
pub mod Polynomials
pub mod RingSolver
pub mod IntOrder
pub mod Sum
