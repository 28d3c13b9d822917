pub mod Matrix
pub mod Terms
pub mod MatrixSolver
