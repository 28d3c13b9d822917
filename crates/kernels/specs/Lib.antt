pub mod Kernels
pub mod Columns
pub mod Entries
