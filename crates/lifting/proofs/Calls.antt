pub mod Sizes
pub mod Stepping
pub mod Columns
pub mod Holding
pub mod Following
pub mod Ready
pub mod Refusals
pub mod Blocks
