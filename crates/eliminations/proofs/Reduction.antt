pub mod Steps
pub mod Stages
pub mod Bits
pub mod Loading
pub mod Words
pub mod Units
pub mod Rows
pub mod Ends
