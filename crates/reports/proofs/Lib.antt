pub mod Answered
pub mod Cases
pub mod Cut
pub mod Lengths
pub mod Places
pub mod Reading
pub mod Unique
pub mod Writing
