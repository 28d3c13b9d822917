pub mod Pigeonhole
pub mod Digits
pub mod Search
pub mod Leasts
