pub mod TableTests
pub mod Lawful
pub mod Heights
pub mod Views
