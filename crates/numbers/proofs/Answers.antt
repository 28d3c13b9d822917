pub mod Refusals
pub mod Decisions
pub mod Tables
pub mod Says
pub mod Reasons
