pub mod Numbers
pub mod Remainder
pub mod Moduli
pub mod Refusals
pub mod Limits
pub mod Says
pub mod Reasons
pub mod Orders
