pub mod Decimal
pub mod Grammar
pub mod Lines
pub mod Lengths
