pub mod Algebra
pub mod Remainders
pub mod Counting
pub mod Answers
pub mod Testing
pub mod Machine
