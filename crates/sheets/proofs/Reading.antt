pub mod Cursors
pub mod Scan
pub mod Link
pub mod Turns
pub mod Entries
pub mod Ends
