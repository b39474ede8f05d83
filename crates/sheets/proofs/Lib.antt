pub mod Ends
pub mod Printing
pub mod Lines
