pub mod Splitting
pub mod Answers
pub mod Lines
pub mod Sheets
