pub mod Texts
pub mod Numbers
pub mod Tails
pub mod Lines
