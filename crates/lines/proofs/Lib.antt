pub mod Languages
pub mod Figures
pub mod Sequences
pub mod Letters
