pub mod Packing
pub mod Calls
