pub mod Trios
