pub mod Divisors
pub mod Pairs
pub mod PairLaws
pub mod NewPairs
pub mod Meets
pub mod MeetLaws
