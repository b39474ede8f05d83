pub mod Euclid
pub mod PairRows
pub mod PairIs
pub mod PairShowing
pub mod PairSteps
pub mod MeetLoads
