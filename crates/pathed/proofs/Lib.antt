pub mod Answers
pub mod PathEnd
pub mod Accepted
pub mod Body
pub mod Fit
pub mod Branches
