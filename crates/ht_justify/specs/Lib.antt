pub mod Stacks
pub mod BackStates
pub mod Answers
