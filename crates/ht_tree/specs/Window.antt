-- Windows: their variables, places, status and choice of a variable.
pub mod Decisions
pub mod Windows
pub mod Places
pub mod WindowStatus
pub mod Variables
pub mod Nodes
pub mod WalkBack
