pub mod Forms
pub mod Numbers
pub mod Table
pub mod Asked
pub mod Commands
pub mod Usage
pub mod Ranges
pub mod ByClap
