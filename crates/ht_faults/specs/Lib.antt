pub mod Table
pub mod Classes
pub mod Alike
pub mod Leaders
pub mod FirstIndex
pub mod ClassesOf
pub mod Sites
pub mod FaultList
