pub mod Known
pub mod KnownOf
pub mod Searches
pub mod SearchOf
