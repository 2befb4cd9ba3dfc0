mod ArgumentLaws
pub mod AskedLaws
mod NumberLaws
