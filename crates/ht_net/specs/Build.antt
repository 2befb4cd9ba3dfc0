-- A circuit in the making, by the names of its nets, and when it is refused.
pub mod Named
pub mod Names
pub mod NamesOf
pub mod Draft
pub mod PartOf
pub mod Refusals
pub mod Built
pub mod Finish
pub mod Rotate
pub mod DraftOf
pub mod NetTable
