pub mod MemoryLaws
pub mod NamedTextLaws
