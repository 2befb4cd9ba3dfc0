pub mod Clean
pub mod Memory
pub mod NamedTexts
pub mod Store
