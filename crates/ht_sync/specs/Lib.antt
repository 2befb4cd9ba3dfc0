pub mod Synchronizing
pub mod SyncWindows
pub mod SyncSearches
pub mod SyncTexts
