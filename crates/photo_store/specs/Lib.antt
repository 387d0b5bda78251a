pub mod Photos
pub mod FileStores
pub mod FileEntries
pub mod FileLaws
