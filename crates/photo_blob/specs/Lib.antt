pub mod Blobs
pub mod BlobLaws
