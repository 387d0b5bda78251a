pub mod BlobFiles
pub mod ShownFiles
