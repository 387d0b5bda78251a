pub mod Draws
pub mod DrawnMcus
pub mod SampleHeader
pub mod SampleFile
pub mod SampleLaw
pub mod SampleWriting
