pub mod Digests
pub mod Owners
pub mod CommandLine
pub mod LineExamples
pub mod LineLaws
