pub mod Numbers
pub mod Streams
pub mod Words
pub mod Asked
pub mod CommandLine
pub mod Plainly
pub mod Arguments
