pub mod CountsOf
pub mod InStep
pub mod Streams
