pub mod Bytes
pub mod Writing
pub mod Audit
pub mod Law
pub mod Examples
