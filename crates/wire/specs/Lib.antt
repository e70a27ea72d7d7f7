pub mod Refusals
pub mod Number
pub mod Reading
pub mod Readers
pub mod Bounded
pub mod Members
pub mod Fields
