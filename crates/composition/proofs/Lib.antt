pub mod Bridges
pub mod Founds
pub mod Explores
pub mod Below
pub mod Composes
pub mod Listing
pub mod Lays
