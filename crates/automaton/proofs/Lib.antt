pub mod Unique
pub mod Nerode
pub mod Number
pub mod Fills
pub mod Suffixed
pub mod Bound
pub mod Standing
pub mod Tables
