pub mod Causes
pub mod Groups
pub mod Shortest
pub mod Bounded
pub mod Members
pub mod Loops
pub mod Numbers
pub mod Written
