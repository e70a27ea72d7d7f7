pub mod Finding
pub mod Putting
pub mod Turns
pub mod Forms
pub mod Laws
