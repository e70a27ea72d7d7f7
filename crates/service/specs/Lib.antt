pub mod File
pub mod Tables
pub mod FileTables
pub mod Roll
