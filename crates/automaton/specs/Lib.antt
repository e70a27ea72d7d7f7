pub mod Classes
pub mod Numbering
pub mod Profiles
pub mod ClassSets
pub mod Automata
pub mod Graphs
