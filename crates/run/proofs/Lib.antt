pub mod Outcomes
pub mod Slips
pub mod Runs
pub mod Replays
