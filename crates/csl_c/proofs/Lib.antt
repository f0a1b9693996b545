mod Engines
pub mod Calls
