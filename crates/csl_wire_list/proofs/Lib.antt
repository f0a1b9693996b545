pub mod Longer
pub mod Names
pub mod Read
