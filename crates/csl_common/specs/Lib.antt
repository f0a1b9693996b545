-- The definitions that several crates of literature and styles share.
pub mod Lists
pub mod Ordinal
pub mod Sink
