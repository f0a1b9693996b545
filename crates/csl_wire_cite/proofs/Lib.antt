pub mod Adds
pub mod CitesRead
pub mod EntriesRead
pub mod Lists
pub mod NoPages
pub mod Words
