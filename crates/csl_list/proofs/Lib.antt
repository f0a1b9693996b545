pub mod Contents
pub mod Counts
pub mod Firsts
pub mod KeysWithin
pub mod Orders
pub mod Refusals
pub mod Works
