pub mod Taken
pub mod KindNames
pub mod Titles
