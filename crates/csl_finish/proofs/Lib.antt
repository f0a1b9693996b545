pub mod Addresses
pub mod Elements
pub mod Folded
pub mod Marks
pub mod Order
pub mod WithoutMarks
pub mod Words
