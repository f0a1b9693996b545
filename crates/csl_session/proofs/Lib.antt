pub mod Replied
pub mod Sums
pub mod Cased
pub mod Rendered
