pub mod Essay
pub mod BuiltIns
pub mod Made
