pub mod Lists
pub mod Members
pub mod NodesRead
pub mod StylesRead
