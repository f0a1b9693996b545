-- The definitions that the contracts of `csl_wire` cite.
pub mod Refusals
pub mod Reading
pub mod Named
pub mod Dressed
pub mod Parts
pub mod Leaves
pub mod Names
pub mod Nodes
pub mod Styles
