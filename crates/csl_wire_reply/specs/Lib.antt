-- The definitions that the contracts of `csl_wire_reply` cite.
pub mod Members
pub mod Tree
pub mod Contents
