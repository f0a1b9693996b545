-- The definitions that the contracts of `csl_samples` cite: the built-in entries, styles and
-- locale.
pub mod English
pub mod Entries
pub mod Nodes
pub mod Styles
pub mod Title
