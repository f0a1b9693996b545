-- The definitions that the contracts of `csl_tree` cite: output trees as tokens and as nodes,
-- contents, HTML, and places in a tree.
pub mod Formatting
pub mod Tokens
pub mod Escapes
pub mod Html
pub mod Links
pub mod Marks
pub mod Read
pub mod Write
pub mod Content
pub mod Flat
pub mod FlatChildren
pub mod Stack
pub mod Tree
pub mod Simplify
pub mod Places
pub mod FindNames
pub mod Walks
pub mod Search
pub mod Laws
