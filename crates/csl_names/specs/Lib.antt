-- The definitions that the contracts of `csl_names` cite: one name, a list of names, and the lists
-- of a names node.
pub mod Piece
pub mod Name
pub mod NameStyles
pub mod List
pub mod ListStyles
pub mod NamesLists
pub mod NamesForms
pub mod NamesKept
pub mod NamesNode
