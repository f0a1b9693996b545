-- The definitions that the contracts of `csl_uses` cite: its entries, its cites and its lists.
pub mod Book
pub mod ByDate
pub mod BySnapshot
pub mod Cite
pub mod Film
pub mod List
pub mod Page
