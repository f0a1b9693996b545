-- The definitions that the contracts of `csl_render` cite: the dry run, the shown variables and the
-- content of nodes and layouts.
pub mod Names
pub mod Expanded
pub mod Tree
pub mod Flags
pub mod Plan
pub mod DryRun
pub mod Render
pub mod Pair
pub mod Keeps
pub mod Cites
pub mod SortedDates
pub mod Laws
