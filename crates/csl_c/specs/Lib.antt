-- The definitions that the contracts of `csl_c` cite.
pub mod Held
pub mod Exports
