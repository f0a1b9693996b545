-- The definitions that the contracts of `csl_wire_cite` cite.
pub mod Reads
pub mod Texts
pub mod Numbers
pub mod Persons
pub mod Dates
pub mod YearSuffixes
pub mod Disambiguations
pub mod Cites
pub mod Variables
pub mod Entries
