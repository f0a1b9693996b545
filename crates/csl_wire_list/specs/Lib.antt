-- The definitions that the contracts of `csl_wire_list` cite.
pub mod Layouts
pub mod Keys
pub mod CitationOptions
pub mod BibliographyOptions
pub mod ListStyles
pub mod Works
pub mod Items
pub mod Citations
pub mod Documents
