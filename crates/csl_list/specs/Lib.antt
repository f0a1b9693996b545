-- The definitions that the contracts of `csl_list` cite.
pub mod Bibliography
pub mod Citation
pub mod CiteContent
pub mod Collapse
pub mod Driver
pub mod Errors
pub mod GivenNames
pub mod Identity
pub mod Listed
pub mod ListStyle
pub mod Locator
pub mod Options
pub mod Pieces
pub mod Position
pub mod Request
pub mod Told
