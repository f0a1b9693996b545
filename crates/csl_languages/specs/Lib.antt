-- The definitions that the contracts of `csl_languages` cite: contents of locales, and tags.
pub mod Contents
pub mod Words
pub mod Languages
pub mod Tag
