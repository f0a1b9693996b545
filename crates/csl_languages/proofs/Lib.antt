pub mod FirstTerms
pub mod SameTag
