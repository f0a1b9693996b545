-- The definitions that the contracts of `csl_finish` cite.
pub mod CaseMarks
pub mod Folding
pub mod Keys
pub mod LetterCase
pub mod Letters
pub mod Links
pub mod Punctuation
