-- The definitions that the contracts of `csl_entry` cite: what an entry and a cite return for each
-- variable.
pub mod Answers
pub mod CitationLabel
pub mod Cite
pub mod Creators
pub mod Entry
pub mod EntryDate
pub mod EntryKind
pub mod EntryName
pub mod EntryNumber
pub mod EntryStandard
pub mod Instance
pub mod Language
pub mod LentForm
pub mod LentText
pub mod Letters
pub mod NameForm
pub mod NameProperties
pub mod NumberResult
pub mod Numbers
pub mod Alike
pub mod Snapshot
