-- The definitions that the contracts of `csl_cli` cite: the words of the program, and its output
-- for them.
pub mod Answers
pub mod Content
pub mod Command
