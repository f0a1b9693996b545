-- The definitions that the contracts of `csl_session` cite.
pub mod Kept
pub mod Replies
pub mod Cases
pub mod Rendered
pub mod Limits
pub mod Conversation
