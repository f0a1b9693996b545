-- The definitions that the contracts of `csl_context` cite: the input and the output of a
-- rendering.
pub mod State
pub mod RenderInput
pub mod Texts
pub mod Quotes
pub mod Context
pub mod ContextState
pub mod Bodies
