-- The definitions that the contracts of `csl_nodes` cite: the dry run and the whole content of each
-- node that holds no other nodes and no macro name. They depend on the input (style, scope and
-- cite) and the state. Contents also depend on the inherited values.
pub mod Usage
pub mod Pages
pub mod NumberOrPage
pub mod Text
pub mod Boxes
pub mod Number
pub mod DateText
pub mod DateKey
pub mod Label
pub mod Date
pub mod Condition
pub mod BranchConditions
