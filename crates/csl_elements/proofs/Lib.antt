pub mod InsideLaws
pub mod Alike
mod OrdinalRows
pub mod Variables
pub mod Terms
pub mod Overlays
pub mod NamesChildren
pub mod Rolled
pub mod Sets
pub mod VariableSets
pub mod OrderedSets
pub mod Options
pub mod Injective
pub mod ByName
pub mod OneName
pub mod OneTerm
pub mod FirstTerm
