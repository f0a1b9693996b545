-- What Rattle makes of these types for clauses.
pub use Rattle.csl_elements.specs.contracts.affixes
pub use Rattle.csl_elements.specs.contracts.date
pub use Rattle.csl_elements.specs.contracts.element
pub use Rattle.csl_elements.specs.contracts.formatting
pub use Rattle.csl_elements.specs.contracts.locale
pub use Rattle.csl_elements.specs.contracts.named
pub use Rattle.csl_elements.specs.contracts.names
pub use Rattle.csl_elements.specs.contracts.names_parts
pub use Rattle.csl_elements.specs.contracts.number
pub use Rattle.csl_elements.specs.contracts.taxonomy
pub use Rattle.csl_elements.specs.contracts.term
pub use Rattle.csl_elements.specs.contracts.text
pub use Rattle.csl_style.specs.contracts.style
