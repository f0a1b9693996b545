-- The types of nodes, options, terms, locales and styles, with their variants.
pub use Rattle.csl_elements.specs.declared.affixes
pub use Rattle.csl_elements.specs.declared.date
pub use Rattle.csl_elements.specs.declared.element
pub use Rattle.csl_elements.specs.declared.formatting
pub use Rattle.csl_elements.specs.declared.locale
pub use Rattle.csl_elements.specs.declared.named
pub use Rattle.csl_elements.specs.declared.names
pub use Rattle.csl_elements.specs.declared.names_parts
pub use Rattle.csl_elements.specs.declared.number
pub use Rattle.csl_elements.specs.declared.taxonomy
pub use Rattle.csl_elements.specs.declared.term
pub use Rattle.csl_elements.specs.declared.text
pub use Rattle.csl_style.specs.declared.style
