-- A style with its options that is refused, by the keys of the citation or of the bibliography.
use Rattle.std.proofs.Common.{List, inl, inr}
use Rattle.std.specs.List.{All}
use Rattle.csl_elements.specs.View.{Definition}
use Rattle.csl_style.specs.declared.style.settings.Scope.TheVariants as scopes
use Rattle.csl_list.specs.ListStyle.{IsKnown, IsRefusalOf, IsRefusal}
use Rattle.csl_list.specs.declared.options.SortKey.{SortKey}
use Rattle.csl_list.specs.declared.style_error.ListStyleError.{ListStyleError}

module _ (macros : List Definition) (citation bibliography : List SortKey) (error : ListStyleError) where
  pub by_citation : IsRefusalOf macros scopes.Citation citation error → IsRefusal macros citation bibliography error
  by_citation refused = inl refused

  pub by_bibliography : All (IsKnown macros) citation → IsRefusalOf macros scopes.Bibliography bibliography error → IsRefusal macros citation bibliography error
  by_bibliography known refused = inr (known, refused)
