-- The first macro name that a style calls but does not define (CSL 1.0.2, Macro), in the order of
-- the style as written. The layout of citations comes first, then that of the bibliography, then
-- all macros in order, also unreached ones, but without those that an earlier macro of the same
-- name hides. In a choice, the branches come in order, then `cs:else`. In a names node, only the
-- substitutes may call macros. The search does not follow calls.
use Rattle.std.specs.Prelude.{ℕ, zero, suc, nat_eq, Bool, List, [], ◌∷◌, Option, Some, None, if◌then◌else◌}
use Rattle.std.specs.Option.{option_or, option_eq}
use Rattle.csl_elements.specs.Node.{Nodes}
use Rattle.csl_elements.specs.declared.element.Layout.{Layout}
use Rattle.csl_elements.specs.View.{Definition, definitions, view_layout}
use Rattle.csl_style.specs.Expansion.{macro_index, macro_body}
use Rattle.csl_style.specs.OverCalls.{over_nodes}
use Rattle.csl_style.specs.Style.{StyleParts}

abbrev unless_defined : Option Nodes → List ℕ → Option (List ℕ)
unless_defined None name = Some name
unless_defined (Some ns) name = None

-- the name, if there is no macro of that name
abbrev pub if_missing : List Definition → List ℕ → Option (List ℕ)
if_missing ds name = unless_defined (macro_body name ds) name

-- the first missing name in nodes
abbrev pub missing_in_nodes : List Definition → Nodes → Option (List ℕ)
missing_in_nodes ds ns = over_nodes None (if_missing ds) option_or ns

-- whether the first macro of the name is at the place
abbrev pub is_first_at : List Definition → ℕ → List ℕ → Bool
is_first_at ds i name = option_eq nat_eq (macro_index name ds) (Some i)

-- in the nodes of the macros from a place on, each the first of its name
abbrev pub missing_in_macros : List Definition → ℕ → List Definition → Option (List ℕ)
missing_in_macros ds i [] = None
missing_in_macros ds i (m ∷ ms) = option_or (if is_first_at ds i m.0 then missing_in_nodes ds m.1 else None) (missing_in_macros ds (suc i) ms)

-- in a layout, if there is one
abbrev pub missing_in_layout : List Definition → Option Layout → Option (List ℕ)
missing_in_layout ds None = None
missing_in_layout ds (Some l) = missing_in_nodes ds (view_layout l).elements

-- in the layout of citations, in that of the bibliography, and then in the macros
unfoldable pub missing_among : List Definition → Layout → Option Layout → Option (List ℕ)
missing_among ds citation bibliography =
    option_or (missing_in_layout ds (Some citation)) (option_or (missing_in_layout ds bibliography) (missing_in_macros ds zero ds))

abbrev pub missing_macro : StyleParts → Option (List ℕ)
missing_macro style = missing_among (definitions style.macros) style.citation style.bibliography
