-- The size of a layout with all macros expanded (CSL 1.0.2, Rendering Elements; Macro), which limits
-- what rendering with a style from a stranger costs. The layout counts one, and so does each node of
-- a list. A group, a names node, a choose and a text of a macro that the style has count one more.
-- So does each branch, `cs:else` included. The lists that a node holds count too: the parts of a date,
-- the items of a test, and the variables and children of a names node, with the parts of its names and
-- the nodes of its substitutes. The weight of a node is its size without the one that it counts in its list.
--
-- The *rendered size* is how much of a layout one rendering goes through (Choose; Localized Date
-- Formats). It counts in the same way, `once`, with two differences:
-- - The branches of a choice are tried in order until one is taken. So a branch counts one, its tests,
--   and the larger of its nodes and all that comes after it.
-- - A localized date counts the parts of the style's date of its form too.
use Rattle.std.specs.Prelude.{ℕ, ◌+◌, suc, max, Bool, true, false, List, [], ◌∷◌, length, Option, Some, None, if◌then◌else◌}
use Rattle.csl_elements.specs.Lookup.{date_in_form}
use Rattle.csl_elements.specs.declared.date.Date.{Date}
use Rattle.csl_elements.specs.declared.date.DateForm.{DateForm}
use Rattle.csl_elements.specs.declared.locale.Locale.{Locale}
use Rattle.csl_elements.specs.Names.{NamesNode, NameNode}
use Rattle.csl_elements.specs.View.{NamesChildView, a_name, an_et_al, a_label, a_substitute}
use Rattle.csl_elements.specs.Node.{Tests, ExpandedNode, expanded_macro, expanded_date, expanded_names, shorthand, expanded_choose, expanded_group, ExpandedNodes, no_expanded_nodes, expanded_node, ExpandedBranches, no_expanded_branches, expanded_otherwise, expanded_branch, ExpandedSubstitutes, no_expanded_substitutes, expanded_substitute, ExpandedLayout, expand_nodes}

-- the items of a test, if the branch has it
abbrev pub list_weight : {A : Type 0} → Option (List A) → ℕ
list_weight None = 0
list_weight (Some xs) = length xs

abbrev pub tests_weight : Tests → ℕ
tests_weight ts = list_weight ts.is_numeric + (list_weight ts.is_uncertain_date + (list_weight ts.locator + (list_weight ts.position + (list_weight ts.type_ + list_weight ts.variable))))

-- the parts of names
abbrev pub parts_weight : List NameNode → ℕ
parts_weight [] = 0
parts_weight (n ∷ ns) = length n.parts + parts_weight ns

abbrev pub names_weight : NamesNode → ℕ
names_weight n = length n.variables + (n.child_count + parts_weight n.name_children)

-- the parts of a date, if there is one
abbrev pub parts_of : Option Date → ℕ
parts_of None = 0
parts_of (Some d) = length d.date_part.items

-- the parts of the date of a form in the locales that count
abbrev pub localized_parts : List Locale → Option DateForm → ℕ
localized_parts locales None = 0
localized_parts locales (Some form) = parts_of (date_in_form locales form)

-- the locales that count: those of the style, once, and else none; only private contracts cite it
abbrev pub counted : Bool → List Locale → List Locale
counted once locales = if once then locales else []

module _ (once : Bool) (locales : List Locale) where
  abbrev mutual
    pub weight : ExpandedNode → ℕ
    weight (expanded_macro fs d) = suc (weights fs)
    weight (expanded_date d) = length d.date_part + localized_parts locales d.form
    weight (expanded_names n is) = suc (names_weight n + substitutes_weight is)
    weight (shorthand written n) = suc (names_weight written)
    weight (expanded_choose cs) = suc (branches_weight cs)
    weight (expanded_group delimiter d fs) = suc (weights fs)
    weight other = 0

    pub weights : ExpandedNodes → ℕ
    weights no_expanded_nodes = 0
    weights (expanded_node f fs) = suc (weight f + weights fs)

    pub branches_weight : ExpandedBranches → ℕ
    branches_weight no_expanded_branches = 0
    branches_weight (expanded_otherwise fs) = suc (weights fs)
    branches_weight (expanded_branch ts fs cs) = suc (tests_weight ts + (if once then max (weights fs) (branches_weight cs) else weights fs + branches_weight cs))

    pub substitutes_weight : ExpandedSubstitutes → ℕ
    substitutes_weight no_expanded_substitutes = 0
    substitutes_weight (expanded_substitute fs is) = weights fs + substitutes_weight is

  -- what a child of names as written adds
  abbrev pub child_weight : (List ℕ → Option ExpandedNodes) → NamesChildView → ℕ
  child_weight env (a_name n) = suc (length n.parts)
  child_weight env (an_et_al e) = 1
  child_weight env (a_label l) = 1
  child_weight env (a_substitute ns) = suc (weights (expand_nodes env ns))

-- A layout counts like a group: one more than its elements.
abbrev pub layout_size : ExpandedLayout → ℕ
layout_size l = suc (weights false [] l.elements)

abbrev pub rendered_size : List Locale → ExpandedLayout → ℕ
rendered_size locales l = suc (weights true locales l.elements)
