-- A value that does not tell names without children in a substitute from those elsewhere. The
-- substitutes of a names node have the value that they have as written.
use Rattle.std.proofs.Common.{◌≡◌, ℕ, Bool, true, false, List, Option, refl, sym, ap₂, ◌∙◌, arith, if◌then◌else◌}
use Rattle.csl_elements.specs.Names.{NamesNode, shorthand_expansion}
use Rattle.csl_elements.specs.Node.{Node, names, Nodes, no_nodes, node, Substitutes, no_substitutes, substitute, ExpandedNode, expanded_names, shorthand, ExpandedNodes, expanded_node, ExpandedSubstitutes, no_expanded_substitutes, expanded_substitute, expand, expand_nodes, expand_substitutes, expand_substitute_nodes, as_substitute_child, is_childless}

module _ {A : Type 0} (env : List ℕ → Option ExpandedNodes) (one : ExpandedNode → A) (all : ExpandedNodes → A) (next : A → A → A)
    (same : (original n : NamesNode) → one (shorthand n (shorthand_expansion original n)) ≡ one (expanded_names n no_expanded_substitutes))
    (first : (f : ExpandedNode) (fs : ExpandedNodes) → all (expanded_node f fs) ≡ next (one f) (all fs)) where
  by_test : (original n : NamesNode) (ss : Substitutes) (b : Bool) → is_childless n ss ≡ b → one (if b then shorthand n (shorthand_expansion original n) else expand env (names n ss)) ≡ one (expand env (names n ss))
  by_test original n no_substitutes true e = same original n
  by_test original n (substitute ns ss) true e = grind (arith, e)
  by_test original n ss false e = refl

  one_within : (original : NamesNode) (n : Node) → one (as_substitute_child original n (expand env n)) ≡ one (expand env n)
  one_within original (names n ss) = by_test original n ss (is_childless n ss) refl
  one_within original other = refl

  all_within : (original : NamesNode) (ns : Nodes) → all (expand_substitute_nodes env original ns) ≡ all (expand_nodes env ns)
  all_within original no_nodes = refl
  all_within original (node n ns) =
      first (as_substitute_child original n (expand env n)) (expand_substitute_nodes env original ns)
      ∙ ap₂ next (one_within original n) (all_within original ns) ∙ sym (first (expand env n) (expand_nodes env ns))

  module _ (substitutes : ExpandedSubstitutes → A) (written : Substitutes → A) (beside : A → A → A)
      (none : substitutes no_expanded_substitutes ≡ written no_substitutes)
      (expanded : (fs : ExpandedNodes) (is : ExpandedSubstitutes) → substitutes (expanded_substitute fs is) ≡ beside (all fs) (substitutes is))
      (as_written : (ns : Nodes) (ss : Substitutes) → written (substitute ns ss) ≡ beside (all (expand_nodes env ns)) (written ss)) where
    pub substitutes_within : (original : NamesNode) (ss : Substitutes) → substitutes (expand_substitutes env original ss) ≡ written ss
    substitutes_within original no_substitutes = none
    substitutes_within original (substitute ns ss) =
        expanded (expand_substitute_nodes env original ns) (expand_substitutes env original ss)
        ∙ ap₂ beside (all_within original ns) (substitutes_within original ss) ∙ sym (as_written ns ss)
