-- The weight of a names node, one level at a time.
use Rattle.std.proofs.Common.{◌≡◌, ℕ, ◌+◌, suc, Bool, List, map, length, Option, refl, ap, ◌∙◌, arith}
use Rattle.csl_elements.specs.Names.{NamesNode}
use Rattle.csl_elements.specs.NamesParts.{names_node, names_substitutes}
use Rattle.csl_elements.specs.Node.{Substitutes, no_substitutes, substitute, ExpandedNodes, expand, expand_nodes, expand_substitutes}
use Rattle.csl_elements.specs.declared.element.Names.{Names, out-Names}
use Rattle.csl_elements.specs.declared.locale.Locale.{Locale}
use Rattle.csl_elements.specs.View.{view_names, view_child, substitutes, name_children, NamesChildView}
use Rattle.csl_elements.proofs.Rolled.{names_view}
use Rattle.csl_style.specs.Size.{parts_weight, weight, weights, substitutes_weight}
use Rattle.csl_style.proofs.Within.{substitutes_within}

module _ (once : Bool) (locales : List Locale) where
  -- the weight of the substitutes of a names node as written
  abbrev pub written_weight : (List ℕ → Option ExpandedNodes) → Substitutes → ℕ
  written_weight env no_substitutes = 0
  written_weight env (substitute ns ss) = weights once locales (expand_nodes env ns) + written_weight env ss

  -- what the children of a names node as written add
  abbrev pub children_weight : (List ℕ → Option ExpandedNodes) → List NamesChildView → ℕ
  children_weight env cs = length cs + parts_weight (name_children cs) + written_weight env (substitutes cs)

  module _ (env : List ℕ → Option ExpandedNodes) where
    insteads_same : (original : NamesNode) (ss : Substitutes) → substitutes_weight once locales (expand_substitutes env original ss) ≡ written_weight env ss
    insteads_same = substitutes_within env (weight once locales) (weights once locales) (λ a b. suc (a + b)) (λ original n. omega arith) (λ f fs. refl) (substitutes_weight once locales) (written_weight env) (λ a b. a + b) refl (λ fs is. refl) (λ ns ss. refl)

    pub names_heavy : (x : Names) → weight once locales (expand env (view_names x)) ≡ suc (length (out-Names x).variable.items + children_weight env (map view_child (out-Names x).children.items))
    names_heavy x =
        let cs = map view_child (out-Names x).children.items in
        let v = length (out-Names x).variable.items in
        ap (λ n. weight once locales (expand env n)) (names_view x)
        ∙ ap (λ k. suc (v + (length cs + parts_weight (name_children cs)) + k)) (insteads_same (names_node x) (names_substitutes x))
        ∙ together v (length cs) (parts_weight (name_children cs)) (written_weight env (substitutes cs))
      where
        together : (a b c d : ℕ) → suc (a + (b + c) + d) ≡ suc (a + (b + c + d))
        together a b c d = omega arith
