-- A walk through all nodes that a layout reaches (`Walks`) meets a text of the year suffix exactly if
-- one is in the layout with all macros expanded. Such a text is taken as naming everything.
use Rattle.std.proofs.Common.{◌≡◌, ℕ, List, [], ◌∷◌, Bool, true, false, Option, Some, None, refl, sym, ap, ap₂, ◌∙◌}
use Rattle.std.specs.Prelude.{◌||◌}
use Rattle.std.proofs.lemmas.Bool.{false≢true}
use Rattle.csl_elements.specs.NamedSet.{NamedItem, a_variable, NamedSet, empty_named_set, named_union}
use Rattle.csl_elements.specs.Node.{Node, Nodes, ExpandedNodes, expand_nodes}
use Rattle.csl_elements.specs.View.{definitions}
use Rattle.csl_elements.specs.declared.element.CslMacro.{CslMacro}
use Rattle.csl_elements.specs.declared.taxonomy.Variable.TheVariants as variable
use Rattle.csl_elements.specs.declared.taxonomy.StandardVariable.TheVariants.{YearSuffix}
use Rattle.csl_style.specs.AllNodes.{all_nodes, called_name, is_suffix_text}
use Rattle.csl_style.specs.Expansion.{macro_expansion}
use Rattle.csl_style.specs.Reached.{called_nodes, IsStart, Takes, nodes_left}
use Rattle.csl_style.specs.declared.reached.ReachedNodes.{ReachedNodes}
use Rattle.csl_style.specs.YearSuffix.{any_has_year_suffix}
use Rattle.csl_style.proofs.AllNodesLaws.{called_has, any_own, all_has}
use Rattle.csl_style.proofs.NamedNodes.{AddsUp, in_macro, all_named}
use Rattle.csl_style.proofs.Walks.{IsAt, at_start, at_next, taken_named, at_end}

abbrev pub suffix_itself : Node → NamedSet
suffix_itself n q = is_suffix_text n

abbrev pub suffix_in : ExpandedNodes → NamedSet
suffix_in fs q = any_has_year_suffix fs

called_bits : (env : List ℕ → Option ExpandedNodes) (o : Option (List ℕ)) (q : NamedItem) → in_macro suffix_in (called_nodes env o) q ≡ called_has env o
called_bits env None q = refl
called_bits env (Some name) q = by_meaning (env name) refl where
  by_meaning : (m : Option ExpandedNodes) → env name ≡ m → in_macro suffix_in (env name) q ≡ called_has env (Some name)
  by_meaning None e = rw e refl
  by_meaning (Some fs) e = rw e refl

suffix_bits : (env : List ℕ → Option ExpandedNodes) (xs : List Node) (q : NamedItem) → all_named suffix_itself suffix_in env xs q ≡ any_own env xs
unfolding named_union
suffix_bits env [] q = refl
suffix_bits env (x ∷ xs) q = ap₂ (λ a b. (is_suffix_text x || a) || b) (called_bits env (called_name x) q) (suffix_bits env xs q)

suffix_adds_up : AddsUp suffix_itself suffix_in
suffix_adds_up env ns = λ i q. (suffix_bits env (all_nodes ns) q ∙ all_has env ns) i

-- the walk met no such text yet
abbrev pub IsSearch : List CslMacro → Nodes → ReachedNodes → Type 0
IsSearch ms ns w = IsAt suffix_itself suffix_in ms ns empty_named_set w

an_item : NamedItem
an_item = a_variable (variable.Standard YearSuffix)

none_more : (b : Bool) → b ≡ false → empty_named_set ≡ named_union empty_named_set (λ q. b)
unfolding named_union
none_more true e = absurd (false≢true (sym e))
none_more false e = refl

module _ (ms : List CslMacro) (ns : Nodes) where
  abbrev has : Bool
  has = any_has_year_suffix (expand_nodes (macro_expansion (definitions ms)) ns)

  pub search_starts : (w : ReachedNodes) → IsStart ms ns w → IsSearch ms ns w
  search_starts w is = at_start suffix_itself suffix_in suffix_adds_up ms ns w is

  pub search_goes_on : (v : Node) (old new : ReachedNodes) → IsSearch ms ns old → Takes v old new → is_suffix_text v ≡ false → IsSearch ms ns new
  search_goes_on v old new at takes e = at_next suffix_itself suffix_in suffix_adds_up ms ns empty_named_set empty_named_set v old new at takes (none_more (is_suffix_text v) e)

  pub search_finds : (v : Node) (old new : ReachedNodes) → IsSearch ms ns old → Takes v old new → is_suffix_text v ≡ true → has ≡ true
  search_finds v old new at takes is = taken_named suffix_itself suffix_in suffix_adds_up ms ns empty_named_set v old new at takes an_item is

  pub search_ends : (w : ReachedNodes) → IsSearch ms ns w → nodes_left w ≡ [] → has ≡ false
  search_ends w at e = sym (ap (λ (s : NamedSet). s an_item) (at_end suffix_itself suffix_in suffix_adds_up ms ns empty_named_set w at e))
