-- The children of a substitute, in the place of the names around them, have the same size, dry run
-- and shown variables as elsewhere, and are names of the same variables. Of several substitutes the
-- first one counts.
use Rattle.std.proofs.Common.{◌≡◌, ℕ, ◌<◌, ◌+◌, suc, Bool, true, false, List, [], ◌∷◌, take, drop, Option, Some, option_map, if◌then◌else◌, refl, ap, ap₂, arith}
use Rattle.std.specs.Prelude.{◌||◌, ◌&&◌}
use Rattle.csl_elements.specs.declared.element.Names.{Names}
use Rattle.csl_elements.specs.declared.taxonomy.NameVariable.{NameVariable}
use Rattle.csl_elements.specs.declared.taxonomy.Variable.{Variable}
use Rattle.csl_elements.specs.Names.{NamesNode, shorthand_expansion}
use Rattle.csl_elements.specs.NamesParts.{names_node, names_substitutes, first_substitute}
use Rattle.csl_elements.specs.Node.{Node, text, call, number, label, date, names, choose, group, Nodes, no_nodes, node, Substitutes, no_substitutes, substitute, ExpandedNode, expanded_names, shorthand, ExpandedNodes, no_expanded_substitutes, is_childless, as_substitute_child, expand, expand_nodes, expand_substitutes, expand_substitute_nodes, size, sizes, expanded_substitutes_size}
use Rattle.csl_context.specs.State.{State, Inherited}
use Rattle.csl_context.specs.RenderInput.{RenderInput}
use Rattle.csl_nodes.specs.Usage.{info_union, as_child_info, without_group_flag}
use Rattle.csl_render.specs.Names.{is_names_of, any_is_names_of, choice_is_names_of, substitute_has_names_of, expanded_substitutes_of}
use Rattle.csl_render.specs.declared.plan.NodeInfo.{NodeInfo}
use Rattle.csl_render.specs.declared.plan.PlanItem.{PlanItem}
use Rattle.csl_render.specs.Plan.{DryView, AreItems, AreItemsIfTaken, AreItemsOfSubstitutes, IsInfo}
use Rattle.csl_render.specs.Tree.{is_group, info, nodes_info, shows, any_shows, substitute_info, substitute_shows, substitute_output, choice_info, choice_shows, first_substitute_output}

-- names with a substitute have children
none_of_four : (a b c : Bool) → (a && b && c && false) ≡ false
none_of_four true true true = refl
none_of_four true true false = refl
none_of_four true false true = refl
none_of_four true false false = refl
none_of_four false true true = refl
none_of_four false true false = refl
none_of_four false false true = refl
none_of_four false false false = refl

has_children : (n : NamesNode) (ns : Nodes) (ss : Substitutes) → is_childless n (substitute ns ss) ≡ false
has_children n ns ss = grind (arith, none_of_four)

module _ (env : List ℕ → Option ExpandedNodes) (original : NamesNode) where
  -- a relation between a child in a substitute and the same child elsewhere
  module _ (R : ExpandedNode → ExpandedNode → Type 0) (itself : (f : ExpandedNode) → R f f) (same : (n m : NamesNode) → R (shorthand n m) (expanded_names n no_expanded_substitutes)) where
    by_test : (n m : NamesNode) (b : Bool) → R (if b then shorthand n m else expanded_names n no_expanded_substitutes) (expanded_names n no_expanded_substitutes)
    by_test n m true = same n m
    by_test n m false = itself _

    names_within : (n : NamesNode) (ss : Substitutes) → R (as_substitute_child original (names n ss) (expand env (names n ss))) (expand env (names n ss))
    names_within n no_substitutes = by_test n (shorthand_expansion original n) (is_childless n no_substitutes)
    names_within n (substitute ns ss) = rw (has_children n ns ss) (itself _)

    related_within : (n : Node) → R (as_substitute_child original n (expand env n)) (expand env n)
    related_within (text t d) = itself _
    related_within (call name d) = itself _
    related_within (number n) = itself _
    related_within (label v l) = itself _
    related_within (date d) = itself _
    related_within (names n ss) = names_within n ss
    related_within (choose bs) = itself _
    related_within (group delimiter d ns) = itself _

  -- a function with one result for names without children, in a substitute and elsewhere
  one_within : {A : Type 0} (f : ExpandedNode → A) → ((n m : NamesNode) → f (shorthand n m) ≡ f (expanded_names n no_expanded_substitutes)) → (n : Node) → f (as_substitute_child original n (expand env n)) ≡ f (expand env n)
  one_within f same = related_within (λ g h. f g ≡ f h) (λ g. refl) same

  sizes_within : (ns : Nodes) → sizes (expand_substitute_nodes env original ns) ≡ sizes (expand_nodes env ns)
  sizes_within no_nodes = refl
  sizes_within (node n ns) = ap₂ (λ (a b : ℕ). suc (a + b)) (one_within size (λ n m. refl) n) (sizes_within ns)

  named_within : (v : NameVariable) (ns : Nodes) → any_is_names_of v (expand_substitute_nodes env original ns) ≡ any_is_names_of v (expand_nodes env ns)
  named_within v no_nodes = refl
  named_within v (node n ns) = ap₂ (λ a b. a || b) (one_within (is_names_of v) (λ n m. refl) n) (named_within v ns)

  module _ (w : RenderInput) (s : State) where
    info_within : (ns : Nodes) → nodes_info w s (expand_substitute_nodes env original ns) ≡ nodes_info w s (expand_nodes env ns)
    info_within no_nodes = refl
    info_within (node n ns) = ap₂ info_union (one_within (λ f. as_child_info (is_group f) (info w s f)) (λ n m. refl) n) (info_within ns)

    shown_within : (v : Variable) (ns : Nodes) → any_shows w s v (expand_substitute_nodes env original ns) ≡ any_shows w s v (expand_nodes env ns)
    shown_within v no_nodes = refl
    shown_within v (node n ns) = ap₂ (λ a b. a || b) (one_within (shows w s v) (λ n m. refl) n) (shown_within v ns)

    -- ---- the first substitute

    pub info_by : (ss : Substitutes) → substitute_info w s (expand_substitutes env original ss) ≡ choice_info w s (option_map (expand_nodes env) (first_substitute ss))
    info_by no_substitutes = refl
    info_by (substitute ns ss) = ap without_group_flag (info_within ns)

    shown_by : (v : Variable) (ss : Substitutes) → substitute_shows w s v (expand_substitutes env original ss) ≡ choice_shows w s v (option_map (expand_nodes env) (first_substitute ss))
    shown_by v no_substitutes = refl
    shown_by v (substitute ns ss) = shown_within v ns

  module _ (w : RenderInput) (d : DryView) where
    -- a result for a child in a substitute is one for the child elsewhere
    within_both : (i : NodeInfo) (is : List PlanItem) (n : Node) → (IsInfo w d (as_substitute_child original n (expand env n)) i is → IsInfo w d (expand env n) i is) × (IsInfo w d (expand env n) i is → IsInfo w d (as_substitute_child original n (expand env n)) i is)
    within_both i is = related_within (λ f g. (IsInfo w d f i is → IsInfo w d g i is) × (IsInfo w d g i is → IsInfo w d f i is)) (λ f. (λ h. h, λ h. h)) (λ n m. (λ h. h, λ h. h))

    planned_within : (ns : Nodes) (is : List PlanItem) → AreItems w d (expand_substitute_nodes env original ns) is → AreItems w d (expand_nodes env ns) is
    planned_within no_nodes is h = tt
    planned_within (node n ns) [] h = tt
    planned_within (node n ns) (i ∷ is) h = (h.0, (within_both i.info (take i.descendants is) n).0 h.1, planned_within ns (drop i.descendants is) h.2)

    asked_within : (ns : Nodes) (is : List PlanItem) → AreItems w d (expand_nodes env ns) is → AreItems w d (expand_substitute_nodes env original ns) is
    asked_within no_nodes is h = tt
    asked_within (node n ns) [] h = tt
    asked_within (node n ns) (i ∷ is) h = (h.0, (within_both i.info (take i.descendants is) n).1 h.1, asked_within ns (drop i.descendants is) h.2)

    pub planned_by : (ss : Substitutes) (is : List PlanItem) → AreItemsOfSubstitutes w d (expand_substitutes env original ss) is → AreItemsIfTaken w d (option_map (expand_nodes env) (first_substitute ss)) is
    planned_by no_substitutes is h = tt
    planned_by (substitute ns ss) is h = planned_within ns is h

    pub asked_by : (ss : Substitutes) (is : List PlanItem) → AreItemsIfTaken w d (option_map (expand_nodes env) (first_substitute ss)) is → AreItemsOfSubstitutes w d (expand_substitutes env original ss) is
    asked_by no_substitutes is h = tt
    asked_by (substitute ns ss) is h = asked_within ns is h

  pub named_by : (v : NameVariable) (ss : Substitutes) → substitute_has_names_of v (expand_substitutes env original ss) ≡ choice_is_names_of v (option_map (expand_nodes env) (first_substitute ss))
  named_by v no_substitutes = refl
  named_by v (substitute ns ss) = named_within v ns

  output_by : (w : RenderInput) (ss : Substitutes) (inh : Inherited) (s : State) → substitute_output w (expand_substitutes env original ss) inh s ≡ first_substitute_output w (option_map (expand_substitute_nodes env original) (first_substitute ss)) inh s
  output_by w no_substitutes inh s = refl
  output_by w (substitute ns ss) inh s = refl

  smaller_by : (ss : Substitutes) (ns : Nodes) → Some ns ≡ first_substitute ss → sizes (expand_nodes env ns) < expanded_substitutes_size (expand_substitutes env original ss)
  smaller_by no_substitutes ns h = grind (arith, h)
  smaller_by (substitute ms ss) ns h =
      let same : ns ≡ ms = cc in
      let same_size = ap (λ n. sizes (expand_nodes env n)) same in
      let as_large = sizes_within ms in
      omega arith

-- ---- the first substitute of a names node

module _ (env : List ℕ → Option ExpandedNodes) (x : Names) where
  -- substitutes are larger than the children of the first
  pub first_is_smaller : (ns : Nodes) → Some ns ≡ first_substitute (names_substitutes x) → sizes (expand_nodes env ns) < expanded_substitutes_size (expanded_substitutes_of env x)
  first_is_smaller ns here = smaller_by env (names_node x) (names_substitutes x) ns here

  pub shows_of_substitute : (w : RenderInput) (s : State) (v : Variable) → substitute_shows w s v (expanded_substitutes_of env x) ≡ choice_shows w s v (option_map (expand_nodes env) (first_substitute (names_substitutes x)))
  shows_of_substitute w s v = shown_by env (names_node x) w s v (names_substitutes x)

  pub output_of_substitute : (w : RenderInput) (inh : Inherited) (s : State) → substitute_output w (expanded_substitutes_of env x) inh s ≡ first_substitute_output w (option_map (expand_substitute_nodes env (names_node x)) (first_substitute (names_substitutes x))) inh s
  output_of_substitute w inh s = output_by env (names_node x) w (names_substitutes x) inh s
