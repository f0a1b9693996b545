-- In an acyclic style, a name stands for the nodes of the first macro of that name.
use Rattle.std.proofs.Common.{◌≡◌, ℕ, zero, suc, ◌≤◌, List, [], ◌∷◌, length, slice_index, Option, Some, None, option_map, IfSome, Bool, true, false, if◌then◌else◌, refl, sym, ap, ap₂, ◌∙◌, arith}
use Rattle.std.proofs.lemmas.Bool.{and_parts}
use Rattle.std.proofs.lemmas.Bool.Decides.{nat_tests}
use Rattle.std.specs.Str.{bytes_eq}
use Rattle.csl_elements.specs.Node.{Node, call, names, choose, group, Nodes, no_nodes, node, Branches, no_branches, otherwise, branch, Substitutes, no_substitutes, substitute, ExpandedNodes, expanded_node, expanded_names, expanded_choose, expanded_group, expanded_otherwise, expanded_branch, expanded_substitute, expand, expand_nodes, expand_branches, expand_substitutes, expand_substitute_nodes, expand_call, as_substitute_child}
use Rattle.csl_elements.specs.Names.{NamesNode}
use Rattle.csl_elements.specs.View.{Definition}
use Rattle.csl_style.specs.CallGraph.{children_at}
use Rattle.csl_style.specs.Expansion.{macro_index, macro_body, expansion_to_depth, macro_expansion, rank_of, is_below, calls_below, all_below, branches_below, substitutes_below, body_below, AreRanks, IsAcyclic}
use Rattle.csl_style.proofs.Called.{place-is}

-- two expansions of names that agree on each name below r
abbrev Agree : (List ℕ → Option ℕ) → ℕ → (e f : List ℕ → Option ExpandedNodes) → Type 0
Agree rank r e f = (name : List ℕ) → is_below (rank name) r ≡ true → e name ≡ f name

module _ (rank : List ℕ → Option ℕ) (r : ℕ) (e f : List ℕ → Option ExpandedNodes) (same : Agree rank r e f) where
  mutual
    fill-agree : (n : Node) → calls_below rank r n ≡ true → expand e n ≡ expand f n
    fill-agree (call name d) h = ap (expand_call d) (same name h)
    fill-agree (names n ss) h = ap (expanded_names n) (substitutes-agree n ss h)
    fill-agree (choose bs) h = ap expanded_choose (branches-agree bs h)
    fill-agree (group delimiter d ns) h = ap (expanded_group delimiter d) (fills-agree ns h)
    fill-agree other h = refl

    fills-agree : (ns : Nodes) → all_below rank r ns ≡ true → expand_nodes e ns ≡ expand_nodes f ns
    fills-agree no_nodes h = refl
    fills-agree (node n ns) h =
        let (h0, h1) = and_parts (calls_below rank r n) (all_below rank r ns) h in
        ap₂ expanded_node (fill-agree n h0) (fills-agree ns h1)

    branches-agree : (bs : Branches) → branches_below rank r bs ≡ true → expand_branches e bs ≡ expand_branches f bs
    branches-agree no_branches h = refl
    branches-agree (otherwise ns) h = ap expanded_otherwise (fills-agree ns h)
    branches-agree (branch ts ns bs) h =
        let (h0, h1) = and_parts (all_below rank r ns) (branches_below rank r bs) h in
        ap₂ (expanded_branch ts) (fills-agree ns h0) (branches-agree bs h1)

    substitutes-agree : (original : NamesNode) (ss : Substitutes) → substitutes_below rank r ss ≡ true → expand_substitutes e original ss ≡ expand_substitutes f original ss
    substitutes-agree original no_substitutes h = refl
    substitutes-agree original (substitute ns ss) h =
        let (h0, h1) = and_parts (all_below rank r ns) (substitutes_below rank r ss) h in
        ap₂ expanded_substitute (within-agree original ns h0) (substitutes-agree original ss h1)

    within-agree : (original : NamesNode) (ns : Nodes) → all_below rank r ns ≡ true → expand_substitute_nodes e original ns ≡ expand_substitute_nodes f original ns
    within-agree original no_nodes h = refl
    within-agree original (node n ns) h =
        let (h0, h1) = and_parts (calls_below rank r n) (all_below rank r ns) h in
        ap₂ expanded_node (ap (as_substitute_child original n) (fill-agree n h0)) (within-agree original ns h1)

body-agree : (rank : List ℕ → Option ℕ) (r : ℕ) (e f : List ℕ → Option ExpandedNodes) → Agree rank r e f → (o : Option Nodes) → body_below rank r o ≡ true → option_map (expand_nodes e) o ≡ option_map (expand_nodes f) o
body-agree rank r e f same None h = refl
body-agree rank r e f same (Some ns) h = ap Some (fills-agree rank r e f same ns h)

split : (b : Bool) (o : Option ℕ) (n m : Option Nodes) → (o ≡ None → m ≡ None) → (if b then Some 0 else option_map suc o) ≡ None → (if b then n else m) ≡ None
split true o n m f h = grind arith
split false None n m f h = f refl
split false (Some k) n m f h = grind arith

-- a name without a macro stands for nothing
pub body-none : (name : List ℕ) (ds : List Definition) → macro_index name ds ≡ None → macro_body name ds ≡ None
body-none name [] h = refl
body-none name (d ∷ ds) h = split (bytes_eq d.0 name) (macro_index name ds) (Some d.1) (macro_body name ds) (body-none name ds) h

below-more : (o : Option ℕ) (r b : ℕ) → is_below o r ≡ true → r ≤ b → is_below o b ≡ true
below-more None r b h le = refl
below-more (Some q) r b h le = grind (arith, nat_tests)

module _ (ds : List Definition) (ranks : List ℕ) (ok : AreRanks ds ranks) where
  followed-none : (n : ℕ) (name : List ℕ) → macro_index name ds ≡ None → expansion_to_depth ds n name ≡ None
  unfolding expansion_to_depth
  followed-none zero name h = refl
  followed-none (suc n) name h = ap (option_map (expand_nodes (expansion_to_depth ds n))) (body-none name ds h)

  -- a name whose rank is below a bound has the same expansion to every depth from the bound on
  deep-enough : (bound : ℕ) (n m : ℕ) (name : List ℕ) (o : Option ℕ) → macro_index name ds ≡ o → is_below (option_map (slice_index ranks) o) bound ≡ true
      → bound ≤ n → bound ≤ m → expansion_to_depth ds n name ≡ expansion_to_depth ds m name
  unfolding expansion_to_depth
  deep-enough bound n m name None e h ln lm = followed-none n name e ∙ sym (followed-none m name e)
  deep-enough zero n m name (Some at) e h ln lm = grind (arith, nat_tests)
  deep-enough (suc bound) zero m name (Some at) e h ln lm = absurd (omega arith)
  deep-enough (suc bound) (suc n) zero name (Some at) e h ln lm = absurd (omega arith)
  deep-enough (suc bound) (suc n) (suc m) name (Some at) e h ln lm =
      let same : (other : List ℕ) → is_below (rank_of ranks ds other) (slice_index ranks at) ≡ true → expansion_to_depth ds n other ≡ expansion_to_depth ds m other =
      λ other below. deep-enough bound n m other (macro_index other ds) refl (below-more (rank_of ranks ds other) (slice_index ranks at) bound below (grind (arith, nat_tests))) (omega arith) (omega arith) in
      body-agree (rank_of ranks ds) (slice_index ranks at) (expansion_to_depth ds n) (expansion_to_depth ds m) same (macro_body name ds) (ok.fall name (slice_index ranks at) (ap (option_map (slice_index ranks)) e))

pub meaning-unfolds : (ds : List Definition) (name : List ℕ) → IsAcyclic ds → macro_expansion ds name ≡ option_map (expand_nodes (macro_expansion ds)) (macro_body name ds)
unfolding macro_expansion expansion_to_depth
meaning-unfolds ds name (ranks, ok) =
    deep-enough ds ranks ok (length ds) (length ds) (suc (length ds)) name (macro_index name ds) refl (ok.small name) (omega arith) (omega arith)

-- if o has the nodes of a name's first macro, then these nodes, expanded, are the expansion of the
-- name
pub meaning-of : {A : Type 0} (ds : List Definition) (name : List ℕ) (f : A → Nodes) (o : Option A) → IsAcyclic ds → option_map f o ≡ macro_body name ds
    → option_map (λ m. expand_nodes (macro_expansion ds) (f m)) o ≡ macro_expansion ds name
meaning-of ds name f None ok e = ap (option_map (expand_nodes (macro_expansion ds))) e ∙ sym (meaning-unfolds ds name ok)
meaning-of ds name f (Some m) ok e = ap (option_map (expand_nodes (macro_expansion ds))) e ∙ sym (meaning-unfolds ds name ok)

-- ---- by the place of the macro

module _ (ds : List Definition) (name : List ℕ) (ok : IsAcyclic ds) where
  pub meaning-at : (i : ℕ) → macro_index name ds ≡ Some i → macro_expansion ds name ≡ Some (expand_nodes (macro_expansion ds) (children_at ds i))
  meaning-at i h = meaning-unfolds ds name ok ∙ ap (option_map (expand_nodes (macro_expansion ds))) (place-is name ds i h).holds

  pub meaning-if : (o : Option ℕ) → macro_index name ds ≡ o → IfSome o (λ i. macro_expansion ds name ≡ Some (expand_nodes (macro_expansion ds) (children_at ds i)))
  meaning-if None h = tt
  meaning-if (Some i) h = meaning-at i h
