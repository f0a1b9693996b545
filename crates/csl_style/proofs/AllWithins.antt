-- A style within limits, from its parts: layouts of one text, and the sizes that are known.
use Rattle.std.proofs.Common.{◌≡◌, ℕ, zero, suc, ◌+◌, ◌<◌, ◌≤◌, Bool, true, false, if◌then◌else◌, ◌≢◌, ◌⊎◌, List, [], length, replicate, slice_index_or, slice_set, Option, Some, None, IfSome, option_map, refl, sym, ap, subst, ◌∙◌, arith, inl, inr, get_or-set_same, get_or-set_other}
use Rattle.std.specs.Prelude.{MatchOption}
use Rattle.std.proofs.lemmas.Bool.{cases_order}
use Rattle.csl_elements.specs.Node.{Node, call, ExpandedNode, ExpandedNodes, LayoutNode, expand, expand_nodes, expand_layout}
use Rattle.csl_elements.specs.View.{Definition, definitions, view_layout}
use Rattle.csl_style.specs.Style.{StyleParts}
use Rattle.csl_style.specs.AllNodes.{called_name}
use Rattle.csl_style.specs.CallGraph.{children_at}
use Rattle.csl_style.specs.Expansion.{macro_index, macro_expansion, IsAcyclic}
use Rattle.csl_style.specs.Expanded.{macro_env}
use Rattle.csl_style.specs.Depth.{node_depth, layout_depth}
use Rattle.csl_style.specs.Size.{counted, weights, weight, layout_size, rendered_size}
use Rattle.csl_style.specs.AllWithin.{IsKnownSize, AreKnownSizes, AreNodesWithin, IsLayoutWithin, IsAllWithin, IsOneCall, IsOneVariable, NameMeans}
use Rattle.csl_style.specs.declared.size.MacroSize.{MacroSize}
use Rattle.csl_style.proofs.Meanings.{body-none, meaning-unfolds, meaning-at}
use Rattle.csl_style.proofs.PlacesByName.{within-list}
use Rattle.csl_elements.specs.declared.element.CslMacro.{CslMacro}
use Rattle.csl_elements.specs.declared.element.Layout.{Layout}

-- ---- a layout of one text

module _ (s : StyleParts) (rendered size depth : ℕ) where
  pub one_call : (2 ≤ rendered) → (2 ≤ size) → (2 ≤ depth)
      → ((i : ℕ) → i < length s.macros → AreNodesWithin s rendered size depth (expand_nodes (macro_env s) (children_at (definitions s.macros) i)))
      → ((name : List ℕ) → NameMeans s name) → (l : LayoutNode) → IsOneCall l → IsLayoutWithin s rendered size depth l
  one_call least-rendered least-size least-depth macros means l (name, d, is) = by_place (macro_index name (definitions s.macros)) (means name)
    where
      by_place : (o : Option ℕ) → MatchOption o (macro_env s name ≡ None) (λ i. (i < length s.macros) × (macro_env s name ≡ Some (expand_nodes (macro_env s) (children_at (definitions s.macros) i)))) → IsLayoutWithin s rendered size depth l
      by_place None none = rw is (rw none (least-rendered, least-size, least-depth))
      by_place (Some i) (within, found) =
          let nodes = macros i within in
          rw is (rw found (omega (arith, nodes.most_rendered), omega (arith, nodes.most_nodes), omega (arith, nodes.deepest)))

  pub one_variable : (2 ≤ rendered) → (2 ≤ size) → (2 ≤ depth) → (l : LayoutNode) → IsOneVariable l → IsLayoutWithin s rendered size depth l
  one_variable least-rendered least-size least-depth l (v, form, d, is) = rw is (least-rendered, least-size, least-depth)

  -- a macro that is above the limits is one of the style
  pub not_all : (i : ℕ) → i < length s.macros → ¬ AreNodesWithin s rendered size depth (expand_nodes (macro_env s) (children_at (definitions s.macros) i)) → ¬ IsAllWithin s rendered size depth
  not_all i within above all = above (all.macros i within)

  -- nor is a style with a layout above them within them
  abbrev pub IsAbove : LayoutNode → Type 0
  IsAbove l =
      (rendered < rendered_size s.locales (expand_layout (macro_env s) l))
      ⊎ ((size < layout_size (expand_layout (macro_env s) l))
      ⊎ (depth < layout_depth (expand_layout (macro_env s) l)))

  not_layout : (l : LayoutNode) → IsAbove l → IsLayoutWithin s rendered size depth l → ⊥
  not_layout l (inl above) within = omega (arith, within.0)
  not_layout l (inr (inl above)) within = omega (arith, within.1)
  not_layout l (inr (inr above)) within = omega (arith, within.2)

  pub not_citation : IsAbove (view_layout s.citation) → ¬ IsAllWithin s rendered size depth
  not_citation above all = not_layout (view_layout s.citation) above all.citation

  pub not_bibliography : (l : Layout) → s.bibliography ≡ Some l → IsAbove (view_layout l) → ¬ IsAllWithin s rendered size depth
  not_bibliography l is above all = not_layout (view_layout l) above (subst (λ o. IfSome o (λ m. IsLayoutWithin s rendered size depth (view_layout m))) is all.bibliography)

-- ---- what each name means

pub name_means : (ms : List CslMacro) (name : List ℕ) → IsAcyclic (definitions ms) → MatchOption (macro_index name (definitions ms)) (macro_expansion (definitions ms) name ≡ None) (λ i. (i < length ms) × (macro_expansion (definitions ms) name ≡ Some (expand_nodes (macro_expansion (definitions ms)) (children_at (definitions ms) i))))
name_means ms name ok = by_place (macro_index name (definitions ms)) refl
  where
    ds : List Definition
    ds = definitions ms

    by_place : (o : Option ℕ) → macro_index name (definitions ms) ≡ o → MatchOption o (macro_expansion ds name ≡ None) (λ i. (i < length ms) × (macro_expansion ds name ≡ Some (expand_nodes (macro_expansion ds) (children_at ds i))))
    by_place None e = meaning-unfolds ds name ok ∙ ap (option_map (expand_nodes (macro_expansion ds))) (body-none name ds e)
    by_place (Some i) e = (within-list ms name (Some i) e, meaning-at ds name ok i e)

-- ---- the sizes that are known

module _ (s : StyleParts) where
  abbrev unknown : Option MacroSize
  unknown = None

  none_at : (n i : ℕ) → slice_index_or (replicate n unknown) i unknown ≡ unknown
  none_at zero i = refl
  none_at (suc n) zero = refl
  none_at (suc n) (suc i) = none_at n i

  pub none_known : (n : ℕ) → AreKnownSizes s (replicate n unknown)
  none_known n = record { holds = λ i size e. absurd (nothing_some size (sym (none_at n i) ∙ e)) }
    where
      nothing_some : (size : MacroSize) → unknown ≡ Some size → ⊥
      nothing_some size e = grind arith

  pub known_set : (known : List (Option MacroSize)) (at : ℕ) (size : MacroSize) → AreKnownSizes s known → at < length known
      → IsKnownSize s (expand_nodes (macro_env s) (children_at (definitions s.macros) at)) size → AreKnownSizes s (slice_set known at (Some size))
  known_set known at size is within new = record {
    holds = λ i other e. elim (cases_order i at) [
      | inl same ↦
          let e' : Some size ≡ Some other = sym (get_or-set_same known at (Some size) None within) ∙ ap (λ k. slice_index_or (slice_set known at (Some size)) k None) (sym same) ∙ e in
          let here : size ≡ other = grind (arith, e') in
          subst (λ k. IsKnownSize s (expand_nodes (macro_env s) (children_at (definitions s.macros) k)) other) (sym same) (subst (λ z. IsKnownSize s (expand_nodes (macro_env s) (children_at (definitions s.macros) at)) z) here new)
      | inr different ↦
          let apart : i ≢ at = elim different [ inl less ↦ omega arith | inr more ↦ omega arith ] in
          is.holds i other (sym (get_or-set_other known at i (Some size) None apart) ∙ e)
    ];
  }

  pub known_at : (known : List (Option MacroSize)) (i : ℕ) (o : Option MacroSize) → AreKnownSizes s known → slice_index_or known i None ≡ o → IfSome o (IsKnownSize s (expand_nodes (macro_env s) (children_at (definitions s.macros) i)))
  known_at known i None is e = tt
  known_at known i (Some size) is e = is.holds i size e

  -- a node that calls a macro is one larger than its nodes, and one deeper
  pub call_size : (once : Bool) (n : Node) (name : List ℕ) (fs : ExpandedNodes) (k : MacroSize) → called_name n ≡ Some name → macro_env s name ≡ Some fs → IsKnownSize s fs k
      → (weight once (counted once s.locales) (expand (macro_env s) n) ≡ suc (if once then k.rendered else k.all)) × (node_depth (expand (macro_env s) n) ≡ suc k.depth)
  call_size once (call other d) name fs k e m is =
      let same : other ≡ name = grind (arith, e) in
      rw same (rw m (by_once once, ap suc (sym is.depth)))
    where
      by_once : (b : Bool) → suc (weights b (counted b s.locales) fs) ≡ suc (if b then k.rendered else k.all)
      by_once true = ap suc (sym is.rendered)
      by_once false = ap suc (sym is.all)
  call_size once n name fs k e m is = grind (arith, e)

  -- the same, if something is known of the macro
  module _ (known : List (Option MacroSize)) (i : ℕ) (n : Node) (name : List ℕ) (is : AreKnownSizes s known) (e : called_name n ≡ Some name) (m : macro_env s name ≡ Some (expand_nodes (macro_env s) (children_at (definitions s.macros) i))) where
    abbrev fs : ExpandedNodes
    fs = expand_nodes (macro_env s) (children_at (definitions s.macros) i)

    pub call_all : (o : Option MacroSize) → slice_index_or known i None ≡ o → IfSome o (λ k. weight false [] (expand (macro_env s) n) ≡ k.all + 1)
    call_all None at = tt
    call_all (Some k) at = let size = call_size false n name fs k e m (is.holds i k at) in omega (arith, size.0)

    pub call_rendered : (o : Option MacroSize) → slice_index_or known i None ≡ o → IfSome o (λ k. weight true s.locales (expand (macro_env s) n) ≡ k.rendered + 1)
    call_rendered None at = tt
    call_rendered (Some k) at = let size = call_size true n name fs k e m (is.holds i k at) in omega (arith, size.0)

    pub call_depth : (o : Option MacroSize) → slice_index_or known i None ≡ o → IfSome o (λ k. node_depth (expand (macro_env s) n) ≡ k.depth + 1)
    call_depth None at = tt
    call_depth (Some k) at = let size = call_size true n name fs k e m (is.holds i k at) in omega (arith, size.1)

  pub size_by : (f : ExpandedNode) (rendered all inside : ℕ) (once : Bool) → weight false [] f ≡ all + 1 → weight true s.locales f ≡ rendered + 1 → inside ≡ (if once then rendered else all)
      → weight once (counted once s.locales) f ≡ inside + 1
  size_by f rendered all inside true plain once-only is = once-only ∙ ap (λ k. k + 1) (sym is)
  size_by f rendered all inside false plain once-only is = plain ∙ ap (λ k. k + 1) (sym is)

-- each place up to the next
pub one_more : (P : ℕ → Type 0) (n : ℕ) → ((i : ℕ) → i < n → P i) → P n → (i : ℕ) → i < n + 1 → P i
one_more P n before here i within = elim (cases_order i n) [
  | inl same ↦ subst P (sym same) here
  | inr other ↦ elim other [ inl less ↦ before i less | inr more ↦ absurd (omega arith) ]
]
