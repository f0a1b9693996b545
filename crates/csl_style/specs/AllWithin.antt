-- Limits for a whole style: for its layouts, and for each layout that is one text of a macro, such as
-- that of a sort key (CSL 1.0.2, Macro; Sorting). So each macro is within them too, also one that no
-- layout calls. A text of a macro is three larger than the nodes of the macro, and two deeper. Only
-- private contracts cite `IsKnownSize` and `AreKnownSizes`.
use Rattle.std.specs.Prelude.{◌≡◌, ℕ, ◌+◌, ◌<◌, ◌≤◌, false, true, List, [], length, slice_index_or, Option, Some, None, IfSome, MatchOption}
use Rattle.csl_elements.specs.Dressing.{TextDressing}
use Rattle.csl_elements.specs.Node.{node, no_nodes, call, text, of_variable, LayoutNode, ExpandedNodes, expand_nodes, expand_layout}
use Rattle.csl_elements.specs.View.{definitions, view_layout}
use Rattle.csl_elements.specs.declared.taxonomy.Variable.{Variable}
use Rattle.csl_common.specs.declared.form.LongShortForm.{LongShortForm}
use Rattle.csl_style.specs.declared.size.MacroSize.{MacroSize}
use Rattle.csl_style.specs.CallGraph.{children_at}
use Rattle.csl_style.specs.Depth.{nodes_depth, layout_depth}
use Rattle.csl_style.specs.Expanded.{macro_env}
use Rattle.csl_style.specs.Expansion.{macro_index}
use Rattle.csl_style.specs.Size.{weights, layout_size, rendered_size}
use Rattle.csl_style.specs.Style.{StyleParts}

-- the size of the nodes of a macro
pub record IsKnownSize (s : StyleParts) (fs : ExpandedNodes) (known : MacroSize) : Type 0 where
  pub all : known.all ≡ weights false [] fs
  pub rendered : known.rendered ≡ weights true s.locales fs
  pub depth : known.depth ≡ nodes_depth fs

-- what is known of the macro at each place is so
pub record AreKnownSizes (s : StyleParts) (known : List (Option MacroSize)) : Type 0 where
  pub holds : (i : ℕ) (size : MacroSize) → slice_index_or known i None ≡ Some size → IsKnownSize s (expand_nodes (macro_env s) (children_at (definitions s.macros) i)) size

module _ (s : StyleParts) (rendered size depth : ℕ) where
  -- a layout is within the limits
  abbrev pub IsLayoutWithin : LayoutNode → Type 0
  IsLayoutWithin l =
      (rendered_size s.locales (expand_layout (macro_env s) l) ≤ rendered)
      × (layout_size (expand_layout (macro_env s) l) ≤ size)
      × (layout_depth (expand_layout (macro_env s) l) ≤ depth)

  -- a text of a macro of these nodes is, as a layout of its own
  pub record AreNodesWithin (fs : ExpandedNodes) : Type 0 where
    pub most_rendered : weights true s.locales fs + 3 ≤ rendered
    pub most_nodes : weights false [] fs + 3 ≤ size
    pub deepest : nodes_depth fs + 2 ≤ depth

  pub record IsAllWithin : Type 0 where
    pub smallest : (2 ≤ rendered) × (2 ≤ size) × (2 ≤ depth)
    pub citation : IsLayoutWithin (view_layout s.citation)
    pub bibliography : IfSome s.bibliography (λ l. IsLayoutWithin (view_layout l))
    pub macros : (i : ℕ) → i < length s.macros → AreNodesWithin (expand_nodes (macro_env s) (children_at (definitions s.macros) i))

-- a name stands for the nodes of its first macro
abbrev pub NameMeans : StyleParts → List ℕ → Type 0
NameMeans s name = MatchOption (macro_index name (definitions s.macros)) (macro_env s name ≡ None) (λ i. (i < length s.macros) × (macro_env s name ≡ Some (expand_nodes (macro_env s) (children_at (definitions s.macros) i))))

-- the layout is one text, of a macro or of a variable
abbrev pub IsOneCall : LayoutNode → Type 0
IsOneCall l = (name : List ℕ) × (d : TextDressing) × (l.elements ≡ node (call name d) no_nodes)

abbrev pub IsOneVariable : LayoutNode → Type 0
IsOneVariable l = (v : Variable) × (form : LongShortForm) × (d : TextDressing) × (l.elements ≡ node (text (of_variable v form) d) no_nodes)
