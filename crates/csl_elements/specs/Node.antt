-- The nodes of a style (CSL 1.0.2, Rendering Elements) as plain data, in two forms. As written
-- (`Node`), a text of a macro holds a name. Expanded (`ExpandedNode`), it holds the macro's nodes,
-- expanded too, or is `unknown_macro` if the style has no such macro. A names node without children
-- that is directly in a substitute is kept twice, as written and as rendered (`shorthand`). As
-- rendered, it has the name, et-al and label of the names around it, and its own variables and
-- display. Its options, delimiter, affixes and formatting are its own if they are set, field by
-- field, else those of the names around it.
use Rattle.std.specs.Prelude.{ℕ, ◌+◌, suc, Bool, true, false, ◌&&◌, is_none, List, [], ◌∷◌, Option, Some, None, if◌then◌else◌}
use Rattle.csl_common.specs.declared.form.LongShortForm.{LongShortForm}
use Rattle.csl_common.specs.declared.form.NumberForm.{NumberForm}
use Rattle.csl_elements.specs.declared.formatting.Formatting.{Formatting}
use Rattle.csl_elements.specs.declared.taxonomy.Variable.{Variable}
use Rattle.csl_elements.specs.declared.taxonomy.NumberOrPageVariable.{NumberOrPageVariable}
use Rattle.csl_elements.specs.declared.taxonomy.DateVariable.{DateVariable}
use Rattle.csl_elements.specs.declared.taxonomy.Locator.{Locator}
use Rattle.csl_elements.specs.declared.taxonomy.Kind.{Kind}
use Rattle.csl_elements.specs.declared.term.Term.{Term}
use Rattle.csl_elements.specs.declared.term.TermForm.{TermForm}
use Rattle.csl_elements.specs.declared.date.DateForm.{DateForm}
use Rattle.csl_elements.specs.declared.date.DateParts.{DateParts}
use Rattle.csl_elements.specs.declared.date.DatePartName.{DatePartName}
use Rattle.csl_elements.specs.declared.date.DateAnyForm.{DateAnyForm}
use Rattle.csl_elements.specs.declared.element.ChooseMatch.{ChooseMatch}
use Rattle.csl_elements.specs.declared.element.TestPosition.{TestPosition}
use Rattle.csl_elements.specs.Dressing.{AffixTexts, Dressing, TextDressing}
use Rattle.csl_elements.specs.Names.{LabelNode, NamesNode, NameNode, shorthand_expansion}

-- the target of a text that calls no macro
pub data Target : Type 0 where
  of_variable : Variable → LongShortForm → Target
  of_term : Term → TermForm → Bool → Target
  of_value : List ℕ → Target

pub record NumberNode : Type 0 where
  pub variable : NumberOrPageVariable
  pub form : NumberForm
  pub dressing : Dressing

pub record DatePartNode : Type 0 where
  pub name : DatePartName
  pub form : Option DateAnyForm
  pub formatting : Formatting
  pub affixes : AffixTexts
  pub strip_periods : Bool

pub record DateNode : Type 0 where
  pub variable : Option DateVariable
  pub form : Option DateForm
  pub parts : Option DateParts
  pub date_part : List DatePartNode
  pub delimiter : Option (List ℕ)
  pub dressing : Dressing

-- the tests of a branch (CSL 1.0.2, Choose)
pub record Tests : Type 0 where
  pub disambiguate : Option Bool
  pub is_numeric : Option (List Variable)
  pub is_uncertain_date : Option (List DateVariable)
  pub locator : Option (List Locator)
  pub position : Option (List TestPosition)
  pub type_ : Option (List Kind)
  pub variable : Option (List Variable)
  pub match_ : ChooseMatch

-- ---- nodes as written

mutual
  pub data Node : Type 0 where
    text : Target → TextDressing → Node
    call : List ℕ → TextDressing → Node
    number : NumberNode → Node
    label : NumberOrPageVariable → LabelNode → Node
    date : DateNode → Node
    names : NamesNode → Substitutes → Node
    choose : Branches → Node
    group : Option (List ℕ) → Dressing → Nodes → Node

  pub data Nodes : Type 0 where
    no_nodes : Nodes
    node : Node → Nodes → Nodes

  -- the branches in order, and after them the nodes of `cs:else`, if there is one
  pub data Branches : Type 0 where
    no_branches : Branches
    otherwise : Nodes → Branches
    branch : Tests → Nodes → Branches → Branches

  -- the substitutes of a names node; the first one counts
  pub data Substitutes : Type 0 where
    no_substitutes : Substitutes
    substitute : Nodes → Substitutes → Substitutes

pub record LayoutNode : Type 0 where
  pub delimiter : Option (List ℕ)
  pub formatting : Formatting
  pub elements : Nodes

-- ---- expanded nodes

mutual
  pub data ExpandedNode : Type 0 where
    expanded_text : Target → TextDressing → ExpandedNode
    -- a text of a macro, and a text of a macro that the style lacks
    expanded_macro : ExpandedNodes → TextDressing → ExpandedNode
    unknown_macro : ExpandedNode
    expanded_number : NumberNode → ExpandedNode
    expanded_label : NumberOrPageVariable → LabelNode → ExpandedNode
    expanded_date : DateNode → ExpandedNode
    expanded_names : NamesNode → ExpandedSubstitutes → ExpandedNode
    -- a names node without children in a substitute, as written and as rendered
    shorthand : NamesNode → NamesNode → ExpandedNode
    expanded_choose : ExpandedBranches → ExpandedNode
    expanded_group : Option (List ℕ) → Dressing → ExpandedNodes → ExpandedNode

  pub data ExpandedNodes : Type 0 where
    no_expanded_nodes : ExpandedNodes
    expanded_node : ExpandedNode → ExpandedNodes → ExpandedNodes

  pub data ExpandedBranches : Type 0 where
    no_expanded_branches : ExpandedBranches
    expanded_otherwise : ExpandedNodes → ExpandedBranches
    expanded_branch : Tests → ExpandedNodes → ExpandedBranches → ExpandedBranches

  pub data ExpandedSubstitutes : Type 0 where
    no_expanded_substitutes : ExpandedSubstitutes
    expanded_substitute : ExpandedNodes → ExpandedSubstitutes → ExpandedSubstitutes

pub record ExpandedLayout : Type 0 where
  pub delimiter : Option (List ℕ)
  pub formatting : Formatting
  pub elements : ExpandedNodes

-- ---- from the first form to the second

abbrev pub expand_call : TextDressing → Option ExpandedNodes → ExpandedNode
expand_call d None = unknown_macro
expand_call d (Some fs) = expanded_macro fs d

abbrev is_empty : List NameNode → Bool
is_empty [] = true
is_empty (x ∷ xs) = false

abbrev has_no_substitutes : Substitutes → Bool
has_no_substitutes no_substitutes = true
has_no_substitutes (substitute ns ss) = false

-- whether a names node has no children
abbrev pub is_childless : NamesNode → Substitutes → Bool
is_childless n ss = is_empty n.name_children && is_none n.et_al && is_none n.label && has_no_substitutes ss

-- a child of a substitute; f is its expansion in any other place
abbrev pub as_substitute_child : NamesNode → Node → ExpandedNode → ExpandedNode
as_substitute_child original (text t d) f = f
as_substitute_child original (call name d) f = f
as_substitute_child original (number n) f = f
as_substitute_child original (label v l) f = f
as_substitute_child original (date d) f = f
as_substitute_child original (names n ss) f = if is_childless n ss then shorthand n (shorthand_expansion original n) else f
as_substitute_child original (choose bs) f = f
as_substitute_child original (group delimiter d ns) f = f

-- a child of the substitute of the names `original`: names without children (`own`) are in the
-- place of `original`, any other node is as elsewhere (`f`)
abbrev pub standing_in : NamesNode → ExpandedNode → Option NamesNode → ExpandedNode
standing_in original f None = f
standing_in original f (Some own) = shorthand own (shorthand_expansion original own)

-- A node with each macro name replaced by the nodes that it stands for.
abbrev mutual
  pub expand : (List ℕ → Option ExpandedNodes) → Node → ExpandedNode
  expand env (text t d) = expanded_text t d
  expand env (call name d) = expand_call d (env name)
  expand env (number n) = expanded_number n
  expand env (label v l) = expanded_label v l
  expand env (date d) = expanded_date d
  expand env (names n ss) = expanded_names n (expand_substitutes env n ss)
  expand env (choose bs) = expanded_choose (expand_branches env bs)
  expand env (group delimiter d ns) = expanded_group delimiter d (expand_nodes env ns)

  pub expand_nodes : (List ℕ → Option ExpandedNodes) → Nodes → ExpandedNodes
  expand_nodes env no_nodes = no_expanded_nodes
  expand_nodes env (node n ns) = expanded_node (expand env n) (expand_nodes env ns)

  pub expand_branches : (List ℕ → Option ExpandedNodes) → Branches → ExpandedBranches
  expand_branches env no_branches = no_expanded_branches
  expand_branches env (otherwise ns) = expanded_otherwise (expand_nodes env ns)
  expand_branches env (branch ts ns bs) = expanded_branch ts (expand_nodes env ns) (expand_branches env bs)

  -- the substitutes of a names node
  pub expand_substitutes : (List ℕ → Option ExpandedNodes) → NamesNode → Substitutes → ExpandedSubstitutes
  expand_substitutes env original no_substitutes = no_expanded_substitutes
  expand_substitutes env original (substitute ns ss) = expanded_substitute (expand_substitute_nodes env original ns) (expand_substitutes env original ss)

  pub expand_substitute_nodes : (List ℕ → Option ExpandedNodes) → NamesNode → Nodes → ExpandedNodes
  expand_substitute_nodes env original no_nodes = no_expanded_nodes
  expand_substitute_nodes env original (node n ns) = expanded_node (as_substitute_child original n (expand env n)) (expand_substitute_nodes env original ns)

abbrev pub expand_layout : (List ℕ → Option ExpandedNodes) → LayoutNode → ExpandedLayout
expand_layout env l = record { delimiter = l.delimiter; formatting = l.formatting; elements = expand_nodes env l.elements }

-- A count of the nodes inside, which falls in each recursive call. A names node without children
-- counts the same in a substitute and elsewhere.
abbrev mutual
  pub size : ExpandedNode → ℕ
  size (expanded_text t d) = 0
  size (expanded_macro fs d) = suc (sizes fs)
  size unknown_macro = 0
  size (expanded_number n) = 0
  size (expanded_label v l) = 0
  size (expanded_date d) = 0
  size (expanded_names n is) = suc (expanded_substitutes_size is)
  size (shorthand written n) = 1
  size (expanded_choose cs) = suc (expanded_branches_size cs)
  size (expanded_group delimiter d fs) = suc (sizes fs)

  pub sizes : ExpandedNodes → ℕ
  sizes no_expanded_nodes = 0
  sizes (expanded_node f fs) = suc (size f + sizes fs)

  pub expanded_branches_size : ExpandedBranches → ℕ
  expanded_branches_size no_expanded_branches = 0
  expanded_branches_size (expanded_otherwise fs) = suc (sizes fs)
  expanded_branches_size (expanded_branch ts fs cs) = suc (sizes fs + expanded_branches_size cs)

  pub expanded_substitutes_size : ExpandedSubstitutes → ℕ
  expanded_substitutes_size no_expanded_substitutes = 0
  expanded_substitutes_size (expanded_substitute fs is) = suc (sizes fs + expanded_substitutes_size is)
