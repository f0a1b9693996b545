-- The node of each value of a style, as plain data: texts as bytes, lists as lists. Of several
-- et-al children or labels of a names node the first counts.
use Rattle.std.specs.Prelude.{ℕ, Bool, true, false, List, [], ◌∷◌, map, length, Option, Some, None, option_map, Vec, string_bytes}
use Rattle.std.specs.declared.alloc.Global.{Global}
use Rattle.csl_elements.specs.Dressing.{affix_texts, dressing_of, TextDressing, text_if}
use Rattle.csl_elements.specs.NamesOptions.{partial_options}
use Rattle.csl_elements.specs.Names.{NameNode, view_name, EtAlNode, view_et_al, LabelNode, view_label, NamesLabel}
use Rattle.csl_elements.specs.Node.{of_variable, of_term, of_value, NumberNode, DatePartNode, DateNode, Tests, Node, text, call, number, label, date, names, choose, group, Nodes, no_nodes, node, Branches, no_branches, otherwise, branch, Substitutes, no_substitutes, substitute, LayoutNode}
use Rattle.csl_elements.specs.declared.text.Text.{Text}
use Rattle.csl_elements.specs.declared.text.TextTarget.{TextTarget}
use Rattle.csl_elements.specs.declared.text.TextTarget.TheVariants as target
use Rattle.csl_elements.specs.declared.number.Number.{Number}
use Rattle.csl_elements.specs.declared.date.DatePart.{DatePart}
use Rattle.csl_elements.specs.declared.date.Date.{Date}
use Rattle.csl_elements.specs.declared.element.LayoutRenderingElement.{LayoutRenderingElement, fold-LayoutRenderingElement}
use Rattle.csl_elements.specs.declared.element.LayoutRenderingElement.TheOpen as level
use Rattle.csl_elements.specs.declared.element.LayoutRenderingElement.TheOpen.{LayoutRenderingElement-F, Choose-F, ChooseBranch-F, Group-F, Names-F, NamesChild-F, Substitute-F}
use Rattle.csl_elements.specs.declared.element.Choose.{Choose, fold-Choose, out-Choose}
use Rattle.csl_elements.specs.declared.element.ChooseBranch.{ChooseBranch, fold-ChooseBranch}
use Rattle.csl_elements.specs.declared.element.Group.{Group, fold-Group}
use Rattle.csl_elements.specs.declared.element.Names.{Names, fold-Names}
use Rattle.csl_elements.specs.declared.element.NamesChild.{NamesChild, fold-NamesChild}
use Rattle.csl_elements.specs.declared.element.Substitute.{Substitute, fold-Substitute}
use Rattle.csl_elements.specs.declared.element.Layout.{Layout}
use Rattle.csl_elements.specs.declared.element.RenderingElement.{RenderingElement}
use Rattle.csl_elements.specs.declared.element.RenderingElement.TheVariants as rendering
use Rattle.csl_elements.specs.declared.element.CslMacro.{CslMacro}
use Rattle.std.specs.Str.{bytes_eq}

abbrev pub nodes_of : List Node → Nodes
nodes_of [] = no_nodes
nodes_of (n ∷ ns) = node n (nodes_of ns)

-- ---- nodes that hold no nodes

abbrev text_node : TextTarget → TextDressing → Node
text_node (target.Variable v form) d = text (of_variable v form) d
text_node (target.Macro name) d = call (string_bytes name) d
text_node (target.Term t form plural) d = text (of_term t form plural) d
text_node (target.Value s) d = text (of_value (string_bytes s)) d

abbrev pub text_dressing : Text → TextDressing
text_dressing t = record { dressing = dressing_of t.formatting t.affixes t.display; quotes = t.quotes; strip_periods = t.strip_periods }

abbrev pub view_text : Text → Node
view_text t = text_node t.target (text_dressing t)

abbrev pub view_number : Number → NumberNode
view_number n = record { variable = n.variable; form = n.form; dressing = dressing_of n.formatting n.affixes n.display }

abbrev pub view_date_part : DatePart → DatePartNode
view_date_part p = record { name = p.name; form = p.form; formatting = p.formatting; affixes = affix_texts p.affixes; strip_periods = p.strip_periods }

abbrev pub view_date : Date → DateNode
view_date d = record {
  variable = d.variable;
  form = d.form;
  parts = d.parts;
  date_part = map view_date_part d.date_part.items;
  delimiter = text_if d.delimiter;
  dressing = dressing_of d.formatting d.affixes d.display;
}

-- ---- the branches of a choose

pub record BranchView : Type 0 where
  pub tests : Tests
  pub nodes : Nodes

abbrev branches_else : Option Nodes → Branches
branches_else None = no_branches
branches_else (Some ns) = otherwise ns

abbrev pub branches_of : List BranchView → Option Nodes → Branches
branches_of [] o = branches_else o
branches_of (p ∷ ps) o = branch p.tests p.nodes (branches_of ps o)

-- ---- the children of names

pub data NamesChildView : Type 0 where
  a_name : NameNode → NamesChildView
  an_et_al : EtAlNode → NamesChildView
  a_label : LabelNode → NamesChildView
  a_substitute : Nodes → NamesChildView

abbrev pub name_children : List NamesChildView → List NameNode
name_children [] = []
name_children (a_name n ∷ cs) = n ∷ name_children cs
name_children (an_et_al e ∷ cs) = name_children cs
name_children (a_label l ∷ cs) = name_children cs
name_children (a_substitute ns ∷ cs) = name_children cs

abbrev pub first_et_al : List NamesChildView → Option EtAlNode
first_et_al [] = None
first_et_al (a_name n ∷ cs) = first_et_al cs
first_et_al (an_et_al e ∷ cs) = Some e
first_et_al (a_label l ∷ cs) = first_et_al cs
first_et_al (a_substitute ns ∷ cs) = first_et_al cs

-- The first label is after the names if a name child comes before it; `seen_name` is whether one
-- came already.
abbrev pub first_label : Bool → List NamesChildView → Option NamesLabel
first_label seen_name [] = None
first_label seen_name (a_name n ∷ cs) = first_label true cs
first_label seen_name (an_et_al e ∷ cs) = first_label seen_name cs
first_label seen_name (a_label l ∷ cs) = Some (record { label = l; is_after = seen_name })
first_label seen_name (a_substitute ns ∷ cs) = first_label seen_name cs

abbrev pub substitutes : List NamesChildView → Substitutes
substitutes [] = no_substitutes
substitutes (a_name n ∷ cs) = substitutes cs
substitutes (an_et_al e ∷ cs) = substitutes cs
substitutes (a_label l ∷ cs) = substitutes cs
substitutes (a_substitute ns ∷ cs) = substitute ns (substitutes cs)

-- ---- one level of each node, from the views of its children

abbrev pub element_step : LayoutRenderingElement-F Node NamesChildView Node BranchView Node Node Nodes → Node
element_step (level.Text t) = view_text t
element_step (level.Number n) = number (view_number n)
element_step (level.LayoutRenderingElement::Label l) = label l.variable (view_label l.label)
element_step (level.Date d) = date (view_date d)
element_step (level.Names n) = n
element_step (level.Choose n) = n
element_step (level.Group n) = n

abbrev pub choose_step : Choose-F Node NamesChildView Node BranchView Node Node Nodes → Node
choose_step c = choose (branches_of (c.if_ ∷ c.else_if.items) (option_map (λ ns. nodes_of ns.items) c.otherwise))

abbrev items_if : {A : Type 0} → Option (Vec A Global) → Option (List A)
items_if o = option_map (λ v. v.items) o

abbrev pub branch_step : ChooseBranch-F Node NamesChildView Node BranchView Node Node Nodes → BranchView
branch_step b = record {
  tests = record {
    disambiguate = b.disambiguate;
    is_numeric = items_if b.is_numeric;
    is_uncertain_date = items_if b.is_uncertain_date;
    locator = items_if b.locator;
    position = items_if b.position;
    type_ = items_if b.type_;
    variable = items_if b.variable;
    match_ = b.match_;
  };
  nodes = nodes_of b.children.items;
}

abbrev pub group_step : Group-F Node NamesChildView Node BranchView Node Node Nodes → Node
group_step g = group (text_if g.delimiter) (dressing_of g.formatting g.affixes g.display) (nodes_of g.children.items)

abbrev pub names_step : Names-F Node NamesChildView Node BranchView Node Node Nodes → Node
names_step n = names (record {
  variables = n.variable.items;
  options = partial_options n.options;
  delimiter = text_if n.delimiter;
  dressing = dressing_of n.formatting n.affixes n.display;
  name_children = name_children n.children.items;
  et_al = first_et_al n.children.items;
  label = first_label false n.children.items;
  child_count = length n.children.items;
}) (substitutes n.children.items)

abbrev pub child_step : NamesChild-F Node NamesChildView Node BranchView Node Node Nodes → NamesChildView
child_step (level.Name n) = a_name (view_name n)
child_step (level.EtAl e) = an_et_al (view_et_al e)
child_step (level.NamesChild::Label l) = a_label (view_label l)
child_step (level.Substitute ns) = a_substitute ns

abbrev pub substitute_step : Substitute-F Node NamesChildView Node BranchView Node Node Nodes → Nodes
substitute_step s = nodes_of s.children.items

-- ---- every level

abbrev pub view_node : LayoutRenderingElement → Node
view_node = fold-LayoutRenderingElement Node NamesChildView Node BranchView Node Node Nodes element_step child_step choose_step branch_step group_step names_step substitute_step

abbrev pub view_choose : Choose → Node
view_choose = fold-Choose Node NamesChildView Node BranchView Node Node Nodes element_step child_step choose_step branch_step group_step names_step substitute_step

abbrev pub view_branch : ChooseBranch → BranchView
view_branch = fold-ChooseBranch Node NamesChildView Node BranchView Node Node Nodes element_step child_step choose_step branch_step group_step names_step substitute_step

abbrev pub view_group : Group → Node
view_group = fold-Group Node NamesChildView Node BranchView Node Node Nodes element_step child_step choose_step branch_step group_step names_step substitute_step

abbrev pub view_names : Names → Node
view_names = fold-Names Node NamesChildView Node BranchView Node Node Nodes element_step child_step choose_step branch_step group_step names_step substitute_step

abbrev pub view_child : NamesChild → NamesChildView
view_child = fold-NamesChild Node NamesChildView Node BranchView Node Node Nodes element_step child_step choose_step branch_step group_step names_step substitute_step

abbrev pub view_substitute : Substitute → Nodes
view_substitute = fold-Substitute Node NamesChildView Node BranchView Node Node Nodes element_step child_step choose_step branch_step group_step names_step substitute_step

abbrev pub view_nodes : List LayoutRenderingElement → Nodes
view_nodes es = nodes_of (map view_node es)

abbrev pub view_layout : Layout → LayoutNode
view_layout l = record { delimiter = text_if l.delimiter; formatting = l.formatting; elements = view_nodes l.elements.items }

-- a rendering element: a whole layout, or a node of one
pub data ElementView : Type 0 where
  of_layout : LayoutNode → ElementView
  of_node : Node → ElementView

abbrev pub view_rendering : RenderingElement → ElementView
view_rendering (rendering.Layout l) = of_layout (view_layout l)
view_rendering (rendering.Other e) = of_node (view_node e)

-- A macro is a name and the nodes that it stands for.
abbrev pub Definition : Type 0
Definition = List ℕ × Nodes

abbrev pub definition : CslMacro → Definition
definition m = (string_bytes m.name, view_nodes m.children.items)

abbrev pub definitions : List CslMacro → List Definition
definitions ms = map definition ms

-- the macro has that name
abbrev pub is_named : List ℕ → CslMacro → Bool
is_named name m = bytes_eq (string_bytes m.name) name

-- the `if` branch, then each `else-if` in order
abbrev pub branches : Choose → List ChooseBranch
branches c = (out-Choose c).if_ ∷ (out-Choose c).else_if.items
