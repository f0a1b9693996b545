-- The dry run of a node (`info`), the variables that it shows (`shows`), and its content with the
-- state that it leaves (`node_output`) (CSL 1.0.2, Rendering Elements; Group; Layout; Macro;
-- Choose; Names). Each macro's nodes are in the place of its name. The three depend on the input
-- and the state, and contents also on the inherited values. A text that calls a macro, a group and
-- a layout show the variables that any child shows. A choice has the dry run of the nodes that it
-- takes, together, without the group flag. It shows the variables that any of them shows. If it
-- takes none, it does not print, has no flags and shows nothing. A layout is the content of its
-- elements, one after another, in its formatting (`layout_output`). No delimiter is between them. A
-- choice directly in the layout inherits the layout's delimiter. Only private contracts and proofs
-- cite `choice_info`, `choice_shows`, `choice_output` and `first_substitute_output`.
use Rattle.std.specs.Prelude.{ℕ, Bool, true, false, ◌||◌, List, [], Option, Some, None, if◌then◌else◌}
use Rattle.csl_elements.specs.declared.taxonomy.Variable.{Variable}
use Rattle.csl_elements.specs.Dressing.{AffixTexts, Dressing, TextDressing}
use Rattle.csl_elements.specs.Names.{NamesNode}
use Rattle.csl_elements.specs.Node.{ExpandedNode, expanded_text, expanded_macro, unknown_macro, expanded_number, expanded_label, expanded_date, expanded_names, shorthand, expanded_choose, expanded_group, ExpandedNodes, no_expanded_nodes, expanded_node, ExpandedBranches, no_expanded_branches, expanded_otherwise, expanded_branch, ExpandedSubstitutes, no_expanded_substitutes, expanded_substitute, ExpandedLayout}
use Rattle.csl_tree.specs.Tokens.{Token, has_text}
use Rattle.csl_tree.specs.Content.{◌++>◌, elem_content}
use Rattle.csl_context.specs.State.{State, Inherited, with_node_formatting}
use Rattle.csl_context.specs.RenderInput.{RenderInput}
use Rattle.csl_context.specs.Texts.{text_in, affixed_in}
use Rattle.csl_names.specs.NamesLists.{PersonLists, all_empty, peeked_lists, resolved_lists, lists_state}
use Rattle.csl_nodes.specs.Condition.{branch_matches}
use Rattle.csl_nodes.specs.Usage.{should_render_group, Info, no_info, info_union, as_child_info, without_group_flag, group_info, macro_info}
use Rattle.csl_nodes.specs.Number.{number_info, number_shows, number_output}
use Rattle.csl_nodes.specs.Label.{label_info, label_output}
use Rattle.csl_nodes.specs.Date.{date_info, date_shows, date_output}
use Rattle.csl_nodes.specs.Text.{RenderOutput, render_output, then_output, in_body, text_box, no_affix_texts, target_info, target_shows, text_output, shows_macro_affixes}
use Rattle.csl_render.specs.Names.{author, is_refused, names_show, names_info, in_substitute, suppressing_from, lists_or_substitute}

abbrev pub is_group : ExpandedNode → Bool
is_group (expanded_text t d) = false
is_group (expanded_macro fs d) = false
is_group unknown_macro = false
is_group (expanded_number n) = false
is_group (expanded_label v l) = false
is_group (expanded_date n) = false
is_group (expanded_names n is) = false
is_group (shorthand written n) = false
is_group (expanded_choose cs) = false
is_group (expanded_group delimiter d fs) = true

-- ---- Delimited
-- A node of a list is *admitted* if it prints in the state that the earlier ones left. The first
-- admitted node is in a box. Each later one is in a box too. If there is a delimiter, an outer box
-- holds the delimiter and then the box of the later one. A choice is the nodes that it takes,
-- delimited by the inherited delimiter, without a box of its own. If it takes none, it is nothing.

-- one admitted child, after the delimiter unless it is the first
abbrev pub delimited_child : Option (List ℕ) → Bool → Inherited → List Token → List Token
delimited_child delimiter true inh c = elem_content None None c
delimited_child None false inh c = elem_content None None c
delimited_child (Some bs) false inh c = elem_content None None (text_in inh bs ++> elem_content None None c)

abbrev pub delimited_child_output : Bool → Inherited → RenderOutput → RenderOutput
delimited_child_output first inh m = render_output (delimited_child inh.delimiter first inh m.content) m.state

-- ---- macros
-- A text that calls a macro is a box around the content of the macro's nodes, one after another, if
-- the rule holds for its dry run. The nodes inherit no delimiter. If the rule fails, the text is
-- nothing and leaves the state unchanged. It has no affixes if the cite shows one variable alone. A
-- text that calls a macro that the style lacks is nothing.

abbrev pub macro_affixes : RenderInput → TextDressing → AffixTexts
macro_affixes w d = if shows_macro_affixes w.instance.special then d.dressing.affixes else no_affix_texts

-- the nodes of a macro inherit no delimiter
abbrev pub in_macro : TextDressing → Inherited → Inherited
in_macro d inh = record (in_body d inh) { delimiter = None }

-- if the rule fails: no content, and the state before the text
abbrev pub macro_output : Bool → RenderInput → TextDressing → Inherited → RenderOutput → State → RenderOutput
macro_output shows w d inh m s = if shows then render_output (text_box w.style (macro_affixes w d) d None inh m.content) m.state else render_output [] s

-- ---- groups
-- A group is a box in its own formatting, if the rule holds for its dry run at its start. The box
-- holds the children, delimited by the group's own delimiter, between the group's affixes. If the
-- rule fails, the group is nothing. It leaves its children's state in both cases.

abbrev pub in_group : Option (List ℕ) → Dressing → Inherited → Inherited
in_group delimiter d inh = record (with_node_formatting d.formatting inh) { delimiter = delimiter }

abbrev pub shown_if : Bool → List Token → List Token
shown_if true c = c
shown_if false c = []

-- the state is the children's, whether the group prints or not
abbrev pub group_output : Bool → Dressing → Inherited → RenderOutput → RenderOutput
group_output shows d inh m =
    render_output (shown_if shows (elem_content d.display None (affixed_in (with_node_formatting d.formatting inh) d.affixes m.content))) m.state

-- ---- the three recursions
module _ (w : RenderInput) where
  abbrev mutual
    pub shows : State → Variable → ExpandedNode → Bool
    shows s v (expanded_text t d) = target_shows w s v t
    shows s v (expanded_macro fs d) = any_shows s v fs
    shows s v unknown_macro = false
    shows s v (expanded_number n) = number_shows w v n
    shows s v (expanded_label u l) = false
    shows s v (expanded_date n) = date_shows w s v n
    shows s v (expanded_names n is) = names_show v n (all_empty (peeked_lists w s n.variables)) (substitute_shows s v is)
    shows s v (shorthand written n) = names_show v written (all_empty (peeked_lists w s written.variables)) false
    shows s v (expanded_choose cs) = branches_show s v cs
    shows s v (expanded_group delimiter d fs) = any_shows s v fs

    pub any_shows : State → Variable → ExpandedNodes → Bool
    any_shows s v no_expanded_nodes = false
    any_shows s v (expanded_node f fs) = shows s v f || any_shows s v fs

    pub branches_show : State → Variable → ExpandedBranches → Bool
    branches_show s v no_expanded_branches = false
    branches_show s v (expanded_otherwise fs) = any_shows s v fs
    branches_show s v (expanded_branch ts fs cs) = if branch_matches w s ts then any_shows s v fs else branches_show s v cs

    -- of several substitutes the first one counts
    pub substitute_shows : State → Variable → ExpandedSubstitutes → Bool
    substitute_shows s v no_expanded_substitutes = false
    substitute_shows s v (expanded_substitute fs is) = any_shows s v fs

  abbrev mutual
    pub info : State → ExpandedNode → Info
    info s (expanded_text t d) = target_info w s t
    info s (expanded_macro fs d) = macro_info (without_group_flag (nodes_info s fs))
    info s unknown_macro = no_info
    info s (expanded_number n) = number_info w s n
    info s (expanded_label v l) = label_info w s v l
    info s (expanded_date n) = date_info w s n
    info s (expanded_names n is) =
        names_info w.instance.special n (peeked_lists w s n.variables) is (shows s author (expanded_names n is)) (substitute_info s is)
    -- a names node without children in a substitute: as it is written, and with no substitute
    info s (shorthand written n) =
        names_info w.instance.special written (peeked_lists w s written.variables) no_expanded_substitutes (shows s author (shorthand written n)) no_info
    info s (expanded_choose cs) = branches_info s cs
    info s (expanded_group delimiter d fs) = group_info (nodes_info s fs)

    pub nodes_info : State → ExpandedNodes → Info
    nodes_info s no_expanded_nodes = no_info
    nodes_info s (expanded_node f fs) = info_union (as_child_info (is_group f) (info s f)) (nodes_info s fs)

    -- the chosen nodes, without the group flag
    pub branches_info : State → ExpandedBranches → Info
    branches_info s no_expanded_branches = no_info
    branches_info s (expanded_otherwise fs) = without_group_flag (nodes_info s fs)
    branches_info s (expanded_branch ts fs cs) = if branch_matches w s ts then without_group_flag (nodes_info s fs) else branches_info s cs

    pub substitute_info : State → ExpandedSubstitutes → Info
    substitute_info s no_expanded_substitutes = no_info
    substitute_info s (expanded_substitute fs is) = without_group_flag (nodes_info s fs)

  -- whether the names are refused, with or without persons
  abbrev pub refused_in : NamesNode → ExpandedSubstitutes → Bool → State → Bool
  refused_in n is empty s = is_refused w.instance.special n empty is (names_show author n empty (substitute_shows s author is))

  abbrev pub names_output : NamesNode → ExpandedSubstitutes → Inherited → RenderOutput → PersonLists → State → RenderOutput
  names_output n is inh sub ls s = lists_or_substitute w n ls (refused_in n is (all_empty ls) s) inh sub s

  -- the content of names without children in a substitute
  abbrev pub shorthand_output : NamesNode → Inherited → State → RenderOutput
  shorthand_output n inh s =
      let after = lists_state w s n.variables in
      names_output n no_expanded_substitutes inh (render_output [] (suppressing_from after)) (resolved_lists w s n.variables) after

  abbrev mutual
    pub node_output : ExpandedNode → Inherited → State → RenderOutput
    node_output (expanded_text t d) inh s = text_output w t d inh s
    node_output (expanded_macro fs d) inh s = macro_output (should_render_group (info s (expanded_macro fs d)).flags) w d inh (nodes_output fs (in_macro d inh) s) s
    node_output unknown_macro inh s = render_output [] s
    node_output (expanded_number n) inh s = number_output w n inh s
    node_output (expanded_label v l) inh s = label_output w v l inh s
    node_output (expanded_date n) inh s = date_output w n inh s
    node_output (expanded_names n is) inh s =
        names_output n is inh (substitute_output is (in_substitute n inh) (suppressing_from (lists_state w s n.variables)))
        (resolved_lists w s n.variables) (lists_state w s n.variables)
    node_output (shorthand written n) inh s = shorthand_output n inh s
    node_output (expanded_choose cs) inh s = branches_output cs inh s
    node_output (expanded_group delimiter d fs) inh s =
        group_output (should_render_group (info s (expanded_group delimiter d fs)).flags) d inh (delimited_output fs (in_group delimiter d inh) true s)

    -- all nodes, one after another
    pub nodes_output : ExpandedNodes → Inherited → State → RenderOutput
    nodes_output no_expanded_nodes inh s = render_output [] s
    nodes_output (expanded_node f fs) inh s = then_output (node_output f inh s).content (nodes_output fs inh (node_output f inh s).state)

    -- Delimited: the nodes that print in the state that the earlier ones left
    pub delimited_output : ExpandedNodes → Inherited → Bool → State → RenderOutput
    delimited_output no_expanded_nodes inh first s = render_output [] s
    delimited_output (expanded_node f fs) inh first s =
        if (info s f).prints
        then then_output (delimited_child_output first inh (node_output f inh s)).content (delimited_output fs inh false (node_output f inh s).state)
        else delimited_output fs inh first s

    -- the chosen nodes, delimited by the inherited delimiter
    pub branches_output : ExpandedBranches → Inherited → State → RenderOutput
    branches_output no_expanded_branches inh s = render_output [] s
    branches_output (expanded_otherwise fs) inh s = delimited_output fs inh true s
    branches_output (expanded_branch ts fs cs) inh s = if branch_matches w s ts then delimited_output fs inh true s else branches_output cs inh s

    -- the children of the first substitute, up to the first that adds text
    pub substitute_output : ExpandedSubstitutes → Inherited → State → RenderOutput
    substitute_output no_expanded_substitutes inh s = render_output [] s
    substitute_output (expanded_substitute fs is) inh s = output_until_text fs inh (render_output [] s)

    -- the rendering so far, and the nodes after it for as long as it has no text
    pub output_until_text : ExpandedNodes → Inherited → RenderOutput → RenderOutput
    output_until_text no_expanded_nodes inh m = m
    output_until_text (expanded_node f fs) inh m = if has_text m.content then m else output_until_text fs inh (then_output m.content (node_output f inh m.state))

  abbrev pub layout_output : ExpandedLayout → Inherited → State → RenderOutput
  layout_output l inh s = nodes_output l.elements (record (with_node_formatting l.formatting inh) { delimiter = l.delimiter }) s

  -- the dry run, the shown variables and the content of the nodes that were chosen, if any
  abbrev pub choice_info : State → Option ExpandedNodes → Info
  choice_info s None = no_info
  choice_info s (Some fs) = without_group_flag (nodes_info s fs)

  abbrev pub choice_shows : State → Variable → Option ExpandedNodes → Bool
  choice_shows s v None = false
  choice_shows s v (Some fs) = any_shows s v fs

  abbrev pub choice_output : Option ExpandedNodes → Inherited → State → RenderOutput
  choice_output None inh s = render_output [] s
  choice_output (Some fs) inh s = delimited_output fs inh true s

  abbrev pub first_substitute_output : Option ExpandedNodes → Inherited → State → RenderOutput
  first_substitute_output None inh s = render_output [] s
  first_substitute_output (Some fs) inh s = output_until_text fs inh (render_output [] s)
