-- Names (CSL 1.0.2, Names; Substitute; Label in Names; Name, `et-al-min` and those after it): the
-- dry run of a names node, the variables that it shows, and its content and state. Its lists and
-- their content are those of `csl_names`.
use Rattle.std.specs.Prelude.{ℕ, Bool, true, false, not, ◌&&◌, ◌||◌, List, [], Option, Some, None, is_some, if◌then◌else◌}
use Rattle.csl_elements.specs.declared.element.Names.{Names}
use Rattle.csl_elements.specs.declared.taxonomy.NameVariable.{NameVariable}
use Rattle.csl_elements.specs.declared.taxonomy.NameVariable.TheVariants.{Author}
use Rattle.csl_elements.specs.declared.taxonomy.Variable.{Variable}
use Rattle.csl_elements.specs.declared.taxonomy.Variable.TheVariants as variable
use Rattle.csl_elements.specs.NamesOptions.{apply_options}
use Rattle.csl_elements.specs.Names.{NamesNode}
use Rattle.csl_elements.specs.NamesParts.{names_node, names_substitutes}
use Rattle.csl_elements.specs.Node.{ExpandedNodes, ExpandedSubstitutes, expand_substitutes}
pub use Rattle.csl_style.specs.NamesOf.{has_variable, is_names_of, any_is_names_of, substitute_has_names_of}
use Rattle.csl_tree.specs.Content.{elem_content}
use Rattle.csl_entry.specs.declared.citation.cite.SpecialForm.{SpecialForm}
use Rattle.csl_entry.specs.declared.citation.cite.SpecialForm.TheVariants.{VarOnly, OnlyFirstDate, OnlyYearSuffix, SuppressAuthor}
use Rattle.csl_context.specs.State.{State, Inherited, with_node_formatting}
use Rattle.csl_context.specs.RenderInput.{RenderInput}
use Rattle.csl_names.specs.NamesNode.{lists_meta, names_content, names_state}
use Rattle.csl_names.specs.NamesForms.{writes_no_name}
use Rattle.csl_names.specs.NamesLists.{PersonLists, all_empty}
use Rattle.csl_nodes.specs.Usage.{usage_flags, Info, info_of, no_info}
use Rattle.csl_nodes.specs.Text.{RenderOutput, render_output}

-- the nodes that each macro name of a style stands for
abbrev pub Macros : Type 0
Macros = List ℕ → Option ExpandedNodes

-- ---- variables

abbrev pub author : Variable
author = variable.Name Author

-- the variable is one of these name variables
abbrev pub is_of_names : Variable → List NameVariable → Bool
is_of_names (variable.Standard v) vs = false
is_of_names (variable.Number v) vs = false
is_of_names (variable.Page v) vs = false
is_of_names (variable.Name v) vs = has_variable v vs
is_of_names (variable.Date v) vs = false

-- ---- substitutes
-- Of several substitutes the first one counts. Names without children directly in a substitute are
-- rendered in the place of the names around it (`shorthand_expansion` of `csl_style`). They have
-- the name, et-al and label of those names. They take over affixes, formatting, delimiter and
-- options that they do not set. They have no substitute.

-- whether any of the chosen nodes, if any, is a names node of the variable
abbrev pub choice_is_names_of : NameVariable → Option ExpandedNodes → Bool
choice_is_names_of v None = false
choice_is_names_of v (Some fs) = any_is_names_of v fs

-- the substitutes of a names node, with each macro in the place of its name
abbrev pub expanded_substitutes_of : (List ℕ → Option ExpandedNodes) → Names → ExpandedSubstitutes
expanded_substitutes_of env n = expand_substitutes env (names_node n) (names_substitutes n)

-- ---- special forms
-- If the cite shows one variable alone, names stay if it is one of theirs. Names without persons
-- also stay if names of it are directly in their substitute, not in a group, a choice or a macro
-- there. The two forms for the first date and the year suffix refuse all names. If the author is
-- suppressed, names that show it are refused.

-- If the cite shows one variable alone, names of another one are refused. If they have no persons,
-- names directly in the substitute count too.
abbrev pub refuses_alone : Variable → NamesNode → Bool → ExpandedSubstitutes → Bool
refuses_alone (variable.Standard v) n empty is = true
refuses_alone (variable.Number v) n empty is = true
refuses_alone (variable.Page v) n empty is = true
refuses_alone (variable.Name v) n empty is = not (has_variable v n.variables || (empty && substitute_has_names_of v is))
refuses_alone (variable.Date v) n empty is = true

-- whether a special form refuses the names; `shows_author` is whether they would show the authors
abbrev pub is_refused : Option SpecialForm → NamesNode → Bool → ExpandedSubstitutes → Bool → Bool
is_refused None n empty is shows_author = false
is_refused (Some (VarOnly v)) n empty is shows_author = refuses_alone v n empty is
is_refused (Some OnlyFirstDate) n empty is shows_author = true
is_refused (Some OnlyYearSuffix) n empty is shows_author = true
is_refused (Some SuppressAuthor) n empty is shows_author = shows_author

-- ---- dry runs
-- Names show their own variables. Names without persons also show the variables that a child of
-- their substitute shows. Refused names do not print and have no flags. All other names call a
-- variable. If they are not void (`writes_no_name` of `csl_names`), they print and are non-empty.
-- Void names print if a child of the substitute does, and take over the children's flags except the
-- group flag. Names without children have the same dry run in a substitute as elsewhere.

-- names show their own variables, and without persons those that the substitute shows
abbrev pub names_show : Variable → NamesNode → Bool → Bool → Bool
names_show v n empty substitute_shows = is_of_names v n.variables || (empty && substitute_shows)

-- The dry run of names that are not refused. They call a variable. Void ones print if the
-- substitute does, and take over its flags.
abbrev pub names_or_substitute_info : Bool → Info → Info
names_or_substitute_info false sub = info_of true (usage_flags true true false false)
names_or_substitute_info true sub = info_of sub.prints (usage_flags true sub.flags.has_non_empty_vars sub.flags.has_used_macros false)

abbrev pub names_info : Option SpecialForm → NamesNode → PersonLists → ExpandedSubstitutes → Bool → Info → Info
names_info special n ls is shows_author sub =
    if is_refused special n (all_empty ls) is shows_author then no_info else names_or_substitute_info (writes_no_name n ls) sub

-- ---- rendering
-- The lists come from lookups for printing. Refusal depends on these lists. Refusal and the
-- substitute use the state after these lookups, and refused names leave that state. Names with
-- persons append their content, and keep the forms of their names (`names_content` and
-- `names_state` of `csl_names`). Names without persons are a box with their display, and with the
-- lists as its meta. It holds the children of the substitute, one after another, up to and
-- including the first that adds text, or all of them (`output_until_text` of `Tree`). Names without
-- persons and without a substitute render nothing. The children inherit the names' formatting, and
-- the names' options over the inherited ones, but no affixes. Lookups of the children suppress
-- their variables. After the names, lookups suppress exactly if they did before.

-- what the children of a substitute inherit: no affixes
abbrev pub in_substitute : NamesNode → Inherited → Inherited
in_substitute n inh = record (with_node_formatting n.dressing.formatting inh) { options = apply_options n.options inh.options }

-- the state after which lookups for printing suppress their variable
abbrev pub suppressing_from : State → State
suppressing_from s = record s { suppressing = true }

-- the substitute's content in the node's box; after it, lookups suppress exactly if they did before
abbrev pub boxed_substitute : NamesNode → PersonLists → RenderOutput → State → RenderOutput
boxed_substitute n ls m s = render_output (elem_content n.dressing.display (lists_meta ls) m.content) (record m.state { suppressing = s.suppressing })

-- the content and the state of names with persons; the state keeps the forms of the first names
-- that are not counted
abbrev pub lists_output : RenderInput → NamesNode → PersonLists → Inherited → State → RenderOutput
lists_output w n ls inh s =
    render_output (names_content w.style (is_some w.instance.sorting) w.instance.cite n ls inh) (names_state w.instance.cite n ls inh s)

-- the content of names, from the state after the lookups for their lists: nothing, the substitute,
-- or the lists
abbrev pub lists_or_substitute : RenderInput → NamesNode → PersonLists → Bool → Inherited → RenderOutput → State → RenderOutput
lists_or_substitute w n ls refused inh sub s =
    if refused then render_output [] s else if all_empty ls then boxed_substitute n ls sub s else lists_output w n ls inh s
