-- What nodes name one by one: all (`Named`), what tests of branches name (`Tested`), or what a cite of
-- one variable tells beside it (`Told`). A walk through all nodes that a layout reaches (`Reached`)
-- adds what each of them names itself. Only private contracts cite these.
use Rattle.std.specs.Prelude.{◌≡◌}
use Rattle.csl_elements.specs.NamedSet.{NamedSet, named_union, empty_named_set}
unfoldable pub use Rattle.csl_elements.specs.NamedSet.{named_set}
use Rattle.csl_elements.specs.declared.element.ChooseBranch.{ChooseBranch}
use Rattle.csl_elements.specs.declared.named.Named.{Named}
use Rattle.csl_elements.specs.declared.taxonomy.Variable.{Variable}
use Rattle.csl_elements.specs.Node.{Node, text, call, number, label, date, names, choose, group, Branches, no_branches, otherwise, branch, ExpandedNodes}
use Rattle.csl_elements.specs.View.{view_branch}
use Rattle.csl_style.specs.Named.{named_in_target, the_number_or_page, date_if, named_in_names, named_in_nodes, named_in_tests}
use Rattle.csl_style.specs.NamesOf.{has_written_alone}
use Rattle.csl_style.specs.Tested.{tested_in_nodes}
use Rattle.csl_style.specs.Told.{names_if, told_in_nodes}
use Rattle.csl_style.specs.declared.named.Part.{Part}
use Rattle.csl_style.specs.declared.named.Part.TheVariants.{Whole, Tested, Beside}

-- these items are added to those named before
abbrev pub Adds : NamedSet → Named → Named → Type 0
Adds ns old new = named_set new ≡ named_union (named_set old) ns

-- the tests of a branch
abbrev pub named_in_tests_of : ChooseBranch → NamedSet
named_in_tests_of b = named_in_tests (view_branch b).tests

-- the tests of all branches
abbrev pub named_in_all_tests : Branches → NamedSet
named_in_all_tests no_branches = empty_named_set
named_in_all_tests (otherwise ns) = empty_named_set
named_in_all_tests (branch ts ns bs) = named_union (named_in_tests ts) (named_in_all_tests bs)

-- what a node names itself, without the nodes inside it and those of the macro that it calls
abbrev pub named_itself : Node → NamedSet
named_itself (text t d) = named_in_target t
named_itself (call name d) = empty_named_set
named_itself (number n) = the_number_or_page n.variable
named_itself (label v l) = the_number_or_page v
named_itself (date d) = date_if d.variable
named_itself (names n ss) = named_in_names n
named_itself (choose bs) = named_in_all_tests bs
named_itself (group delimiter d ns) = empty_named_set

-- what a node tests itself
abbrev pub tested_itself : Node → NamedSet
tested_itself (text t d) = empty_named_set
tested_itself (call name d) = empty_named_set
tested_itself (number n) = empty_named_set
tested_itself (label v l) = empty_named_set
tested_itself (date d) = empty_named_set
tested_itself (names n ss) = empty_named_set
tested_itself (choose bs) = named_in_all_tests bs
tested_itself (group delimiter d ns) = empty_named_set

-- what a node tells itself beside one variable
abbrev pub told_itself : Variable → Node → NamedSet
told_itself v (text t d) = empty_named_set
told_itself v (call name d) = empty_named_set
told_itself v (number n) = empty_named_set
told_itself v (label u l) = the_number_or_page u
told_itself v (date d) = empty_named_set
told_itself v (names n ss) = names_if (has_written_alone v n ss) n
told_itself v (choose bs) = named_in_all_tests bs
told_itself v (group delimiter d ns) = empty_named_set

abbrev pub part_itself : Part → Node → NamedSet
part_itself Whole = named_itself
part_itself Tested = tested_itself
part_itself (Beside v) = told_itself v

-- the same of nodes with all macros expanded
abbrev pub part_in : Part → ExpandedNodes → NamedSet
part_in Whole = named_in_nodes
part_in Tested = tested_in_nodes
part_in (Beside v) = told_in_nodes v
