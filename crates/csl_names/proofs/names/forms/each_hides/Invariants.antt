use Rattle.std.proofs.Common.{◌≡◌, drop, map, if◌then◌else◌}
use Rattle.std.specs.List.{list_all}
use Rattle.csl_elements.specs.View.{view_child, name_children}
use Rattle.csl_names.specs.NamesForms.{each_hides, name_hides}
use Rattle.csl_names.specs.NamesLists.{list_of}
use Rattle.csl_names.proofs.names.forms.each_hides.Given as goal

-- The result for the remaining children is that for all. After a name child, each of the remaining
-- ones has to hide all names.
abbrev pub invariant-loop-child : goal.invariant-loop-child
invariant-loop-child l =
    let lists = map list_of l.lists in
    let rest = name_children (map view_child (drop l.child-index l.children)) in
    (if l.is_alone then each_hides l.min l.first lists rest else list_all (name_hides l.min l.first lists) rest) ≡ each_hides l.min l.first lists (name_children (map view_child l.children))
