-- A content as a tree of JSON (docs/WIRE.md, Replies): the list of its children, each an object.
use Rattle.std.specs.Prelude.{ℕ, List, [], ◌∷◌, Option, Some, None, codes, map, string_bytes}
use Rattle.serde_json.specs.Data.{Data, Members, number, string, unsigned, array, object, no_members, put}
use Rattle.serde_json.specs.View.{items_of}
use Rattle.lit_model.specs.Person.{PersonView}
use Rattle.csl_elements.specs.VariableNames.{name_variable_name}
use Rattle.csl_elements.specs.declared.taxonomy.NameVariable.{NameVariable}
use Rattle.csl_elements.specs.declared.formatting.Display.{Display}
use Rattle.csl_tree.specs.declared.formatting.Formatting.{Formatting}
use Rattle.csl_tree.specs.declared.elem.ElemChild.{ElemChild}
use Rattle.csl_tree.specs.declared.elem.ElemChild.TheOpen.{ElemChild-F, Elem-F, ElemChildren-F, Text, Elem, Markup, Link, Transparent}
use Rattle.csl_tree.specs.declared.elem.ElemChild.TheFolds.{fold-ElemChild, fold-Elem, fold-ElemChildren}
use Rattle.csl_tree.specs.declared.elem.Elem as elem
use Rattle.csl_tree.specs.declared.elem.ElemChildren.{ElemChildren}
use Rattle.csl_tree.specs.Tokens.{Meta, optional_meta, of_names, of_date, of_text, of_number, of_label, of_citation_number, of_name, of_entry, of_citation_label}
use Rattle.csl_wire_reply.specs.Members.{display_name, person_data, put_formatting}

-- the persons of a variable
abbrev pub names_data : List PersonView × NameVariable → Data
names_data n = object
    (put (codes "persons") (array (items_of (map person_data n.0)))
    (put (codes "variable") (string (name_variable_name n.1)) no_members))

-- the name of a kind of node
abbrev pub kind_name : Meta → List ℕ
kind_name (of_names ns) = codes "names"
kind_name of_date = codes "date"
kind_name of_text = codes "text"
kind_name of_number = codes "number"
kind_name of_label = codes "label"
kind_name of_citation_number = codes "citation-number"
kind_name (of_name v n) = codes "name"
kind_name (of_entry n) = codes "entry"
kind_name of_citation_label = codes "citation-label"

-- the members, with what a kind has more
unfoldable pub put_detail : Meta → Members → Members
put_detail (of_names ns) ms = put (codes "names") (array (items_of (map names_data ns))) ms
put_detail of_date ms = ms
put_detail of_text ms = ms
put_detail of_number ms = ms
put_detail of_label ms = ms
put_detail of_citation_number ms = ms
put_detail (of_name v n) ms = put (codes "index") (number (unsigned n)) (put (codes "variable") (string (name_variable_name v)) ms)
put_detail (of_entry n) ms = put (codes "index") (number (unsigned n)) ms
put_detail of_citation_label ms = ms

abbrev pub meta_data : Meta → Data
meta_data m = object (put_detail m (put (codes "kind") (string (kind_name m)) no_members))

unfoldable pub put_display : Option Display → Members → Members
put_display None ms = ms
put_display (Some d) ms = put (codes "display") (string (display_name d)) ms

unfoldable pub put_meta : Option Meta → Members → Members
put_meta None ms = ms
put_meta (Some m) ms = put (codes "meta") (meta_data m) ms

-- an element around its children
abbrev pub elem_data : Option Display → Option Meta → Data → Data
elem_data d m children = object (put_meta m (put_display d (put (codes "children") children no_members)))

abbrev pub text_members : List ℕ → Formatting → Members
text_members text f = put_formatting f (put (codes "text") (string text) no_members)

abbrev pub link_data : List ℕ → Formatting → List ℕ → Data
link_data text f url = object (put (codes "url") (string url) (text_members text f))

abbrev pub markup_data : List ℕ → Data
markup_data text = object (put (codes "markup") (string text) no_members)

abbrev pub place_data : ℕ → Formatting → Data
place_data n f = object (put_formatting f (put (codes "cite") (number (unsigned n)) no_members))

-- one level of a tree, with the data of its parts
abbrev pub child_step : ElemChild-F Data Data Data → Data
child_step (Text t) = object (text_members (string_bytes t.text) t.formatting)
child_step (Elem inside) = inside
child_step (Markup s) = markup_data (string_bytes s)
child_step (Link t url) = link_data (string_bytes t.text) t.formatting (string_bytes url)
child_step (Transparent n f) = place_data n f

abbrev pub elem_step : Elem-F Data Data Data → Data
elem_step e = elem_data e.display (optional_meta e.meta) e.children

abbrev pub children_step : ElemChildren-F Data Data Data → Data
children_step c = array (items_of c.0.items)

abbrev pub child_data : ElemChild → Data
child_data = fold-ElemChild Data Data Data child_step elem_step children_step

abbrev pub tree_data : ElemChildren → Data
tree_data = fold-ElemChildren Data Data Data child_step elem_step children_step
