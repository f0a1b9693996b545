-- The parts of a names node (CSL 1.0.2, Names, Name, Et-al, Label, Substitute) are the first name,
-- et-al, label and substitute among its children, if there are any. A label is after the names if a
-- name child comes before it. A names node without children in a substitute has its own variables
-- and display, and the name, et-al and label of the node around the substitute. Everything else is
-- its own if it is set, field by field, else that node's (`shorthand_expansion`). The default name
-- and the default et-al set nothing. They serve nodes without such a child. Of the parts of a name,
-- the first for the given name and the first for the family name count.
use Rattle.std.specs.Prelude.{ℕ, Bool, false, List, [], map, length, Option, Some, None, option_map, find}
use denote.Bor.{Bor}
use denote.Enum.Bare.{sameb}
use Rattle.csl_elements.specs.declared.element.Names.{Names, out-Names}
use Rattle.csl_elements.specs.declared.names.NamePartName.{NamePartName}
use Rattle.csl_elements.specs.contracts.names.NamePartName.{the_type}
use Rattle.csl_elements.specs.declared.names_parts.NamesParts.{NamesParts}
use Rattle.csl_elements.specs.declared.names_parts.PlacedLabel.{PlacedLabel}
use Rattle.csl_elements.specs.declared.term.OtherTerm.TheVariants.{EtAl}
use Rattle.csl_elements.specs.declared.formatting.Formatting.{Formatting}
use Rattle.csl_elements.specs.Dressing.{dressing_of, text_if}
use Rattle.csl_elements.specs.NamesOptions.{partial_options, inherited_options, no_options}
use Rattle.csl_elements.specs.Names.{NamePartNode, NameNode, EtAlNode, view_label, NamesLabel, NamesNode}
use Rattle.csl_elements.specs.Node.{Nodes, Substitutes, no_substitutes, substitute}
use Rattle.csl_elements.specs.View.{NamesChildView, view_child, name_children, first_et_al, first_label, substitutes}

-- ---- of a node as written

abbrev pub children_of : Names → List NamesChildView
children_of n = map view_child (out-Names n).children.items

abbrev pub names_node : Names → NamesNode
names_node n = record {
  variables = (out-Names n).variable.items;
  options = partial_options (out-Names n).options;
  delimiter = text_if (out-Names n).delimiter;
  dressing = dressing_of (out-Names n).formatting (out-Names n).affixes (out-Names n).display;
  name_children = name_children (children_of n);
  et_al = first_et_al (children_of n);
  label = first_label false (children_of n);
  child_count = length (children_of n);
}

abbrev pub names_substitutes : Names → Substitutes
names_substitutes n = substitutes (children_of n)

-- of several substitutes the first one counts
abbrev pub first_substitute : Substitutes → Option Nodes
first_substitute no_substitutes = None
first_substitute (substitute ns ss) = Some ns

-- ---- of borrowed parts

abbrev text_at : Option (Bor (List ℕ)) → Option (List ℕ)
text_at o = option_map (λ t. t.now) o

abbrev pub parts_node : NamesParts → NamesNode
parts_node p = record {
  variables = p.variables.now;
  options = inherited_options p.options;
  delimiter = text_at p.delimiter;
  dressing = record {
    formatting = p.formatting;
    affixes = record { prefix = text_at p.prefix; suffix = text_at p.suffix };
    display = p.display;
  };
  name_children = name_children (map view_child p.children.now);
  et_al = first_et_al (map view_child p.children.now);
  label = first_label false (map view_child p.children.now);
  child_count = length (map view_child p.children.now);
}

abbrev pub placed_label : PlacedLabel → NamesLabel
placed_label l = record { label = view_label l.label.now; is_after = l.is_after }

-- ---- defaults, which set nothing

abbrev pub no_formatting : Formatting
no_formatting = record { font_style = None; font_variant = None; font_weight = None; text_decoration = None; vertical_align = None }

abbrev pub default_name : NameNode
default_name = record { options = no_options; formatting = no_formatting; parts = [] }

abbrev pub default_et_al : EtAlNode
default_et_al = record { term = EtAl; formatting = no_formatting }

-- ---- the parts of a name: the first of each counts

abbrev pub is_part : NamePartName → NamePartNode → Bool
is_part name p = sameb the_type p.name name

abbrev pub first_part : NamePartName → NameNode → Option NamePartNode
first_part name n = find (is_part name) n.parts
