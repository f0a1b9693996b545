-- A names node (CSL 1.0.2, Names, Name, Et-al, Label, Substitute, Inheritable Name Options) as
-- data, without its substitutes. It keeps all its name children, because a dry run checks each of
-- them. The first one writes the names.
use Rattle.std.specs.Prelude.{ℕ, Bool, List, [], ◌∷◌, map, Option, Some, None}
use Rattle.std.specs.Option.{option_or}
use Rattle.csl_elements.specs.declared.formatting.Formatting.{Formatting}
use Rattle.csl_elements.specs.declared.taxonomy.NameVariable.{NameVariable}
use Rattle.csl_elements.specs.declared.term.OtherTerm.{OtherTerm}
use Rattle.csl_elements.specs.declared.term.TermForm.{TermForm}
use Rattle.csl_elements.specs.declared.number.LabelPluralize.{LabelPluralize}
use Rattle.csl_elements.specs.declared.number.VariablelessLabel.{VariablelessLabel}
use Rattle.csl_elements.specs.declared.names.NamePartName.{NamePartName}
use Rattle.csl_elements.specs.declared.names.NamePart.{NamePart}
use Rattle.csl_elements.specs.declared.names.Name.{Name}
use Rattle.csl_elements.specs.declared.names.EtAl.{EtAl}
use Rattle.csl_elements.specs.NamesOptions.{PartialOptions, partial_options, apply_options}
use Rattle.csl_elements.specs.Dressing.{AffixTexts, affix_texts, Dressing, dressing_over}

pub record NamePartNode : Type 0 where
  pub name : NamePartName
  pub formatting : Formatting
  pub affixes : AffixTexts

abbrev pub view_part : NamePart → NamePartNode
view_part p = record { name = p.name; formatting = p.formatting; affixes = affix_texts p.affixes }

pub record NameNode : Type 0 where
  pub options : PartialOptions
  pub formatting : Formatting
  pub parts : List NamePartNode

abbrev pub view_name : Name → NameNode
view_name n = record { options = partial_options n.options; formatting = n.formatting; parts = map view_part n.parts.items }

pub record EtAlNode : Type 0 where
  pub term : OtherTerm
  pub formatting : Formatting

abbrev pub view_et_al : EtAl → EtAlNode
view_et_al e = record { term = e.term; formatting = e.formatting }

-- a label, without its variable
pub record LabelNode : Type 0 where
  pub form : TermForm
  pub plural : LabelPluralize
  pub formatting : Formatting
  pub affixes : AffixTexts
  pub strip_periods : Bool

abbrev pub view_label : VariablelessLabel → LabelNode
view_label l = record {
  form = l.form;
  plural = l.plural;
  formatting = l.formatting;
  affixes = affix_texts l.affixes;
  strip_periods = l.strip_periods;
}

-- the label of names, and whether it is after them
pub record NamesLabel : Type 0 where
  pub label : LabelNode
  pub is_after : Bool

-- A names node except its substitutes. It may hold several name children. The first one writes the
-- names.
pub record NamesNode : Type 0 where
  pub variables : List NameVariable
  pub options : PartialOptions
  pub delimiter : Option (List ℕ)
  pub dressing : Dressing
  pub name_children : List NameNode
  pub et_al : Option EtAlNode
  pub label : Option NamesLabel
  -- how many children it has, those that do not count included
  pub child_count : ℕ

abbrev pub first_of : List NameNode → Option NameNode
first_of [] = None
first_of (x ∷ xs) = Some x

abbrev pub first_name : NamesNode → Option NameNode
first_name n = first_of n.name_children

-- A names node without children in a substitute, as it is rendered. It has the name, et al. and
-- label of the node around it, and its own variables and display. Everything else is its own if it
-- is set, field by field, else that node's.
abbrev pub shorthand_expansion : NamesNode → NamesNode → NamesNode
shorthand_expansion original own = record {
  variables = own.variables;
  options = apply_options own.options original.options;
  delimiter = option_or own.delimiter original.delimiter;
  dressing = dressing_over own.dressing original.dressing;
  name_children = original.name_children;
  et_al = original.et_al;
  label = original.label;
  child_count = original.child_count;
}
