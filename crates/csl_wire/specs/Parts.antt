-- What is read of the parts of dates and names (CSL 1.0.2, Date-part, Name-part), and of labels of
-- names (Label), with marks of cases or without.
use Rattle.std.specs.Prelude.{ℕ, Bool, List, Option, map, option_map, option_and_then, unwrap_or, codes}
use Rattle.serde_json.specs.Data.{Data}
use Rattle.csl_elements.specs.declared.date.DatePartName.{DatePartName}
use Rattle.csl_elements.specs.declared.date.DateAnyForm.{DateAnyForm}
use Rattle.csl_elements.specs.declared.names.NamePartName.{NamePartName}
use Rattle.csl_elements.specs.declared.term.TermForm.{TermForm}
use Rattle.csl_elements.specs.declared.term.TermForm.TheVariants.{Long}
use Rattle.csl_elements.specs.declared.number.LabelPluralize.{LabelPluralize}
use Rattle.csl_elements.specs.declared.number.LabelPluralize.TheVariants.{Contextual}
use Rattle.csl_elements.specs.Names.{LabelNode, NamePartNode}
use Rattle.csl_elements.specs.Node.{DatePartNode}
use Rattle.csl_wire.specs.Reading.{lent, pair_by, read_choice, read_flag, read_member, read_one}
use Rattle.csl_wire.specs.Dressed.{read_cased_affixes, read_formatting}
use Rattle.csl_wire.specs.declared.choices.TheConstants as tables

abbrev read_date_part_name : Data → Option DatePartName
read_date_part_name d = read_one (read_choice (map (pair_by lent) tables.DATE_PART_NAMES)) (codes "name") d

abbrev read_date_part_form : Data → Option (Option DateAnyForm)
read_date_part_form d = read_member (read_choice (map (pair_by lent) tables.DATE_PART_FORMS)) (codes "form") d

abbrev pub read_date_part : Bool → Data → Option DatePartNode
read_date_part marks d =
    option_and_then (λ name. option_and_then (λ form. option_and_then (λ formatting.
    option_and_then (λ strip_periods. option_map (λ affixes. record {
      name = name;
      form = form;
      formatting = formatting;
      affixes = affixes;
      strip_periods = strip_periods;
    })
    (read_cased_affixes marks d)) (read_flag (codes "strip-periods") d)) (read_formatting d))
    (read_date_part_form d)) (read_date_part_name d)

abbrev read_name_part_name : Data → Option NamePartName
read_name_part_name d = read_one (read_choice (map (pair_by lent) tables.NAME_PART_NAMES)) (codes "name") d

abbrev pub read_name_part : Bool → Data → Option NamePartNode
read_name_part marks d =
    option_and_then (λ name. option_and_then (λ formatting. option_map (λ affixes. record {
      name = name;
      formatting = formatting;
      affixes = affixes;
    })
    (read_cased_affixes marks d)) (read_formatting d)) (read_name_part_name d)

abbrev pub read_term_form : Data → Option TermForm
read_term_form d = option_map (λ o. unwrap_or o Long)
    (read_member (read_choice (map (pair_by lent) tables.TERM_FORMS)) (codes "form") d)

abbrev read_plural : Data → Option LabelPluralize
read_plural d = option_map (λ o. unwrap_or o Contextual)
    (read_member (read_choice (map (pair_by lent) tables.PLURALS)) (codes "plural") d)

-- a label, without its variable
abbrev pub read_label : Bool → Data → Option LabelNode
read_label marks d =
    option_and_then (λ form. option_and_then (λ plural. option_and_then (λ formatting.
    option_and_then (λ strip_periods. option_map (λ affixes. record {
      form = form;
      plural = plural;
      formatting = formatting;
      affixes = affixes;
      strip_periods = strip_periods;
    })
    (read_cased_affixes marks d)) (read_flag (codes "strip-periods") d)) (read_formatting d))
    (read_plural d)) (read_term_form d)
