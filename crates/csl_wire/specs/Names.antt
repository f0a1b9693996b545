-- Which options of names, and which children of names that hold no nodes, JSON objects are read as
-- (CSL 1.0.2, Name Options; Name, Et-al): each from the member of its name. On `names`, layouts and
-- styles form and delimiter have the members `name-form` and `name-delimiter`.
use Rattle.std.specs.Prelude.{◌≡◌, ℕ, List, Bool, Option, Some, map, option_map, option_and_then, unwrap_or, codes}
use Rattle.serde_json.specs.Data.{Data}
use Rattle.serde_json.specs.Find.{as_bool, as_str}
use Rattle.csl_elements.specs.declared.term.OtherTerm.{OtherTerm}
use Rattle.csl_elements.specs.declared.term.OtherTerm.TheVariants.{EtAl}
use Rattle.csl_elements.specs.Names.{EtAlNode, NameNode}
use Rattle.csl_elements.specs.NamesOptions.{PartialOptions}
use Rattle.csl_wire.specs.Reading.{lent, pair_by, read_choice, read_member, read_number}
use Rattle.csl_wire.specs.Dressed.{read_formatting}
use Rattle.csl_wire.specs.Leaves.{AreRead}
use Rattle.csl_wire.specs.Parts.{read_name_part}
use Rattle.csl_wire.specs.declared.choices.TheConstants as tables
use Rattle.csl_wire.specs.declared.name_parts.TheConstants as of_names

pub record AreOptions (form_name delimiter_name : List ℕ) (d : Data) (o : PartialOptions) : Type 0 where
  pub and_ : read_member (read_choice (map (pair_by lent) tables.ANDS)) (codes "and") d ≡ Some o.and
  pub before_et_al : read_member (read_choice (map (pair_by lent) tables.DELIMITER_BEHAVIORS)) (codes "delimiter-precedes-et-al") d ≡ Some o.delimiter_precedes_et_al
  pub before_last : read_member (read_choice (map (pair_by lent) tables.DELIMITER_BEHAVIORS)) (codes "delimiter-precedes-last") d ≡ Some o.delimiter_precedes_last
  pub min : read_member read_number (codes "et-al-min") d ≡ Some o.et_al_min
  pub use_first : read_member read_number (codes "et-al-use-first") d ≡ Some o.et_al_use_first
  pub later_min : read_member read_number (codes "et-al-subsequent-min") d ≡ Some o.et_al_subsequent_min
  pub later_first : read_member read_number (codes "et-al-subsequent-use-first") d ≡ Some o.et_al_subsequent_use_first
  pub use_last : read_member as_bool (codes "et-al-use-last") d ≡ Some o.et_al_use_last
  pub form_ : read_member (read_choice (map (pair_by lent) tables.NAME_FORMS)) form_name d ≡ Some o.form
  pub initialize_ : read_member as_bool (codes "initialize") d ≡ Some o.initialize
  pub sort_order : read_member (read_choice (map (pair_by lent) tables.SORT_ORDERS)) (codes "name-as-sort-order") d ≡ Some o.name_as_sort_order
  pub delimiter_ : read_member as_str delimiter_name d ≡ Some o.delimiter
  pub with_ : read_member as_str (codes "initialize-with") d ≡ Some o.initialize_with
  pub separator : read_member as_str (codes "sort-separator") d ≡ Some o.sort_separator
  pub between_lists : read_member as_str (codes "names-delimiter") d ≡ Some o.names_delimiter

pub record IsName (marks : Bool) (d : Data) (n : NameNode) : Type 0 where
  pub options_ : AreOptions (codes "form") (codes "delimiter") d n.options
  pub formatting_ : read_formatting d ≡ Some n.formatting
  pub parts_ : AreRead (read_name_part marks) (codes "name-part") d n.parts

abbrev read_et_al_term : Data → Option OtherTerm
read_et_al_term d = option_map (λ o. unwrap_or o EtAl)
    (read_member (read_choice (map (pair_by lent) of_names.ET_AL_TERMS)) (codes "term") d)

abbrev pub read_et_al : Data → Option EtAlNode
read_et_al d = option_and_then (λ t. option_map (λ f. record { term = t; formatting = f }) (read_formatting d)) (read_et_al_term d)
