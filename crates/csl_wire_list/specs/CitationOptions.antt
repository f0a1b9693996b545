-- Which options of citations JSON objects are read as (CSL 1.0.2, Citation-specific Options; Layout;
-- Sorting): each from the member of its name. One that is absent has CSL's default: a distance of 5
-- notes, given names by cite, and else none. Without the object all are absent.
use Rattle.std.specs.Prelude.{◌≡◌, ℕ, [], Bool, false, Option, Some, None, map, option_map, unwrap_or, codes, string_bytes}
use Rattle.serde_json.specs.Data.{Data}
use Rattle.serde_json.specs.Find.{as_str}
use Rattle.csl_elements.specs.Dressing.{text_if}
use Rattle.csl_wire.specs.Reading.{lent, pair_by, read_choice, read_flag, read_member, read_number}
use Rattle.csl_list.specs.Options.{HasNoDisambiguation, HasNoTexts, IsNotShortened}
use Rattle.csl_list.specs.declared.options.CitationOptions.{CitationOptions}
use Rattle.csl_list.specs.declared.options.GivenNameRule.{GivenNameRule}
use Rattle.csl_list.specs.declared.options.GivenNameRule.TheVariants.{ByCite}
use Rattle.csl_wire_list.specs.Keys.{AreKeys}
use Rattle.csl_wire_list.specs.Layouts.{read_layout_text}
use Rattle.csl_wire_list.specs.declared.choices.TheConstants as tables

abbrev pub read_distance : Data → Option ℕ
read_distance d = option_map (λ o. unwrap_or o 5) (read_member read_number (codes "near-note-distance") d)

abbrev pub read_rule : Data → Option GivenNameRule
read_rule d = option_map (λ o. unwrap_or o ByCite) (read_member (read_choice (map (pair_by lent) tables.GIVEN_NAME_RULES)) (codes "givenname-disambiguation-rule") d)

-- whether citations begin with a capital, as they do in notes
abbrev pub read_class : Data → Option Bool
read_class d = option_map (λ o. unwrap_or o false) (read_member (read_choice (map (pair_by lent) tables.CLASSES)) (codes "class") d)

pub record AreCitationOptions (d : Data) (o : CitationOptions) : Type 0 where
  pub prefix_ : read_layout_text (codes "prefix") d ≡ Some (string_bytes o.prefix)
  pub suffix_ : read_layout_text (codes "suffix") d ≡ Some (string_bytes o.suffix)
  pub delimiter_ : read_layout_text (codes "delimiter") d ≡ Some (string_bytes o.delimiter)
  pub keys_ : AreKeys d o.keys.items
  pub collapse_ : read_member (read_choice (map (pair_by lent) tables.COLLAPSES)) (codes "collapse") d ≡ Some o.collapse
  pub between_groups : read_member as_str (codes "cite-group-delimiter") d ≡ Some (text_if o.cite_group_delimiter)
  pub between_suffixes : read_member as_str (codes "year-suffix-delimiter") d ≡ Some (text_if o.year_suffix_delimiter)
  pub after_collapse : read_member as_str (codes "after-collapse-delimiter") d ≡ Some (text_if o.after_collapse_delimiter)
  pub distance : read_distance d ≡ Some o.near_note_distance
  pub names : read_flag (codes "disambiguate-add-names") d ≡ Some o.adds_names
  pub given_names : read_flag (codes "disambiguate-add-givenname") d ≡ Some o.adds_given_names
  pub rule : read_rule d ≡ Some o.given_name_rule
  pub year_suffix : read_flag (codes "disambiguate-add-year-suffix") d ≡ Some o.adds_year_suffix

abbrev pub HasDefaults : CitationOptions → Type 0
HasDefaults o = HasNoTexts o × (o.keys.items ≡ []) × IsNotShortened o × (o.near_note_distance ≡ 5) × HasNoDisambiguation o

abbrev pub AreCitationOptionsIf : Option Data → CitationOptions → Type 0
AreCitationOptionsIf None o = HasDefaults o
AreCitationOptionsIf (Some d) o = AreCitationOptions d o
