-- Which options of a bibliography JSON objects are read as (CSL 1.0.2, Bibliography-specific Options;
-- Layout; Sorting): each from the member of its name. One that is absent has CSL's default: a
-- distance of 1 of lines and of works, a substitute for all names together, and else none. Without
-- the object all are absent.
use Rattle.std.specs.Prelude.{◌≡◌, ℕ, List, Option, Some, None, map, option_map, unwrap_or, codes, string_bytes}
use Rattle.serde_json.specs.Data.{Data}
use Rattle.serde_json.specs.Find.{as_str}
use Rattle.csl_wire.specs.Reading.{lent, pair_by, read_choice, read_flag, read_member, read_number}
use Rattle.csl_list.specs.Options.{HasNoOptions}
use Rattle.csl_list.specs.declared.options.AuthorSubstitute.{AuthorSubstitute}
use Rattle.csl_list.specs.declared.options.BibliographyOptions.{BibliographyOptions}
use Rattle.csl_list.specs.declared.options.SubstituteRule.{SubstituteRule}
use Rattle.csl_list.specs.declared.options.SubstituteRule.TheVariants.{CompleteAll}
use Rattle.csl_wire_list.specs.Keys.{AreKeys}
use Rattle.csl_wire_list.specs.Layouts.{read_layout_text}
use Rattle.csl_wire_list.specs.declared.choices.TheConstants as tables

abbrev pub read_spacing : List ℕ → Data → Option ℕ
read_spacing name d = option_map (λ o. unwrap_or o 1) (read_member read_number name d)

abbrev pub read_substitute_rule : Data → Option SubstituteRule
read_substitute_rule d = option_map (λ o. unwrap_or o CompleteAll) (read_member (read_choice (map (pair_by lent) tables.SUBSTITUTE_RULES)) (codes "subsequent-author-substitute-rule") d)

-- a substitute and its rule, of which there is none without its text
abbrev pub IsSubstitute : Data → Option AuthorSubstitute → Type 0
IsSubstitute d None = read_member as_str (codes "subsequent-author-substitute") d ≡ Some None
IsSubstitute d (Some s) = (read_member as_str (codes "subsequent-author-substitute") d ≡ Some (Some (string_bytes s.text))) × (read_substitute_rule d ≡ Some s.rule)

pub record AreBibliographyOptions (d : Data) (o : BibliographyOptions) : Type 0 where
  pub prefix_ : read_layout_text (codes "prefix") d ≡ Some (string_bytes o.prefix)
  pub suffix_ : read_layout_text (codes "suffix") d ≡ Some (string_bytes o.suffix)
  pub keys_ : AreKeys d o.keys.items
  pub indent : read_flag (codes "hanging-indent") d ≡ Some o.hanging_indent
  pub align : read_member (read_choice (map (pair_by lent) tables.FIELD_ALIGNS)) (codes "second-field-align") d ≡ Some o.second_field_align
  pub lines : read_spacing (codes "line-spacing") d ≡ Some o.line_spacing
  pub entries : read_spacing (codes "entry-spacing") d ≡ Some o.entry_spacing
  pub substitute : IsSubstitute d o.author_substitute

abbrev pub AreBibliographyOptionsIf : Option Data → BibliographyOptions → Type 0
AreBibliographyOptionsIf None o = HasNoOptions o
AreBibliographyOptionsIf (Some d) o = AreBibliographyOptions d o
