-- Which entries JSON objects are read as (CSL 1.0.2, Appendix III, Types; Appendix IV, Variables).
-- One without `variables` answers nothing, one without `type` is of no type, and one without `key`
-- has an empty key.
use Rattle.std.specs.Prelude.{◌≡◌, ℕ, List, [], Option, Some, None, option_map, unwrap_or, codes}
use Rattle.serde_json.specs.Data.{Data, Members}
use Rattle.serde_json.specs.Find.{as_object, as_str}
use Rattle.csl_elements.specs.declared.taxonomy.Kind.{Kind}
use Rattle.csl_entry.specs.Snapshot.{Kept}
use Rattle.csl_wire.specs.Leaves.{AreNamedIf}
use Rattle.csl_wire.specs.Named.{kind_has}
use Rattle.csl_wire.specs.Reading.{member, read_member}
use Rattle.csl_wire_cite.specs.Variables.{nothing_kept, AddsMembers}

pub record AreAnswersOf (d : Data) (k : Kept) : Type 0 where
  pub members : Members
  pub are : as_object d ≡ Some members
  pub answers : AddsMembers members nothing_kept k

-- the answers of a member that may be absent
abbrev pub AreAnswers : Option Data → Kept → Type 0
AreAnswers None k = k ≡ nothing_kept
AreAnswers (Some d) k = AreAnswersOf d k

pub record AreKinds (d : Data) (kinds : List Kind) : Type 0 where
  pub listed : Option (List Kind)
  pub are : AreNamedIf kind_has (codes "type") d listed
  pub is : kinds ≡ unwrap_or listed []

pub record IsEntry (d : Data) (k : Kept) : Type 0 where
  pub own_kinds : List Kind
  pub are_kinds : AreKinds d own_kinds
  pub answers : Kept
  pub are_answers : AreAnswers (member (codes "variables") d) answers
  pub is : k ≡ record answers { kinds = own_kinds }

abbrev pub read_key : Data → Option (List ℕ)
read_key d = option_map (λ o. unwrap_or o []) (read_member as_str (codes "key") d)
