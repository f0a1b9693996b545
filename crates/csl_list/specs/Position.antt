-- The position of a cite by the cites before it (CSL 1.0.2, Choose: position). A cite may refer to the
-- one before it if both are of one work: with the same locator, or with one of its own. A note is
-- near if it is at most so many notes away.
use Rattle.std.specs.Prelude.{◌≡◌, ◌-◌, ◌+◌, ℕ, Bool, true, false, Option, Some, None, is_some, nat_le, option_map}
use Rattle.csl_entry.specs.Cite.{locator_view}
use Rattle.csl_entry.specs.Numbers.{note_number}
use Rattle.csl_entry.specs.declared.citation.cite.IbidState.{IbidState}
use Rattle.csl_entry.specs.declared.citation.cite.IbidState.TheVariants.{Different, Ibid, IbidWithLocator}
use Rattle.csl_entry.specs.declared.citation.numbers.NoteNumber.{NoteNumber}
use Rattle.csl_list.specs.declared.position.Earlier.{Earlier}
use Rattle.csl_list.specs.declared.position.PlacedCite.{PlacedCite}

-- both cites point to the same place in their works
abbrev pub SamePlace : PlacedCite → PlacedCite → Type 0
SamePlace before cite = option_map locator_view before.locator ≡ option_map locator_view cite.locator

abbrev pub IsIbidState : PlacedCite → PlacedCite → IbidState → Type 0
IsIbidState before cite Ibid = (before.work ≡ cite.work) × SamePlace before cite
IsIbidState before cite IbidWithLocator = (before.work ≡ cite.work) × (is_some cite.locator ≡ true) × (SamePlace before cite → ⊥)
IsIbidState before cite Different = before.work ≡ cite.work → (is_some cite.locator ≡ false) × (is_some before.locator ≡ true)

abbrev pub distance_of : ℕ → ℕ → ℕ
distance_of m n = (m - n) + (n - m)

abbrev pub is_near : ℕ → Option NoteNumber → Option NoteNumber → Bool
is_near distance (Some one) (Some other) = nat_le (distance_of (note_number one) (note_number other)) distance
is_near distance (Some one) None = false
is_near distance None other = false

abbrev pub note_or : Option NoteNumber → Option NoteNumber → Option NoteNumber
note_or (Some note) other = Some note
note_or None other = other

-- what the earlier cites of a work are after one in this note
abbrev pub earlier_with : Option NoteNumber → Earlier → Earlier
earlier_with note earlier = record {
  is_cited = true;
  first_note = note_or earlier.first_note note;
  last_note = note_or note earlier.last_note;
}
