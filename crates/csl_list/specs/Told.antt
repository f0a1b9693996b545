-- How works are told apart (CSL 1.0.2, Disambiguation): by a first cite, or by a later one, with the
-- number of the first note that cites the work. And the rules of given names that hold for the whole
-- document (CSL 1.0.2, givenname-disambiguation-rule): whether they expand the first name of each cite
-- alone, and the steps that they expand a name by: its initials, and the whole given name.
use Rattle.std.specs.Prelude.{ℕ, Bool, true, false, List, Option, Some, None, Vec, option_map}
use Rattle.csl_entry.specs.Cite.{CiteState, Disambiguation, first_cite}
use Rattle.csl_entry.specs.Numbers.{note_number}
use Rattle.csl_entry.specs.declared.citation.numbers.NoteNumber.{NoteNumber}
use Rattle.csl_list.specs.declared.telling.TellingCite.{TellingCite}
use Rattle.csl_list.specs.declared.telling.TellingCite.TheVariants.{First, Later}
use Rattle.std.specs.declared.alloc.Global.{Global}
use Rattle.csl_list.specs.declared.told.ToldCite.{ToldCite}
use Rattle.csl_list.specs.declared.told.ToldWorks.{ToldWorks}
use Rattle.csl_list.specs.declared.options.GivenNameRule.{GivenNameRule}
use Rattle.csl_list.specs.declared.options.GivenNameRule.TheVariants as rules

abbrev pub expansion_of : GivenNameRule → Option (Bool × ℕ)
expansion_of rules.AllNames = Some (false, 2)
expansion_of rules.AllNamesWithInitials = Some (false, 1)
expansion_of rules.PrimaryName = Some (true, 2)
expansion_of rules.PrimaryNameWithInitials = Some (true, 1)
expansion_of rules.ByCite = None

abbrev pub noted : TellingCite → Option NoteNumber → TellingCite
noted First number = First
noted (Later None) number = Later number
noted (Later (Some own)) number = Later (Some own)

-- the state of a cite that tells a work of this number apart
abbrev pub told_state : TellingCite → ℕ → Disambiguation → CiteState
told_state First number told = record (first_cite told) { citation_number = number }
told_state (Later cited) number told = record (first_cite told) {
  citation_number = number;
  is_first = false;
  first_note = option_map note_number cited;
}

abbrev pub firsts_or : Option (Vec ToldCite Global) → List ToldCite → List ToldCite
firsts_or (Some firsts) telling = firsts.items
firsts_or None telling = telling

-- the first cites of the works, or those that tell the works apart
abbrev pub cites_of : ToldWorks → Bool → List ToldCite
cites_of told true = firsts_or told.firsts told.telling.items
cites_of told false = told.telling.items
