-- How far the name of a person is expanded that is that of other persons of the document, too (CSL
-- 1.0.2, givenname-disambiguation-rule): by one step to its initials, by two to the whole given name.
-- A rule has at most so many steps. Names that it cannot tell apart remain in their original form.
use Rattle.std.specs.Prelude.{ℕ, Bool, true, false, ◌-◌, nat_le, if◌then◌else◌}
use Rattle.csl_entry.specs.declared.forms.name_form.DisambiguatedNameForm.{DisambiguatedNameForm}
use Rattle.csl_entry.specs.declared.forms.name_form.DisambiguatedNameForm.TheVariants.{Count, ShortInitialized, ShortFull, LongInitialized, LongFull}

abbrev pub steps_that_tell : Bool → Bool → ℕ
steps_that_tell needs_initials true = 2
steps_that_tell true false = 1
steps_that_tell false false = 0

abbrev pub up_to : ℕ → ℕ → ℕ
up_to most steps = if nat_le steps most then steps else 0

abbrev pub steps_needed : Bool → Bool → ℕ → ℕ
steps_needed needs_initials needs_whole most = up_to most (steps_that_tell needs_initials needs_whole)

-- The steps from the form in which the style shows a name. It may have initials already, or none at
-- all: then a step leads to the whole given name, which a rule of one step does not allow.
abbrev pub steps_from : DisambiguatedNameForm → ℕ → ℕ → ℕ
steps_from ShortInitialized steps most = steps
steps_from LongInitialized steps most = steps - 1
steps_from ShortFull steps most = if nat_le 2 most then steps else 0
steps_from LongFull steps most = 0
steps_from Count steps most = 0
