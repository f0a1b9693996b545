-- What the cites of a work print of the list: its number, and its year suffix or branches that test
-- `disambiguate` (CSL 1.0.2, Number Variables: citation-number; Disambiguation).
use Rattle.std.specs.Prelude.{ℕ, Bool, false, ◌||◌, Option, Some, None, is_some, if◌then◌else◌}
use Rattle.csl_entry.specs.Cite.{CiteState, Disambiguation, no_disambiguation, by_choose, by_names, by_year_suffix, first_cite}
use Rattle.csl_entry.specs.NameProperties.{name_properties}
use Rattle.csl_entry.specs.Numbers.{citation_number}
use Rattle.csl_entry.specs.declared.forms.name_properties.NameDisambiguationProperties.{NameDisambiguationProperties}
use Rattle.csl_list.specs.declared.identity.Identity.{Identity}

abbrev pub disambiguation_of : Option ℕ → Bool → Disambiguation
disambiguation_of None chooses = if chooses then by_choose else no_disambiguation
disambiguation_of (Some suffix) chooses = by_year_suffix suffix

-- a first cite of the work
abbrev pub first_cite_of : Identity → CiteState
first_cite_of identity = record (first_cite (disambiguation_of identity.year_suffix identity.chooses)) { citation_number = citation_number identity.number }

abbrev pub unmarked : Identity → Identity
unmarked identity = record identity { year_suffix = None; chooses = false }

abbrev pub by_forms : Option NameDisambiguationProperties → Disambiguation
by_forms None = no_disambiguation
by_forms (Some forms) = by_names (name_properties forms)

abbrev pub is_marked : Identity → Bool
is_marked identity = is_some identity.year_suffix || identity.chooses

-- a cite is told apart by a year suffix or by such branches, or else by the forms of its names
abbrev pub told_by : Identity → Option NameDisambiguationProperties → Disambiguation
told_by identity forms = if is_marked identity then disambiguation_of identity.year_suffix identity.chooses else by_forms forms

-- a first cite of the work that forms of its names may tell apart
abbrev pub first_cite_by : Identity → Option NameDisambiguationProperties → CiteState
first_cite_by identity forms = record (first_cite (told_by identity forms)) { citation_number = citation_number identity.number }
