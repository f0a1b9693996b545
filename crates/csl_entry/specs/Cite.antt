-- The citation state of a cite (CSL 1.0.2, Choose, `position`; Locators; Appendix IV, Number
-- Variables; Disambiguation). Some properties never change: the number of the first note, if any,
-- whether the cite is the first of its entry, whether a near note cites it, and its index. Others
-- may change when the other cites are rendered (`speculation`): its locator, its citation number,
-- its disambiguation, and how it relates to the cite before it.
-- A *first cite* (`first_cite`) is the first of its entry: no note cites the entry, none is near,
-- its index and its citation number are 0, it has no locator, and the cite before it is of another
-- entry. Its disambiguation is given.
use Rattle.std.specs.Prelude.{ℕ, Bool, List, None, Option, false, option_map, true}
use Rattle.csl_elements.specs.declared.taxonomy.Locator.{Locator}
use Rattle.csl_entry.specs.declared.citation.cite.LocatorPayload.{LocatorPayload}
use Rattle.csl_entry.specs.declared.citation.cite.LocatorPayload.TheVariants as of_payload
use Rattle.csl_entry.specs.declared.citation.cite.SpecificLocator.{SpecificLocator}
use Rattle.csl_entry.specs.declared.citation.cite.IbidState.{IbidState}
use Rattle.csl_entry.specs.declared.citation.cite.IbidState.TheVariants.{Different}
use Rattle.csl_entry.specs.declared.citation.cite.DisambiguateState.{DisambiguateState}
use Rattle.csl_entry.specs.declared.citation.cite.DisambiguateState.TheVariants as of_state
use Rattle.csl_entry.specs.declared.citation.cite.CiteProperties.{CiteProperties}
use Rattle.csl_entry.specs.declared.citation.cite.SpeculativeCiteProperties.{SpeculativeCiteProperties}
use Rattle.csl_entry.specs.Numbers.{citation_number, note_number}
use Rattle.csl_entry.specs.NameProperties.{NameProperties, name_properties}

-- the text of a locator as bytes, or a place for a text that the caller writes
pub data Payload : Type 0 where
  payload_text : List ℕ → Payload
  payload_transparent : Payload

-- how a cite is disambiguated
pub data Disambiguation : Type 0 where
  no_disambiguation : Disambiguation
  by_names : NameProperties → Disambiguation
  by_choose : Disambiguation
  by_year_suffix : ℕ → Disambiguation

-- the place in its work that a cite points to
pub record LocatorView : Type 0 where
  pub kind : Locator
  pub payload : Payload

pub record CiteState : Type 0 where
  pub first_note : Option ℕ
  pub is_first : Bool
  pub is_near_note : Bool
  pub initial_index : ℕ
  pub locator : Option LocatorView
  pub citation_number : ℕ
  pub disambiguation : Disambiguation
  pub ibid : IbidState

-- the state of a first cite, with its disambiguation
abbrev pub first_cite : Disambiguation → CiteState
first_cite d = record {
  first_note = None;
  is_first = true;
  is_near_note = false;
  initial_index = 0;
  locator = None;
  citation_number = 0;
  disambiguation = d;
  ibid = Different;
}

abbrev pub payload_of : LocatorPayload → Payload
payload_of (of_payload.Str text) = payload_text text.now
payload_of of_payload.Transparent = payload_transparent

abbrev pub locator_view : SpecificLocator → LocatorView
locator_view l = record { kind = l.0; payload = payload_of l.1 }

abbrev pub disambiguation_of : DisambiguateState → Disambiguation
disambiguation_of of_state.None = no_disambiguation
disambiguation_of (of_state.NameDisambiguation p) = by_names (name_properties p)
disambiguation_of of_state.Choose = by_choose
disambiguation_of (of_state.YearSuffix n) = by_year_suffix n

-- the properties of a cite that may change when the other cites are rendered
pub record Speculation : Type 0 where
  pub locator : Option LocatorView
  pub citation_number : ℕ
  pub disambiguation : Disambiguation
  pub ibid : IbidState

abbrev pub speculation : SpeculativeCiteProperties → Speculation
speculation s = record {
  locator = option_map locator_view s.locator;
  citation_number = citation_number s.citation_number;
  disambiguation = disambiguation_of s.disambiguation;
  ibid = s.ibid;
}

abbrev pub cite_state : CiteProperties → CiteState
cite_state c = record {
  first_note = option_map note_number c.certain.first_note_number;
  is_first = c.certain.is_first;
  is_near_note = c.certain.is_near_note;
  initial_index = c.certain.initial_idx;
  locator = (speculation c.speculative).locator;
  citation_number = (speculation c.speculative).citation_number;
  disambiguation = (speculation c.speculative).disambiguation;
  ibid = (speculation c.speculative).ibid;
}
