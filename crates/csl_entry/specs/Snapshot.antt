-- A *snapshot* of an entry keeps its answers to a set of variables and kinds (CSL 1.0.2,
-- Appendix III, Types; Appendix IV, Variables). Each sort of variable has a list, in the order of
-- the set, of the variables that the entry answers, each with its answer. Standard variables have
-- two, one for each form. A name variable without persons is not answered. Of the kinds, those of
-- the entry are kept.
-- A snapshot answers what it keeps. To other variables it has no answer, and it is of no other
-- kind.
use Rattle.std.specs.Prelude.{Bool, false, cond, List, [], ◌∷◌, Option, Some, None, map, option_map}
use Rattle.std.specs.List.{filter, filter_map, list_any}
use Rattle.csl_common.specs.declared.form.LongShortForm.{LongShortForm}
use Rattle.csl_common.specs.declared.form.LongShortForm.TheVariants.{Long, Short}
use Rattle.csl_elements.specs.declared.named.Named.{Named}
use Rattle.csl_elements.specs.declared.taxonomy.NumberVariable.{NumberVariable}
use Rattle.csl_elements.specs.declared.taxonomy.PageVariable.{PageVariable}
use Rattle.csl_elements.specs.declared.taxonomy.StandardVariable.{StandardVariable}
use Rattle.csl_elements.specs.declared.taxonomy.NameVariable.{NameVariable}
use Rattle.csl_elements.specs.declared.taxonomy.DateVariable.{DateVariable}
use Rattle.csl_elements.specs.declared.taxonomy.Kind.{Kind}
use Rattle.csl_elements.specs.contracts.taxonomy.NumberVariablePartialEq.TheImpl.{eq-value as same_number}
use Rattle.csl_elements.specs.contracts.taxonomy.PageVariablePartialEq.TheImpl.{eq-value as same_page}
use Rattle.csl_elements.specs.contracts.taxonomy.StandardVariablePartialEq.TheImpl.{eq-value as same_standard}
use Rattle.csl_elements.specs.contracts.taxonomy.NameVariablePartialEq.TheImpl.{eq-value as same_name}
use Rattle.csl_elements.specs.contracts.taxonomy.DateVariablePartialEq.TheImpl.{eq-value as same_date}
use Rattle.csl_elements.specs.contracts.taxonomy.KindPartialEq.TheImpl.{eq-value as same_kind}
use Rattle.lit_model.specs.Date.{DateView, date_view}
use Rattle.lit_model.specs.MaybeTyped.{MaybeView, maybe_view}
use Rattle.lit_model.specs.Numeric.{NumericView, numeric_view}
use Rattle.lit_model.specs.Page.{PartView, pages_view}
use Rattle.lit_model.specs.Person.{PersonView, person_view}
use Rattle.lit_model.specs.Text.{Chunk, chunks}
use Rattle.csl_entry.specs.Answers.{Answers}
use Rattle.csl_entry.specs.declared.snapshot.Snapshot.{Snapshot}

-- what a snapshot keeps
pub record Kept : Type 0 where
  pub numbers : List (NumberVariable × MaybeView NumericView)
  pub pages : List (PageVariable × MaybeView (List PartView))
  pub long_texts : List (StandardVariable × List Chunk)
  pub short_texts : List (StandardVariable × List Chunk)
  pub names : List (NameVariable × List PersonView)
  pub dates : List (DateVariable × DateView)
  pub kinds : List Kind

-- ---- of an entry

abbrev pub paired : {K V : Type 0} → K → V → K × V
paired key value = (key, value)

-- the variable with its answer, if there is one
abbrev pub with_answer : {K V : Type 0} → (K → Option V) → K → Option (K × V)
with_answer answer key = option_map (paired key) (answer key)

-- the variables that have an answer, each with it
abbrev pub kept_answers : {K V : Type 0} → (K → Option V) → List K → List (K × V)
kept_answers answer keys = filter_map (with_answer answer) keys

-- the persons, if there are any
abbrev pub unless_empty : List PersonView → Option (List PersonView)
unless_empty [] = None
unless_empty (p ∷ ps) = Some (p ∷ ps)

-- the snapshot of an entry with these answers
abbrev pub snapshot_of : Named → Answers → Kept
snapshot_of n a = record {
  numbers = kept_answers a.numbers n.numbers.keys;
  pages = kept_answers a.pages n.pages.keys;
  long_texts = kept_answers (a.standards Long) n.standards.keys;
  short_texts = kept_answers (a.standards Short) n.standards.keys;
  names = kept_answers (λ v. unless_empty (a.names v)) n.names.keys;
  dates = kept_answers a.dates n.dates.keys;
  kinds = filter a.kinds n.kinds.keys;
}

-- ---- its answers

-- the answer that is kept for a variable
abbrev pub answer_at : {K V : Type 0} → (K → K → Bool) → List (K × V) → K → Option V
answer_at same [] key = None
answer_at same (p ∷ ps) key = cond (same p.0 key) (Some p.1) (answer_at same ps key)

abbrev pub persons_or_none : Option (List PersonView) → List PersonView
persons_or_none None = []
persons_or_none (Some persons) = persons

abbrev pub texts_in : LongShortForm → Kept → List (StandardVariable × List Chunk)
texts_in Long k = k.long_texts
texts_in Short k = k.short_texts

abbrev pub kept_in : Kept → Answers
kept_in k = record {
  numbers = answer_at same_number.it k.numbers;
  pages = answer_at same_page.it k.pages;
  standards = λ form. answer_at same_standard.it (texts_in form k);
  names = λ v. persons_or_none (answer_at same_name.it k.names v);
  dates = answer_at same_date.it k.dates;
  kinds = λ kind. list_any (λ x. same_kind.it x kind) k.kinds;
}

-- an entry that answers nothing
abbrev pub no_answers : Answers
no_answers = record {
  numbers = λ v. None;
  pages = λ v. None;
  standards = λ form v. None;
  names = λ v. [];
  dates = λ v. None;
  kinds = λ kind. false;
}

-- ---- the value

abbrev pub keyed : {K V W : Type 0} → (V → W) → K × V → K × W
keyed view p = (p.0, view p.1)

abbrev pub kept_of : Snapshot → Kept
kept_of s = record {
  numbers = map (keyed (maybe_view numeric_view)) s.numbers.items;
  pages = map (keyed (maybe_view pages_view)) s.pages.items;
  long_texts = map (keyed chunks) s.long_texts.items;
  short_texts = map (keyed chunks) s.short_texts.items;
  names = map (keyed (λ persons. map person_view persons.items)) s.names.items;
  dates = map (keyed date_view) s.dates.items;
  kinds = s.kinds.items;
}

abbrev pub snapshot_answers : Snapshot → Answers
snapshot_answers s = kept_in (kept_of s)
