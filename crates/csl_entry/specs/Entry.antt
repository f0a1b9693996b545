-- The answers of the built-in entry (CSL 1.0.2, Appendix III, Types; Appendix IV, Variables). Each
-- is defined in the file for its sort of variable.
use Rattle.std.specs.Prelude.{ℕ, List, string_bytes}
use Rattle.lit_model.specs.declared.entry.Entry.{Entry, out-Entry}
use Rattle.csl_entry.specs.Answers.{Answers}
use Rattle.csl_entry.specs.EntryDate.{date_of}
use Rattle.csl_entry.specs.EntryKind.{typing_of, is_kind}
use Rattle.csl_entry.specs.EntryName.{names_of}
use Rattle.csl_entry.specs.EntryNumber.{number_of, pages_of}
use Rattle.csl_entry.specs.EntryStandard.{standard_of}

abbrev pub answers_of : Entry → Answers
answers_of e = record {
  numbers = number_of e;
  pages = pages_of e;
  standards = standard_of e;
  names = names_of e;
  dates = date_of e;
  kinds = λ kind. is_kind kind (typing_of e);
}

-- the key by which the entry is cited
abbrev pub key_of : Entry → List ℕ
key_of e = string_bytes (out-Entry e).key
