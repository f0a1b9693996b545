-- A citation number counts from 0 and is printed one higher, so it is at most 2147483646. The
-- number of a note is at most 2147483647 (CSL 1.0.2, Appendix IV, Number Variables).
use Rattle.std.specs.Prelude.{ℕ, ◌≤◌}
use Rattle.csl_entry.specs.declared.citation.numbers.CitationNumber.{CitationNumber}
use Rattle.csl_entry.specs.declared.citation.numbers.NoteNumber.{NoteNumber}

abbrev pub IsCitationNumber : ℕ → Type 0
IsCitationNumber n = n ≤ 2147483646

abbrev pub IsNoteNumber : ℕ → Type 0
IsNoteNumber n = n ≤ 2147483647

-- the number itself, which counts from 0
abbrev pub citation_number : CitationNumber → ℕ
citation_number c = c.number

abbrev pub note_number : NoteNumber → ℕ
note_number n = n.number
