-- Entries that were read, by the facts of their members.
use Rattle.std.proofs.Common.{◌≡◌, List, Option, Some, codes}
use Rattle.serde_json.specs.Data.{Data, Members, no_members, member as a_member}
use Rattle.serde_json.specs.Find.{as_object}
use Rattle.csl_elements.specs.declared.taxonomy.Kind.{Kind}
use Rattle.csl_entry.specs.Snapshot.{Kept}
use Rattle.csl_wire.specs.Reading.{member}
use Rattle.csl_wire_cite.specs.Entries.{AreAnswers, AreAnswersOf, AreKinds, IsEntry}
use Rattle.csl_wire_cite.specs.Variables.{nothing_kept, AddsMembers}

pub answers_read : (d : Data) (ms : Members) (k : Kept) → as_object d ≡ Some ms → AddsMembers ms nothing_kept k → AreAnswersOf d k
answers_read d ms k e a = record { members = ms; are = e; answers = a }

pub entry_read : (d : Data) (kinds : List Kind) (answers k : Kept) → AreKinds d kinds → AreAnswers (member (codes "variables") d) answers → k ≡ record answers { kinds = kinds } → IsEntry d k
entry_read d kinds answers k ks a e = record { own_kinds = kinds; are_kinds = ks; answers = answers; are_answers = a; is = e }
