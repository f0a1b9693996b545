use Rattle.serde_json.specs.View.{members_view}
use Rattle.csl_entry.specs.Snapshot.{Kept}
use Rattle.csl_wire_cite.specs.Variables.{kept_answers, AddsMembers}
use Rattle.csl_wire_cite.proofs.answers.Answers.add_all.Given as goal

-- what the members that are left add to the answers so far, all members add to those before
abbrev pub invariant-loop-name : goal.invariant-loop-name
invariant-loop-name l = (after : Kept) → AddsMembers (members_view l.name-iterator) (kept_answers l.self) after → AddsMembers (members_view l.fn.members.entries) (kept_answers l.initial.self) after
