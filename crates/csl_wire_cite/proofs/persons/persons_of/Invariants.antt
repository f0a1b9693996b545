use Rattle.std.proofs.Common.{◌≡◌, map, take, Some}
use Rattle.serde_json.specs.View.{view}
use Rattle.lit_model.specs.Person.{person_view}
use Rattle.csl_wire_cite.specs.Persons.{read_person}
use Rattle.csl_wire_cite.proofs.persons.persons_of.Given as goal

-- the persons so far are those of the items so far
abbrev pub invariant-loop-place : goal.invariant-loop-place
invariant-loop-place l = map read_person (map view (take l.place l.items)) ≡ map Some (map person_view l.persons.items)
