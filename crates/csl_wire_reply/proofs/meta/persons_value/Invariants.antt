use Rattle.std.proofs.Common.{◌≡◌, map, take}
use Rattle.serde_json.specs.View.{view}
use Rattle.lit_model.specs.Person.{person_view}
use Rattle.csl_wire_reply.specs.Members.{person_data}
use Rattle.csl_wire_reply.proofs.meta.persons_value.Given as goal

abbrev pub invariant-loop-person : goal.invariant-loop-person
invariant-loop-person l = map view l.items.items ≡ map person_data (map person_view (take l.person-index l.persons))
