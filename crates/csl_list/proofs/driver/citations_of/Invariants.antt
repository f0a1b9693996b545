use Rattle.std.specs.Prelude.{◌≡◌, map, take}
use Rattle.csl_list.proofs.driver.citations_of.Given as goal

abbrev pub invariant-loop-request : goal.invariant-loop-request
invariant-loop-request g l = map (λ citation. citation.note_number) l.citations.items ≡ map (λ request. request.note_number) (take l.request-index l.requests)
