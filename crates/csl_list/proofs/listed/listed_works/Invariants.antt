use Rattle.std.specs.Prelude.{◌≡◌, None, is_some, get_or, filter}
use Rattle.std.specs.List.{range_with_len}
use Rattle.csl_list.specs.Listed.{is_listed}
use Rattle.csl_list.proofs.listed.listed_works.Given as goal

abbrev pub invariant-loop-work : goal.invariant-loop-work
invariant-loop-work l = l.works.items ≡ filter (λ work. is_listed l.listed (is_some (get_or l.first_cites work None))) (range_with_len 0 l.work)
