use Rattle.std.specs.Prelude.{◌≡◌, ℕ, None, is_some, get_or, take, length}
use Rattle.csl_list.specs.Listed.{is_cited}
use Rattle.csl_list.proofs.listed.first_cites.Given as goal

-- the works that are cited so far have a first cite
abbrev pub invariant-loop-place : goal.invariant-loop-place
invariant-loop-place l = (length l.first_cites.items ≡ l.works) × ((work : ℕ) → is_some (get_or l.first_cites.items work None) ≡ is_cited (take l.place l.cited) work)
