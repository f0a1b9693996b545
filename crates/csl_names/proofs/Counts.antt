-- Counts that stop at a limit.
use Rattle.std.proofs.Common.{◌≡◌, ℕ, ◌+◌, min, arith}
use Rattle.std.proofs.Math.Nat.{sub-add-min_cancel}

-- a limit at each step is the same as one at the end
pub capped : (m x s r : ℕ) → min (min (x + s) m + r) m ≡ min (x + (s + r)) m
capped m x s r = omega (arith, sub-add-min_cancel (x + s) m, sub-add-min_cancel (min (x + s) m + r) m, sub-add-min_cancel (x + (s + r)) m)

pub twice : (m x : ℕ) → min (min x m) m ≡ min x m
twice m x = omega (arith, sub-add-min_cancel x m, sub-add-min_cancel (min x m) m)
