use Rattle.std.proofs.Common.{◌≡◌, ◌+◌, ◌≤◌, Some, arith}
use Rattle.csl_session.specs.Kept.{entries_bytes}
use Rattle.csl_session.proofs.Sums.{bytes_gone}
use Rattle.csl_session.proofs.kept.Shelf.remove.Goals as goal

pub invariant_of-self : goal.invariant_of-self
invariant_of-self g c =
    let e : entries_bytes c.remove.new.self.entries + c.in-Some.kept.bytes ≡ entries_bytes c.args.self.now.kept.entries = bytes_gone _ c.args.self.now.kept c.remove.new.self (Some c.in-Some.kept) c.in-Some.ensures.entries c.in-Some.ensures.value in
    let k : c.args.self.now.bytes ≡ entries_bytes c.args.self.now.kept.entries = c.args.self.now.counted in
    let b : c.args.self.now.bytes ≤ c.args.self.now.most = c.args.self.now.bounded in
    let s = c.saturating_sub-self.ensures in
    record { counted = omega arith; bounded = omega arith }
