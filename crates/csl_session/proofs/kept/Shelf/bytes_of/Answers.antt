use Rattle.std.proofs.Common.{◌≤◌, sym, subst}
use Rattle.csl_session.specs.Kept.{bytes_if, entries_bytes}
use Rattle.csl_session.proofs.Sums.{bytes_below}
use Rattle.csl_session.proofs.kept.Shelf.bytes_of.Goals as goal

pub returns-in-Some-clause-below : goal.returns-in-Some-clause-below
returns-in-Some-clause-below g c = subst (λ o. bytes_if o ≤ entries_bytes c.args.self.now.kept.entries) (sym c.in-Some.ensures.value) (bytes_below _ c.args.self.now.kept)
