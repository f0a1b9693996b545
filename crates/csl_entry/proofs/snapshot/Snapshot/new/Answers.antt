use Rattle.std.proofs.Common.{◌≡◌}
use Rattle.csl_entry.specs.Snapshot.{kept_of, snapshot_of}
use Rattle.csl_entry.specs.declared.snapshot.Snapshot.{Snapshot}
use Rattle.csl_entry.proofs.SnapshotsEqual.{alike_with, silent_with, equal_if_alike}
use Rattle.csl_entry.proofs.snapshot.Snapshot.new.Goals as goal

pub returns : goal.returns
returns g c =
    let s : Snapshot = record { numbers = c.in_ok-numbers.numbers; pages = c.in_ok-pages.pages; long_texts = c.in_ok-long_texts.long_texts; short_texts = c.in_ok-short_texts.short_texts; names = c.in_ok-names.names; dates = c.in_ok-dates.dates; kinds = c.in_ok-kinds.kinds } in
    let n = c.args.named.now in
    let a = g.T.EntryLike.answers c.args.entry.now in
    let kept : kept_of s ≡ snapshot_of n a = λ i. record { numbers = c.in_ok-numbers.ensures i; pages = c.in_ok-pages.ensures i; long_texts = c.in_ok-long_texts.ensures i; short_texts = c.in_ok-short_texts.ensures i; names = c.in_ok-names.ensures i; dates = c.in_ok-dates.ensures i; kinds = c.in_ok-kinds.ensures i } in
    record { kept = kept; alike = alike_with n a s kept; silent = silent_with n a s kept; equal = λ t b e. equal_if_alike n a b s t kept e }
