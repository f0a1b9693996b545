use Rattle.std.proofs.Common.{◌≤◌, length, take, ap, sym, subst, ◌∙◌, arith}
use Rattle.std.specs.Prelude.{IsUtf8}
use Rattle.std.proofs.lemmas.Str.{IsCharBoundary-from_take}
use Rattle.lit_model.proofs.first_names.gap_after.Goals as goal

pub range_from-requires : goal.range_from-requires
range_from-requires c = λ some.
    let text = c.args.text.now in
    let end = length c.trim_end-end.result.now in
    let trimmed = c.trim_end-end.ensures.value in
    let inside : length c.trim_end-end.result.now ≤ length c.args.text.now = omega arith in
    IsCharBoundary-from_take text end c.utf8.text inside (subst IsUtf8 (trimmed.1 ∙ ap (λ n. take n text) (sym trimmed.4)) c.trim_end-end.utf8)
