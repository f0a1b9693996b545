use Rattle.std.proofs.Common.{sym, ◌∙◌}
use Rattle.csl_common.proofs.Writes.{two_writes}
use Rattle.lit_model.proofs.Shortening.{first_is, piece_written}
use Rattle.lit_model.proofs.initials.Shortened.write_piece.Goals as goal

pub returns-in_ok-put-in-Some-clause-ok : goal.returns-in_ok-put-in-Some-clause-ok
returns-in_ok-put-in-Some-clause-ok g c =
    two_writes _ _ _ _ _ _ _ c.in_ok-write_gap-in-Some.ensures.ok c.in_ok-put-in-Some.ensures.ok
    (piece_written c.args.self.now.text.now c.args.self.now.hyphen c.args.before c.args.piece.now c.in-Some.initial.now (first_is c.args.piece.now c.in-Some.initial.now _ (sym c.graphemes.ensures.left ∙ c.in-Some.ensures.steps)))
