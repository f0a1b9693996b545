use Rattle.std.proofs.Common.{refl, sym, ap, ◌∙◌, Some, pos}
use Rattle.csl_c.specs.Exports.{answered}
use Rattle.csl_c.proofs.Calls.{open_answer}
use Rattle.csl_c.proofs.exports.sulleqti_answer.Goals as goal

pub returns-in-Ok : goal.returns-in-Ok
returns-in-Ok c =
    open_answer c.args.engine.now.kept c.put.new.self.kept c.deref_mut.result.now c.answer-answered.new.self c.args.request.now c.in-Ok.bytes (pos 0)
    (c.in-Some.ensures.value ∙ ap Some (sym c.deref_mut.ensures.value)) c.put.ensures (answered refl (record { json = c.in-Ok.ensures.json; other = c.in-Ok.ensures.other }))
