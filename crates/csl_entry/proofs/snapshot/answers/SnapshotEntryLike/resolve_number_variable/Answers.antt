use Rattle.std.proofs.Common.{option_map}
use Rattle.std.specs.Option.{option_copied}
use Rattle.lit_model.specs.MaybeTyped.{maybe_view}
use Rattle.lit_model.specs.Numeric.{numeric_view}
use Rattle.csl_elements.specs.contracts.taxonomy.NumberVariablePartialEq.TheImpl.{eq-value as same}
use Rattle.csl_entry.specs.Answers.{cow_view}
use Rattle.csl_entry.proofs.Kept.{viewed, ok_through}
use Rattle.csl_entry.proofs.snapshot.answers.SnapshotEntryLike.resolve_number_variable.Goals as goal

pub returns : goal.returns
returns c =
    ok_through c.number_answer.result (option_map (maybe_view (cow_view numeric_view))) _ _ c.number_answer.ensures
    (viewed same.it (maybe_view numeric_view) c.args.self.now.numbers.items c.deref.result.now c.args.variable (option_copied c.answer_at.result) c.deref.ensures.value c.answer_at.ensures)
