use Rattle.std.proofs.Common.{◌≡◌, ◌∙◌, ap, refl, option_map, rules}
use Rattle.std.specs.Option.{option_copied}
use Rattle.lit_model.specs.Text.{chunks}
use Rattle.csl_elements.specs.contracts.taxonomy.StandardVariablePartialEq.TheImpl.{eq-value as same}
use Rattle.csl_entry.specs.Answers.{cow_view}
use Rattle.csl_entry.specs.Snapshot.{answer_at}
use Rattle.csl_entry.proofs.Kept.{viewed}
use Rattle.csl_entry.proofs.snapshot.answers.SnapshotEntryLike.resolve_standard_variable.Goals as goal

pub returns : goal.returns
returns c =
    let lent : option_map (cow_view chunks) c.map.result ≡ option_map chunks (option_copied c.answer_at.result) = search rules in
    lent ∙ viewed same.it chunks c.texts.result.now c.texts.result.now c.args.variable (option_copied c.answer_at.result) refl c.answer_at.ensures ∙ ap (λ l. answer_at same.it l c.args.variable) c.texts.ensures
