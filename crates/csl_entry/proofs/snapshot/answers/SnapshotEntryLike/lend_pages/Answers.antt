use Rattle.std.proofs.Common.{◌≡◌, ◌∙◌, option_map, rules}
use Rattle.std.specs.Option.{option_copied}
use Rattle.lit_model.specs.MaybeTyped.{maybe_view}
use Rattle.lit_model.specs.Page.{pages_view}
use Rattle.csl_elements.specs.contracts.taxonomy.PageVariablePartialEq.TheImpl.{eq-value as same}
use Rattle.csl_entry.specs.Answers.{cow_view}
use Rattle.csl_entry.proofs.Kept.{viewed}
use Rattle.csl_entry.proofs.snapshot.answers.SnapshotEntryLike.lend_pages.Goals as goal

pub returns : goal.returns
returns c =
    let lent : option_map (cow_view (maybe_view pages_view)) c.map.result ≡ option_map (maybe_view pages_view) (option_copied c.answer_at.result) = search rules in
    lent ∙ viewed same.it (maybe_view pages_view) c.args.self.now.pages.items c.deref.result.now c.args.variable (option_copied c.answer_at.result) c.deref.ensures.value c.answer_at.ensures
