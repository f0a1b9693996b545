use Rattle.std.proofs.Common.{◌∙◌, ap, Some, None}
use Rattle.lit_model.specs.MaybeTyped.{maybe_view}
use Rattle.lit_model.specs.Page.{pages_view}
use Rattle.csl_elements.specs.contracts.taxonomy.PageVariablePartialEq.TheImpl.{eq-value as same}
use Rattle.csl_entry.proofs.Kept.{viewed}
use Rattle.csl_entry.proofs.snapshot.answers.SnapshotEntryLike.resolve_page_variable.Goals as goal

pub returns-in_ok-copy-in-Some : goal.returns-in_ok-copy-in-Some
returns-in_ok-copy-in-Some c =
    ap Some c.in_ok-copy-in-Some.ensures
    ∙ viewed same.it (maybe_view pages_view) c.args.self.now.pages.items c.deref.result.now c.args.variable (Some c.in-Some.pages.now) c.deref.ensures.value c.in-Some.ensures

pub returns-in-None : goal.returns-in-None
returns-in-None c = viewed same.it (maybe_view pages_view) c.args.self.now.pages.items c.deref.result.now c.args.variable None c.deref.ensures.value c.in-None.ensures
