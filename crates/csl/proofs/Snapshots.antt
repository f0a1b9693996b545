-- The lemmas that a caller cites about snapshots: `==` compares what they keep, and entries that
-- answer alike on what a layout names, such as a snapshot and its entry, have equal cites by it, and
-- equal contents by each expanded layout.
pub use Rattle.csl_entry.proofs.SnapshotsEqual.{snapshots_decide}
pub use Rattle.csl_render.proofs.Theorems.{answers_decide, equal_snapshots_cite_alike, snapshots_render_alike}
