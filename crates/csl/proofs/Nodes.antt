-- The lemmas that a caller cites about a group, names or a choice that it constructs.
pub use Rattle.csl_elements.proofs.Rolled.{group_view, names_view, choose_view, in_group, in_names, in_choose, group_made, names_made, choose_made, branch_made}
