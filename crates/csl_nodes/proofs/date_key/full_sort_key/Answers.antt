use Rattle.std.proofs.Common.{◌≡◌, string_bytes, subst, sym, rules}
use Rattle.lit_model.specs.Date.{date_view}
use Rattle.csl_nodes.specs.DateKey.{full_key, SortsByTime}
use Rattle.csl_nodes.proofs.Theorems.{full_keys_sort_by_time}
use Rattle.csl_nodes.proofs.date_key.full_sort_key.Goals as goal

pub returns-clause-order : goal.returns-clause-order
returns-clause-order c =
    let d = c.args.date.now in
    let bytes : string_bytes c.in_ok-key.key ≡ full_key (date_view d) = search rules in
    subst (λ key. SortsByTime key d) (sym bytes) (full_keys_sort_by_time d)
