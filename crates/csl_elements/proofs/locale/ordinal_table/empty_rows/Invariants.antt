use Rattle.std.proofs.Common.{◌≡◌, [], replicate}
use Rattle.csl_elements.specs.OrdinalTable.{row_views}
use Rattle.csl_elements.proofs.locale.ordinal_table.empty_rows.Given as goal

abbrev pub invariant-loop : goal.invariant-loop
invariant-loop l = row_views l.rows.items ≡ replicate l.counter []
