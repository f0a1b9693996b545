use Rattle.std.proofs.Common.{◌≡◌, ℕ, ◌<◌, length, drop, option_map}
use Rattle.std.specs.Option.{option_or}
use Rattle.csl_style.specs.Cycles.{row_at}
use Rattle.csl_elements.specs.View.{definitions}
use Rattle.csl_style.specs.CallGraph.{calls_in_all, children_at}
use Rattle.csl_style.specs.Missing.{missing_in_macros}
use Rattle.csl_style.proofs.call_graph.call_graph.Given as goal

abbrev pub invariant-loop-i : goal.invariant-loop-i
invariant-loop-i l =
    let ds = definitions l.macros in
    record {
      each : length l.rows.items ≡ l.i;
      rows : (k : ℕ) → k < l.i → row_at l.rows.items k ≡ calls_in_all ds (children_at ds k);
      missing : option_or (option_map (λ name. name.now) l.missing) (missing_in_macros ds l.i (definitions (drop l.i l.macros))) ≡ missing_in_macros ds 0 ds;
    }
