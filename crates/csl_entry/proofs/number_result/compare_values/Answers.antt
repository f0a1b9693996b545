use Rattle.std.proofs.Common.{rules, ◌∙◌, ap, map, [], ◌∷◌}
use Rattle.std.specs.Prelude.{ℤ, Option}
use Rattle.std.specs.Ordering.{int_cmp}
use Rattle.std.specs.Cmp.Lexicographic.{slice_cmp}
use Rattle.lit_model.specs.declared.numeric.NumericDelimiter.{NumericDelimiter}
use Rattle.csl_entry.proofs.number_result.compare_values.Goals as goal

pub returns-in-Number-Set : goal.returns-in-Number-Set
returns-in-Number-Set c =
    rw (c.in-Number-Set.is-0, c.in-Number-Set.is-1, ← c.deref.ensures.value) (c.compare_lists.ensures ∙ ap (λ (z : ℤ). slice_cmp int_cmp (z ∷ []) (map (λ (x : ℤ × Option NumericDelimiter). x.0) c.deref.result.now)) (search rules))
