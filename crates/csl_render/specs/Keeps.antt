-- What every rendering preserves of the state (CSL 1.0.2, Names, Substitute; Date; Disambiguation,
-- `disambiguate-add-names`, `disambiguate-add-year-suffix`).
-- - *Switch.* Lookups suppress their variable inside `cs:substitute` alone. After any node they
--   suppress it exactly if they did before the node.
-- - *Suppressed variables.* A variable that a substitute has looked up stays suppressed in the rest
--   of the output.
-- - *First date.* The implicit year suffix is that of the first date. Once a date was rendered,
--   even to nothing, no later one is the first.
-- - *First names.* Once the forms of some names are kept, later names do not replace them.
use Rattle.std.specs.Prelude.{◌≡◌, true, is_some}
use Rattle.csl_elements.specs.declared.taxonomy.Variable.{Variable}
use Rattle.csl_context.specs.State.{State, is_suppressed}

-- the state `t` keeps what every rendering that starts in `s` preserves
pub record Keeps (s t : State) : Type 0 where
  pub switch : t.suppressing ≡ s.suppressing
  pub suppressed : (v : Variable) → is_suppressed s v ≡ true → is_suppressed t v ≡ true
  pub date : s.first_date_seen ≡ true → t.first_date_seen ≡ true
  pub names : is_some s.first_names ≡ true → t.first_names ≡ s.first_names
