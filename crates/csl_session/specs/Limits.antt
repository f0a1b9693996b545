-- How large a request is (docs/HOSTS.md, Limits).
use Rattle.std.specs.Prelude.{ℕ, ◌+◌, ◌≤◌, Bool, ◌||◌, ◌==◌, List, [], ◌∷◌, length, if◌then◌else◌}
use Rattle.csl_session.specs.declared.limits.SessionLimits.{SessionLimits}

-- a byte that may stand before a value: `{`, `[`, `,` or `:`
abbrev pub is_before_value : ℕ → Bool
is_before_value b = b == 123 || (b == 91 || (b == 44 || b == 58))

-- how many values a text has, as the bytes that may stand before one count them
abbrev pub values : List ℕ → ℕ
values [] = 0
values (b ∷ bs) = (if is_before_value b then 1 else 0) + values bs

-- a request of no more bytes and values than are allowed
abbrev pub IsWithin : SessionLimits → List ℕ → Type 0
IsWithin limits request = (length request ≤ limits.request) × (values request ≤ limits.values)
