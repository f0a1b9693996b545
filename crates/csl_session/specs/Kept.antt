-- How much is kept (docs/HOSTS.md, Limits): the sum of the bytes of all values.
use Rattle.std.specs.Prelude.{ℕ, ◌+◌, List, [], ◌∷◌, Option, Some, None, String}
use Rattle.std.specs.declared.alloc.Global.{Global}
use Rattle.std.specs.BTreeMap.{BTreeMap, get}
use Rattle.std.specs.String.{string_cmp}
use Rattle.csl_session.specs.declared.kept.Kept.{Kept}

-- the bytes of all entries
abbrev pub entries_bytes : {T : Type 0} → List (String Global × Kept T) → ℕ
entries_bytes [] = 0
entries_bytes (e ∷ es) = e.1.bytes + entries_bytes es

abbrev pub bytes_if : {T : Type 0} → Option (Kept T) → ℕ
bytes_if None = 0
bytes_if (Some k) = k.bytes

-- the bytes of the value of a name, or 0
abbrev pub bytes_at : {T : Type 0} → String Global → BTreeMap (String Global) (Kept T) → ℕ
bytes_at name m = bytes_if (get string_cmp m name)
