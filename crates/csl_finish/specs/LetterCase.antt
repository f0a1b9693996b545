-- Capitals of single letters.
use Rattle.std.specs.Prelude.{ℕ, ◌==◌, Option, Some, None, if◌then◌else◌}

-- the first letter alone is a capital: ǅ, ǈ, ǋ and ǲ
abbrev pub digraph_capital : ℕ → Option ℕ
digraph_capital c =
    if c == 0x1C6 then Some 0x1C5
    else if c == 0x1C9 then Some 0x1C8
    else if c == 0x1CC then Some 0x1CB
    else if c == 0x1F3 then Some 0x1F2
    else None
