-- A dash of a range in a locator (CSL 1.0.2, Locators): a hyphen, or an en dash (U+2013).
use Rattle.std.specs.Prelude.{ℕ, Bool, ◌==◌, ◌||◌}

abbrev pub is_dash : ℕ → Bool
is_dash c = (c == 0x2D) || (c == 0x2013)
