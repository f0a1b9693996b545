-- The result of a dry run in the bits of a number: bit 0 tells whether the node prints, the next
-- four are the usage flags (`Usage` of `csl_nodes`). Only private contracts cite these definitions.
use Rattle.std.specs.Prelude.{ℕ, ◌==◌, Bool}
use Rattle.std.specs.Int.{bit_at}
use Rattle.csl_nodes.specs.Usage.{usage_flags, Info, info_of}
use Rattle.csl_render.specs.declared.flags.InfoFlags.{InfoFlags}

abbrev pub has_flag : ℕ → ℕ → Bool
has_flag bits i = bit_at bits i == 1

abbrev pub info_of_flags : InfoFlags → Info
info_of_flags f = info_of (has_flag f.bits 0) (usage_flags (has_flag f.bits 1) (has_flag f.bits 2) (has_flag f.bits 3) (has_flag f.bits 4))
