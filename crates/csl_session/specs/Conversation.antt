-- The reply that waits (hosts/c/sulleqti.h).
use Rattle.std.specs.Prelude.{ℕ, ◌≡◌, ◌<◌, ◌++◌, List, length, drop, Option, Some, None, String, string_bytes}
use Rattle.std.specs.declared.alloc.Global.{Global}
use Rattle.csl_session.specs.declared.conversation.Taken.{Taken}
use Rattle.csl_session.specs.declared.conversation.Taken.TheVariants.{Whole, TooSmall, NoReply}

-- a reply of so many bytes waits, and is such a text
abbrev pub Waits : Option (String Global) → ℕ → (List ℕ → Type 0) → Type 0
Waits None n Is = ⊥
Waits (Some text) n Is = (n ≡ length (string_bytes text)) × Is (string_bytes text)

-- what waits before and after a reply is taken, and the room before and after
abbrev pub IsTaken : Option (String Global) → Option (String Global) → List ℕ → List ℕ → Taken → Type 0
IsTaken None after old new Whole = ⊥
IsTaken None after old new TooSmall = ⊥
IsTaken None after old new NoReply = (after ≡ None) × (new ≡ old)
IsTaken (Some text) after old new Whole = (after ≡ None) × (new ≡ string_bytes text ++ drop (length (string_bytes text)) old)
IsTaken (Some text) after old new TooSmall = (length old < length (string_bytes text)) × (after ≡ Some text) × (new ≡ old)
IsTaken (Some text) after old new NoReply = ⊥
