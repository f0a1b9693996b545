use Rattle.std.proofs.Common.{◌≡◌, length, string_bytes}
use denote.Text.{Utf8}
use denote.Shadow.{shadow}
use Rattle.lit_model.specs.Name.{name_without_particle}
use Rattle.lit_model.proofs.person.Person.name_without_particle.Given as goal

-- the rest is UTF-8, and without its particle it is the name without its particle
abbrev pub invariant-loop-word : goal.invariant-loop-word
invariant-loop-word l = shadow (Utf8 l.rest) × (name_without_particle l.rest ≡ name_without_particle (string_bytes l.self.name))

abbrev pub decreases-loop-word : goal.decreases-loop-word
decreases-loop-word l = length l.rest
