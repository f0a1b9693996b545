use Rattle.std.proofs.Common.{ℕ, List, chars, subst, sym}
use Rattle.std.proofs.lemmas.Str.{scalars-chars}
use Rattle.lit_model.specs.Numeric.{numeric_view, Spells}
use Rattle.lit_model.proofs.Parsed.{found, only, nothing_read, writable}
use Rattle.lit_model.proofs.RoundTrip.{numeric_spelled}
use Rattle.lit_model.proofs.Theorems.{numbers_are_read_as_spelled, numbers_are_unique}
use Rattle.lit_model.proofs.numeric.Numeric.parse.Goals as goal

pub returns-clause-found : goal.returns-clause-found
returns-clause-found c = found numeric_view (chars c.args.text.now) c.number_in.result c.number_in.ensures.exact

pub returns-clause-only : goal.returns-clause-only
returns-clause-only c = only numeric_view (chars c.args.text.now) c.number_in.result c.number_in.ensures.exact

pub returns-clause-refused : goal.returns-clause-refused
returns-clause-refused c h = c.number_in.ensures.none (nothing_read (chars c.args.text.now) h)

pub returns-clause-unique : goal.returns-clause-unique
returns-clause-unique c = numbers_are_unique (chars c.args.text.now)

pub returns-clause-writable : goal.returns-clause-writable
returns-clause-writable c = writable numeric_view (chars c.args.text.now) (scalars-chars c.args.text.now c.utf8.text) c.number_in.result c.number_in.ensures.exact

pub returns-clause-again : goal.returns-clause-again
returns-clause-again c v w e = only numeric_view (chars c.args.text.now) c.number_in.result c.number_in.ensures.exact v (subst (λ (t : List ℕ). Spells v (chars t)) (sym e) (numeric_spelled v w))

pub returns-clause-grammar : goal.returns-clause-grammar
returns-clause-grammar c = numbers_are_read_as_spelled (chars c.args.text.now)
