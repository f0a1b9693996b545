use Rattle.std.proofs.Common.{ℕ, List, chars, subst, sym}
use Rattle.lit_model.specs.Page.{pages_view, SpellsPages}
use Rattle.lit_model.proofs.PagesParsed.{found, only, nothing_read, writable}
use Rattle.lit_model.proofs.PageRoundTrip.{pages_spelled}
use Rattle.std.proofs.lemmas.Str.{scalars-chars}
use Rattle.lit_model.proofs.Theorems.{pages_are_unique}
use Rattle.lit_model.proofs.page.PageRanges.parse.Goals as goal

pub returns-clause-found : goal.returns-clause-found
returns-clause-found c = found pages_view (chars c.args.text.now) c.pages_in.result c.pages_in.ensures.exact

pub returns-clause-only : goal.returns-clause-only
returns-clause-only c = only pages_view (chars c.args.text.now) c.pages_in.result c.pages_in.ensures.exact

pub returns-clause-unique : goal.returns-clause-unique
returns-clause-unique c = pages_are_unique (chars c.args.text.now)

pub returns-clause-refused : goal.returns-clause-refused
returns-clause-refused c h = c.pages_in.ensures.none (nothing_read (chars c.args.text.now) h)

pub returns-clause-writable : goal.returns-clause-writable
returns-clause-writable c = writable pages_view (chars c.args.text.now) (scalars-chars c.args.text.now c.utf8.text) c.pages_in.result c.pages_in.ensures.exact

pub returns-clause-again : goal.returns-clause-again
returns-clause-again c v w e = only pages_view (chars c.args.text.now) c.pages_in.result c.pages_in.ensures.exact v (subst (λ (t : List ℕ). SpellsPages v (chars t)) (sym e) (pages_spelled v w))
