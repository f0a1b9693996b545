-- The parser accepts the address of the essay.
use Rattle.std.proofs.Common.{◌≡◌, true, refl, sym, ap, ◌∙◌, true≢false}
use Rattle.std.specs.Prelude.{None, is_some}
use Rattle.url.proofs.OnLiterals.{url_on_literals}
use Rattle.csl_samples.specs.Entries.{address_from, essay_text}

computes : is_some (address_from essay_text) ≡ true
unfolding address_from essay_text url_on_literals
computes = refl

pub essay_is_address : address_from essay_text ≡ None → ⊥
essay_is_address refused = true≢false (sym computes ∙ ap is_some refused)
