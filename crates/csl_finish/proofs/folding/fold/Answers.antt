use Rattle.std.proofs.lemmas.Iterator.{YieldsList-from_chars, items_from_collect}
use Rattle.std.proofs.Common.{◌≡◌, ◌∙◌, List, ℕ, ap, subst}
use Rattle.std.specs.Prelude.{IfOk, chars, encode_utf8_all, string_bytes}
use Rattle.caseless.specs.Caseless.{default_case_fold}
use Rattle.unicode_normalization.specs.Forms.{nfkd}
use Rattle.csl_finish.proofs.Folded.{chars_spelled}
use Rattle.csl_finish.specs.Folding.{folded_chars}
use Rattle.csl_finish.proofs.folding.fold.Goals as goal

pub returns : goal.returns
returns c =
    let decomposed : chars c.as_str.result.now ≡ nfkd (chars c.args.text.now) = ap chars c.as_str.ensures.value ∙ chars_spelled c.in_ok-decomposed.decomposed _ c.in_ok-decomposed.ensures in
    let small : chars (string_bytes c.in_ok-small.small) ≡ default_case_fold (chars c.as_str.result.now) = chars_spelled c.in_ok-small.small _ c.in_ok-small.ensures in
    let all = items_from_collect c.collect.result c.collect.ensures.ran (YieldsList-from_chars c.deref.result.now c.deref.utf8 cc) in
    let items : c.in_ok-letters.letters.items ≡ chars c.deref.result.now = rw c.in_ok-letters.was at all in
    let letters : c.deref-2.result.now ≡ chars (string_bytes c.in_ok-small.small) = c.deref-2.ensures.value ∙ items ∙ ap chars c.deref.ensures in
    subst (λ (cs : List ℕ). IfOk c.folded_letters.result (λ s. string_bytes s ≡ encode_utf8_all (folded_chars cs)))
    (letters ∙ small ∙ ap default_case_fold decomposed)
    c.folded_letters.ensures
