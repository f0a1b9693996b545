use Rattle.std.proofs.Common.{◌≡◌, ℕ, true, false, List, Some, None, chars, encode_utf8_all, sym, ap, ◌∙◌, rules}
use Rattle.std.specs.Char.{is_whitespace}
use Rattle.lit_model.specs.Numeric.{is_affix}
use Rattle.lit_model.specs.NumericParse.{rest_of, longest_prefix, after_longest_prefix, integers_at, is_blank}
use Rattle.lit_model.proofs.Shapes.{numbers_of, shape_none, shape_unended, shape_some, shape_made}
use Rattle.lit_model.proofs.numeric.parse.shape_of.Goals as goal

pub returns-in_default : goal.returns-in_default
returns-in_default c =
    let cs = chars c.args.text.now in
    let numbers : chars c.split_front-2.result.1.now ≡ numbers_of cs = c.split_front-2.ensures.rest ∙ ap (after_longest_prefix is_affix) c.split_front.ensures.rest in
    let none : rest_of (integers_at c.delimiters-delimiters.result (chars c.split_front-2.result.1.now)) ≡ None = search rules in
    shape_none cs (rw (c.delimiters-delimiters.ensures, numbers) at none)

pub returns-then-not-is_blank : goal.returns-then-not-is_blank
returns-then-not-is_blank c =
    let cs = chars c.args.text.now in
    let numbers : chars c.split_front-2.result.1.now ≡ numbers_of cs = c.split_front-2.ensures.rest ∙ ap (after_longest_prefix is_affix) c.split_front.ensures.rest in
    let left : rest_of (integers_at c.delimiters-delimiters.result (chars c.split_front-2.result.1.now)) ≡ Some (chars c.in-Some.rest.now) = sym c.in-Some.ensures in
    let ended : is_blank (after_longest_prefix is_affix (chars c.in-Some.rest.now)) ≡ false = search rules in
    shape_unended cs (chars c.in-Some.rest.now) (rw (c.delimiters-delimiters.ensures, numbers) at left) ended

pub returns : goal.returns
returns c =
    let cs = chars c.args.text.now in
    let numbers : chars c.split_front-2.result.1.now ≡ numbers_of cs = c.split_front-2.ensures.rest ∙ ap (after_longest_prefix is_affix) c.split_front.ensures.rest in
    let left : rest_of (integers_at c.delimiters-delimiters.result (chars c.split_front-2.result.1.now)) ≡ Some (chars c.in-Some.rest.now) = sym c.in-Some.ensures in
    let ended : is_blank (after_longest_prefix is_affix (chars c.in-Some.rest.now)) ≡ true = search rules in
    let found = shape_some cs (chars c.in-Some.rest.now) (rw (c.delimiters-delimiters.ensures, numbers) at left) ended in
    let prefix : c.split_front-2.result.0.now ≡ encode_utf8_all (longest_prefix is_affix (after_longest_prefix is_whitespace cs)) = c.split_front-2.ensures.front ∙ ap (λ (x : List ℕ). encode_utf8_all (longest_prefix is_affix x)) c.split_front.ensures.rest in
    let suffix : c.split_front-3.result.0.now ≡ encode_utf8_all (longest_prefix is_affix (chars c.in-Some.rest.now)) = c.split_front-3.ensures.front in
    shape_made cs _ (chars c.in-Some.rest.now) found.0 c.delimiters-delimiters.ensures numbers prefix suffix found.1 found.2
