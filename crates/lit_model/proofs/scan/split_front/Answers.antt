use Rattle.std.proofs.Common.{◌≡◌, ℕ, true, List, ◌∷◌, ◌++◌, length, take, chars, encode_utf8, encode_utf8_all, sym, ap, ◌∙◌, append_assoc, arith, rules, ◌-◌}
use Rattle.std.proofs.lemmas.Str.{IsCharBoundary-at_seam}
use Rattle.std.proofs.lemmas.List.{length-take}
use Rattle.lit_model.specs.NumericParse.{longest_prefix, after_longest_prefix}
use Rattle.lit_model.specs.Scan.{passes}
use Rattle.lit_model.proofs.Fronts.{take_grown, whole_grown, front-cons_yes, after-cons_yes}
use Rattle.lit_model.proofs.scan.split_front.Goals as goal

pub loop-c-preserved : goal.loop-c-preserved
loop-c-preserved c =
    let p = passes c.args.class in
    let text = c.args.text.now in
    let rest = c.loop-c.rest.now in
    let next = c.in-Some.next.now in
    let inv = c.loop-c.invariant in
    let split : rest ≡ encode_utf8 c.in-Some.c ++ next = search rules in
    let passed : p c.in-Some.c ≡ true = search rules in
    let list : chars rest ≡ c.in-Some.c ∷ chars next = search rules in
    let f = longest_prefix p (chars next) in
    let front_is : encode_utf8_all (longest_prefix p (chars rest)) ≡ encode_utf8 c.in-Some.c ++ encode_utf8_all f = ap (λ (x : List ℕ). encode_utf8_all (longest_prefix p x)) list ∙ ap encode_utf8_all (front-cons_yes p c.in-Some.c (chars next) passed) in
    record {
      text = search rules;
      shorter = omega (arith, c.in-Some.ensures.shorter);
      whole = whole_grown text rest next (encode_utf8 c.in-Some.c) inv.shorter inv.whole split;
      front_so_far = inv.front_so_far ∙ ap (λ (x : List ℕ). take (length text - length rest) text ++ x) front_is
          ∙ sym (append_assoc (take (length text - length rest) text) (encode_utf8 c.in-Some.c) (encode_utf8_all f))
          ∙ ap (λ (x : List ℕ). x ++ encode_utf8_all f) (sym (take_grown text rest next (encode_utf8 c.in-Some.c) inv.shorter inv.whole split));
      rest_same = inv.rest_same ∙ ap (after_longest_prefix p) list ∙ after-cons_yes p c.in-Some.c (chars next) passed;
    }

pub split_at-requires : goal.split_at-requires
split_at-requires c =
    let text = c.args.text.now in
    let rest = c.loop-c.rest.now in
    let len : length (take (length text - length rest) text) ≡ length text - length rest = omega (arith, length-take (length text - length rest) text) in
    rw len at (IsCharBoundary-at_seam text (take (length text - length rest) text) rest c.loop-c.invariant.whole c.loop-c.invariant.text)
