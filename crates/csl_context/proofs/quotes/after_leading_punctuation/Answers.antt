use Rattle.std.proofs.Common.{◌≡◌, ℕ, List, [], ◌∷◌, refl, ap, arith}
use Rattle.std.specs.Prelude.{◌≢◌, None}
use Rattle.std.proofs.lemmas.Str.Pattern.{strip_prefix_char}
use Rattle.csl_context.specs.Quotes.{after_leading_punctuation}
use Rattle.csl_context.proofs.quotes.after_leading_punctuation.Goals as goal

-- a text that begins with neither a comma nor a period is unchanged
same : (bs : List ℕ) → ((rest : List ℕ) → bs ≢ 44 ∷ rest) → ((rest : List ℕ) → bs ≢ 46 ∷ rest) → bs ≡ after_leading_punctuation bs
same [] h k = refl
same (b ∷ bs) h k =
    let no_comma : b ≢ 44 = λ e. h bs (ap (λ x. x ∷ bs) e) in
    let no_dot : b ≢ 46 = λ e. k bs (ap (λ x. x ∷ bs) e) in
    grind arith

pub returns-in-None : goal.returns-in-None
returns-in-None c =
    same _ (strip_prefix_char 44 c.args.suffix.now None c.in_default.ensures.cases (omega arith)) (strip_prefix_char 46 c.args.suffix.now None c.in-None.ensures.cases (omega arith))
