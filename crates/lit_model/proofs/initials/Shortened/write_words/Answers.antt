use Rattle.std.proofs.Common.{◌≡◌, ℕ, List, [], ◌++◌, map, refl, sym, ap, subst, ◌∙◌, rules}
use Rattle.std.specs.Prelude.{IsUtf8}
use Rattle.std.specs.Str.Iter.{split_whitespace_rest}
use Rattle.lit_model.specs.Initials.{given_words, initials_of}
use Rattle.lit_model.specs.Shortened.{word_text, words_text, before_word}
use Rattle.lit_model.specs.declared.initials.Before.TheVariants.{Nothing}
use Rattle.lit_model.proofs.Shortening.{words_more, words_none, next_word, last_word, written_initials}
use Rattle.csl_common.proofs.Writes.{two_writes}
use Rattle.lit_model.proofs.initials.Shortened.write_words.Goals as goal

pub loop-word-init : goal.loop-word-init
loop-word-init g c =
    let style = c.args.self.now in
    let is : split_whitespace_rest c.into_iter-word-iterator.result ≡ c.args.given.now = search rules in (
      subst IsUtf8 (sym is) c.utf8.given,
      ([], record { parts = []; calls = refl; whole = refl }, ap (λ (r : List ℕ). words_text style.text.now style.hyphen Nothing (map initials_of (given_words r))) is),
      refl,
    )

pub loop-word-preserved : goal.loop-word-preserved
loop-word-preserved g c =
    let style = c.args.self.now in
    let rest = split_whitespace_rest c.loop-word.word-iterator in
    let after = split_whitespace_rest c.next.new.self in
    let word = c.in-Some.word.now in
    let step = c.in-Some.ensures.steps in
    let inv = c.loop-word.invariant in
    let more = words_more rest step.0 word after inv.0 step.1 step.2 step.3 step.4 step.5 in (
      more.1,
      (
        inv.1.0 ++ word_text style.text.now style.hyphen c.loop-word.place (initials_of word),
        two_writes _ _ _ _ _ _ _ inv.1.1 c.in_ok-last.ensures.ok refl,
        next_word style.text.now style.hyphen inv.1.0 _ c.loop-word.place c.before_word-place.result word (given_words rest) (given_words after) more.0 (c.before_word-place.ensures ∙ ap before_word c.in_ok-last.ensures.place) inv.1.2,
      ),
      c.in_ok-last.ensures.kept ∙ inv.2,
    )

pub returns-clause-ok : goal.returns-clause-ok
returns-clause-ok g c =
    let style = c.args.self.now in
    let rest = split_whitespace_rest c.loop-word.word-iterator in
    let inv = c.loop-word.invariant in
    let step = c.in-None.ensures.steps in
    two_writes _ _ _ _ _ _ _ inv.1.1 c.in_ok-write_end.ensures.ok (last_word style.text.now style.hyphen inv.1.0 _ c.loop-word.place (given_words rest) (words_none rest inv.0 step.1) inv.1.2 ∙ written_initials style.text.now style.hyphen (map initials_of (given_words c.args.given.now)))
