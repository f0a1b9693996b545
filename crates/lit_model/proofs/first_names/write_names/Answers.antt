use Rattle.std.proofs.Common.{◌≡◌, ℕ, List, [], ◌++◌, refl, sym, ap, subst, ◌∙◌, rules}
use Rattle.std.specs.Prelude.{IsUtf8, option_copied}
use Rattle.std.specs.Str.Iter.{split_whitespace_rest}
use Rattle.std.proofs.lemmas.Str.{IsUtf8-nil}
use Rattle.lit_model.specs.FirstNames.{last_letter_or_word}
use Rattle.lit_model.specs.Marked.{names_text}
use Rattle.lit_model.specs.Initials.{given_words}
use Rattle.lit_model.proofs.Marking.{next_name, last_name, all_written}
use Rattle.lit_model.proofs.Shortening.{words_more, words_none}
use Rattle.csl_common.proofs.Writes.{three_writes, writes_of_eq}
use Rattle.lit_model.proofs.first_names.write_names.Goals as goal

pub loop-word-init : goal.loop-word-init
loop-word-init g c =
    let text = c.args.text.now in
    let is : split_whitespace_rest c.into_iter-word-iterator.result ≡ c.args.given.now = search rules in (
      IsUtf8-nil,
      subst IsUtf8 (sym is) c.utf8.given,
      ([], record { parts = []; calls = refl; whole = refl }, ap (λ (r : List ℕ). names_text text [] (given_words r)) is),
      refl,
    )

pub loop-word-preserved : goal.loop-word-preserved
loop-word-preserved g c =
    let text = c.args.text.now in
    let gap = c.loop-word.gap.now in
    let rest = split_whitespace_rest c.loop-word.word-iterator in
    let after = split_whitespace_rest c.next.new.self in
    let word = c.in-Some.word.now in
    let o = option_copied c.single_letter-letter.result in
    let step = c.in-Some.ensures.steps in
    let inv = c.loop-word.invariant in
    let more = words_more rest step.0 word after inv.1 step.1 step.2 step.3 step.4 step.5 in (
      c.gap_after-gap.utf8,
      more.1,
      (
        inv.2.0 ++ (gap ++ last_letter_or_word text o word),
        three_writes _ _ _ _ _ _ _ _ _ inv.2.1 c.in_ok-put.ensures.ok c.in_ok-write_name.ensures.ok refl,
        next_name text inv.2.0 _ gap c.gap_after-gap.result.now word o (given_words rest) (given_words after) more.0 c.single_letter-letter.ensures c.gap_after-gap.ensures inv.2.2,
      ),
      c.in_ok-write_name.ensures.kept ∙ c.in_ok-put.ensures.kept ∙ inv.3,
    )

pub returns-clause-ok : goal.returns-clause-ok
returns-clause-ok g c =
    let rest = split_whitespace_rest c.loop-word.word-iterator in
    let inv = c.loop-word.invariant in
    writes_of_eq _ _ _ _ _ (last_name c.args.text.now inv.2.0 _ c.loop-word.gap.now (given_words rest) (words_none rest inv.1 c.in-None.ensures.steps.1) inv.2.2 ∙ all_written c.args.text.now (given_words c.args.given.now) c.utf8.text) inv.2.1
