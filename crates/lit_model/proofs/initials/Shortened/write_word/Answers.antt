use Rattle.std.proofs.Common.{◌∷◌, ◌++◌, Some, None, length, lit<, refl, ap, ◌∙◌, arith, rules}
use Rattle.std.specs.Prelude.{option_to_list}
use Rattle.std.proofs.lemmas.List.{length-append}
use Rattle.std.proofs.lemmas.Str.Pattern.{split_parts}
use Rattle.lit_model.specs.Initials.{first_grapheme, initials_of}
use Rattle.lit_model.specs.Shortened.{word_text}
use Rattle.lit_model.proofs.Shortening.{initials_more, initials_one, next_piece, next_place, last_piece, last_place}
use Rattle.csl_common.proofs.Writes.{two_writes}
use Rattle.lit_model.proofs.initials.Shortened.write_word.Goals as goal

pub loop-piece-smaller : goal.loop-piece-smaller
loop-piece-smaller g c =
    let parts = split_parts 45 c.loop-piece.rest.now (Some (c.in-Some.piece, c.in-Some.after)) c.in-Some.ensures.cases (lit< tt) in
    omega (arith, ap length parts.0, length-append c.in-Some.piece.now (45 ∷ c.in-Some.after.now))

pub loop-piece-preserved : goal.loop-piece-preserved
loop-piece-preserved g c =
    let style = c.args.self.now in
    let rest = c.loop-piece.rest.now in
    let after = c.in-Some.after.now in
    let o = first_grapheme c.in-Some.piece.now in
    let parts = split_parts 45 rest (Some (c.in-Some.piece, c.in-Some.after)) c.in-Some.ensures.cases (lit< tt) in
    let split = initials_more rest c.in-Some.piece.now after parts.0 parts.1 in
    let inv = c.loop-piece.invariant in (
      search rules,
      (
        inv.1.0 ++ word_text style.text.now style.hyphen c.loop-piece.place (option_to_list o),
        two_writes _ _ _ _ _ _ _ inv.1.1 c.in_ok-place.ensures.ok refl,
        next_piece style.text.now style.hyphen inv.1.0 _ c.loop-piece.place c.in_ok-place.place o (initials_of rest) (initials_of after) split c.in_ok-place.ensures.place inv.1.2,
      ),
      next_place c.loop-piece.place c.in_ok-place.place _ o (initials_of rest) (initials_of after) split c.in_ok-place.ensures.place inv.2,
      c.in_ok-place.ensures.kept ∙ inv.3,
    )

pub returns-clause-place : goal.returns-clause-place
returns-clause-place g c =
    let unsplit = split_parts 45 c.loop-piece.rest.now None c.in_default.ensures.cases (lit< tt) in
    last_place c.loop-piece.place c.in_ok-last.last _ (first_grapheme c.loop-piece.rest.now) (initials_of c.loop-piece.rest.now) (initials_one c.loop-piece.rest.now unsplit) c.in_ok-last.ensures.place c.loop-piece.invariant.2

pub returns-clause-ok : goal.returns-clause-ok
returns-clause-ok g c =
    let style = c.args.self.now in
    let inv = c.loop-piece.invariant in
    let unsplit = split_parts 45 c.loop-piece.rest.now None c.in_default.ensures.cases (lit< tt) in
    two_writes _ _ _ _ _ _ _ inv.1.1 c.in_ok-last.ensures.ok (last_piece style.text.now style.hyphen inv.1.0 _ c.loop-piece.place (first_grapheme c.loop-piece.rest.now) (initials_of c.loop-piece.rest.now) (initials_one c.loop-piece.rest.now unsplit) inv.1.2)
