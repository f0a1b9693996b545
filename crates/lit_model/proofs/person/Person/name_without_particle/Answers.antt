use Rattle.std.proofs.Common.{◌∷◌, Some, None, length, lit<, sym, ap, ◌∙◌, arith, rules}
use Rattle.std.proofs.lemmas.List.{length-append}
use Rattle.std.proofs.lemmas.Str.Pattern.{split_parts}
use Rattle.lit_model.proofs.Particles.{words_one, words_more, left_one, left_step, left_stop}
use Rattle.lit_model.proofs.person.Person.name_without_particle.Goals as goal

pub loop-word-smaller : goal.loop-word-smaller
loop-word-smaller c =
    let parts = split_parts 32 c.loop-word.rest.now (Some (c.in-Some.word, c.in-Some.after)) c.in-Some.ensures.cases (lit< tt) in
    omega (arith, ap length parts.0, length-append c.in-Some.word.now (32 ∷ c.in-Some.after.now))

pub loop-word-preserved : goal.loop-word-preserved
loop-word-preserved c =
    let parts = split_parts 32 c.loop-word.rest.now (Some (c.in-Some.word, c.in-Some.after)) c.in-Some.ensures.cases (lit< tt) in
    let split = words_more c.loop-word.rest.now c.in-Some.word.now c.in-Some.after.now parts.0 parts.1 in
    (search rules, sym (left_step c.loop-word.rest.now c.in-Some.word.now c.in-Some.after.now split (sym c.if-not-is_particle_word.ensures)) ∙ c.loop-word.invariant.1)

pub returns-then-not-is_particle_word : goal.returns-then-not-is_particle_word
returns-then-not-is_particle_word c =
    let parts = split_parts 32 c.loop-word.rest.now (Some (c.in-Some.word, c.in-Some.after)) c.in-Some.ensures.cases (lit< tt) in
    let split = words_more c.loop-word.rest.now c.in-Some.word.now c.in-Some.after.now parts.0 parts.1 in
    sym (left_stop c.loop-word.rest.now c.in-Some.word.now c.in-Some.after.now split (sym c.if-not-is_particle_word.ensures)) ∙ c.loop-word.invariant.1

pub returns-in_default : goal.returns-in_default
returns-in_default c =
    let unspaced = split_parts 32 c.loop-word.rest.now None c.in_default.ensures.cases (lit< tt) in
    sym (left_one c.loop-word.rest.now (words_one c.loop-word.rest.now unspaced)) ∙ c.loop-word.invariant.1
