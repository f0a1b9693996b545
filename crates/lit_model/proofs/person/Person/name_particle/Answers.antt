use Rattle.std.proofs.Common.{◌-◌, ◌<◌, length, get_or, Some, sym, ap, ◌∙◌, arith}
use Rattle.std.proofs.lemmas.Str.{IsCharBoundary-before_ascii}
use Rattle.lit_model.specs.Name.{name_particle, name_without_particle}
use Rattle.lit_model.proofs.Particles.{rest_within, particle_none, particle_some, particle_space, range_front}
use Rattle.lit_model.proofs.person.Person.name_particle.Goals as goal

pub overflow_sub-front : goal.overflow_sub-front
overflow_sub-front c =
    rest_within c.as_str-name.result.now c.name_without_particle-rest.result.now (c.name_without_particle-rest.ensures ∙ ap name_without_particle (sym c.as_str-name.ensures.value))

pub returns-then-front-eq0 : goal.returns-then-front-eq0
returns-then-front-eq0 c =
    particle_none c.as_str-name.result.now c.name_without_particle-rest.result.now (c.name_without_particle-rest.ensures ∙ ap name_without_particle (sym c.as_str-name.ensures.value)) c.if-front-eq0.true ∙ ap name_particle c.as_str-name.ensures.value

pub range-requires-clause-end_boundary : goal.range-requires-clause-end_boundary
range-requires-clause-end_boundary c =
    let text = c.as_str-name.result.now in
    let rest = c.name_without_particle-rest.result.now in
    let front : 0 < length text - length rest = omega arith in
    let space = particle_space text rest (c.name_without_particle-rest.ensures ∙ ap name_without_particle (sym c.as_str-name.ensures.value)) front in
    let inside : length text - length rest - 1 < length text = omega arith in
    let ascii : get_or text (length text - length rest - 1) 0 < 128 = omega (arith, space) in
    IsCharBoundary-before_ascii text (length text - length rest - 1) inside ascii

pub returns : goal.returns
returns c =
    let text = c.as_str-name.result.now in
    let rest = c.name_without_particle-rest.result.now in
    let front : 0 < length text - length rest = omega arith in
    ap Some (c.range.ensures.value ∙ range_front text (length text - length rest - 1)) ∙ particle_some text rest (c.name_without_particle-rest.ensures ∙ ap name_without_particle (sym c.as_str-name.ensures.value)) front ∙ ap name_particle c.as_str-name.ensures.value
