use Rattle.std.proofs.Common.{rules, ◌≡◌, ◌∙◌, ◌++◌, refl, sym, ap}
use Rattle.std.specs.List.{filter}
use Rattle.std.proofs.lemmas.Iterator.{YieldsList-from_chars}
use Rattle.std.proofs.lemmas.Iterator.Consumers.{YieldsList-end}
use Rattle.std.proofs.lemmas.List.{map-id}
use Rattle.csl_finish.specs.declared.letters.Role.TheVariants.{Plain}
use Rattle.csl_finish.specs.Letters.{is_word_char}
use Rattle.csl_finish.specs.Letters.{placed, words}
use Rattle.csl_finish.proofs.Words.{pushed}
use Rattle.csl_finish.proofs.letters.push_letters.Goals as goal

pub loop-value-preserved : goal.loop-value-preserved
loop-value-preserved c =
    pushed c.loop-value.letters.items c.push.new.self.items (words c.args.letters.now.items) c.args.index c.loop-value.yielded
    (record { value = c.in-Some.value; text = c.args.index; role = Plain }) (search rules) refl c.loop-value.invariant

pub returns : goal.returns
returns c =
    let ended = (YieldsList-end (YieldsList-from_chars c.args.text.now c.utf8.text cc) c.loop-value.yielded _ c.loop-value.yielded_by _ _ c.in-None.is c.next.ensures.steps).0 in
    c.loop-value.invariant ∙ ap (λ cs. words c.args.letters.now.items ++ placed c.args.index (filter is_word_char cs)) (sym (map-id c.loop-value.yielded) ∙ ended)
