use Rattle.csl_context.proofs.Affixes.{two_texts}
use Rattle.csl_context.proofs.texts.TextWriter.affix_of_two.Goals as goal

pub returns : goal.returns
returns c = two_texts _ _ _ _ _ _ _ c.new-text.ensures.bytes c.in_ok-add.ensures c.in_ok-add-2.ensures
