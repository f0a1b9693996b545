use Rattle.std.proofs.Common.{not, ◌||◌, rules, tests}
use Rattle.std.proofs.lemmas.Iterator.{YieldsList-from_chars}
use Rattle.std.proofs.lemmas.Iterator.Search.{all_from_yields_List}
use Rattle.unicode.specs.Binary.{is_alphabetic}
use Rattle.unicode.specs.Script.{script}
use Rattle.lit_model.specs.Name.{is_cjk_script}
use Rattle.lit_model.proofs.person.is_cjk_text.Goals as goal

pub returns : goal.returns
returns c = all_from_yields_List (λ x. not (is_alphabetic x) || is_cjk_script (script x)) _ _ _ c.all.ensures.ran (YieldsList-from_chars c.args.text.now c.utf8.text cc) (λ x b q k. search (rules, tests))
