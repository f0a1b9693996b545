use Rattle.std.proofs.Common.{◌∙◌, rules, tests}
use Rattle.std.proofs.lemmas.Iterator.{YieldsList-from_zip}
use Rattle.std.proofs.lemmas.Iterator.Adapters.{YieldsList-from_bytes}
use Rattle.std.proofs.lemmas.Iterator.Search.{all_from_yields_List}
use Rattle.csl_languages.proofs.SameTag.{same_byte, same_by_bytes}
use Rattle.csl_languages.proofs.tag.is_same.Goals as goal

pub returns-then-a-b : goal.returns-then-a-b
returns-then-a-b c =
    all_from_yields_List same_byte c.all.new.self _ _ c.all.ensures.ran (YieldsList-from_zip (YieldsList-from_bytes c.args.a.now cc) (YieldsList-from_bytes c.args.b.now cc)) (λ x b q k. search (rules, tests))
    ∙ same_by_bytes c.args.a.now c.args.b.now (search rules)
