use Rattle.std.proofs.Common.{◌≡◌, ◌<◌, length, ap, ◌∙◌, arith}
use Rattle.std.specs.Option.{option_copied}
use Rattle.std.proofs.lemmas.Bool.Decides.{nat_tests}
use Rattle.lit_model.proofs.Names.{without_lacking, without_alone, without_more}
use Rattle.lit_model.proofs.person.strip_article.Goals as goal

pub returns-in_err-rest : goal.returns-in_err-rest
returns-in_err-rest c = ap option_copied c.from_residual.ensures ∙ without_lacking c.args.article.now c.args.text.now c.in_err-rest.ensures.cases

pub returns-else-is_empty : goal.returns-else-is_empty
returns-else-is_empty c =
    let more : 0 < length c.in_ok-rest.rest.now = grind (arith, nat_tests, c.if-is_empty.ensures) in
    without_more c.args.article.now c.args.text.now c.in_ok-rest.rest.now c.in_ok-rest.ensures.cases more

pub returns-then-is_empty : goal.returns-then-is_empty
returns-then-is_empty c =
    let alone : length c.in_ok-rest.rest.now ≡ 0 = grind (arith, nat_tests, c.if-is_empty.ensures) in
    without_alone c.args.article.now c.args.text.now c.in_ok-rest.rest.now c.in_ok-rest.ensures.cases alone
