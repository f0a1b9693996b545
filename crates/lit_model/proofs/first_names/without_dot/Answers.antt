use Rattle.std.proofs.Common.{Some, None, lit<, sym, ap, ◌∙◌}
use Rattle.std.proofs.lemmas.Str.Pattern.{strip_suffix_char}
use Rattle.lit_model.specs.FirstNames.{without_dot}
use Rattle.lit_model.proofs.Marking.{dot_cut, dot_none}
use Rattle.lit_model.proofs.first_names.without_dot.Goals as goal

pub returns-in-Some : goal.returns-in-Some
returns-in-Some c = sym (ap without_dot (strip_suffix_char 46 c.args.word.now (Some c.in-Some.front) c.in-Some.ensures.cases (lit< tt)) ∙ dot_cut c.in-Some.front.now)

pub returns-in-None : goal.returns-in-None
returns-in-None c = dot_none c.args.word.now (strip_suffix_char 46 c.args.word.now None c.in-None.ensures.cases (lit< tt))
