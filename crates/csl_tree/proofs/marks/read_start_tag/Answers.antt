use Rattle.std.proofs.Common.{rules}
use Rattle.csl_tree.proofs.Tags.{div_found, span_found, none_found}
use Rattle.csl_tree.proofs.marks.read_start_tag.Goals as goal

pub returns-in-Some-clause-found : goal.returns-in-Some-clause-found
returns-in-Some-clause-found c = div_found c.args.html.now c.in-Some.rest.now (search rules)

pub returns-in-Some-after_span-clause-found : goal.returns-in-Some-after_span-clause-found
returns-in-Some-after_span-clause-found c = span_found c.args.html.now c.in-Some-after_span.rest.now (search rules)

pub returns-in-None-clause-none : goal.returns-in-None-clause-none
returns-in-None-clause-none c = none_found c.args.html.now (search rules) (search rules) (search rules)
