use Rattle.std.proofs.Common.{◌∙◌, ap}
use Rattle.csl_tree.specs.Flat.{close_part}
use Rattle.csl_context.proofs.Affixes.{bare}
use Rattle.csl_context.proofs.writing.splice_part.Goals as goal

pub returns : goal.returns
returns c = record {
  ok = c.in_ok-close_spliced.ensures.ok ∙ ap (λ l. close_part l c.args.parts.now) (bare c.args.parts.now.inner);
  err = tt;
}
