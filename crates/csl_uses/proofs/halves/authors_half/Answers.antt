use Rattle.std.proofs.Common.{refl, ap, ◌∙◌}
use Rattle.csl.specs.Entry.Cite.{CiteState}
use Rattle.csl.specs.Nodes.Text.{RenderOutput}
use Rattle.csl.specs.Render.Cites.{special_cite}
use Rattle.csl.specs.Render.Names.{author}
use Rattle.csl.specs.Tree.Write.{plain_text}
use Rattle.csl_uses.specs.Cite.{by_authors}
use Rattle.csl_uses.proofs.halves.authors_half.Goals as goal

pub returns-clause-alone : goal.returns-clause-alone
returns-clause-alone g c others same =
    c.in_ok-to_text.ensures
    ∙ ap (λ (m : RenderOutput). plain_text m.content) (c.in_ok-part.ensures.alone author refl others same)
    ∙ ap (λ (s : CiteState). plain_text (special_cite c.args.style.now s by_authors others).content) c.first-first.ensures
