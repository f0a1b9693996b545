use Rattle.std.proofs.Common.{refl, ap, ◌∙◌}
use Rattle.std.specs.Fn.{CalledAt}
use Rattle.std.specs.List.{list_all}
use Rattle.csl_tree.specs.Links.{addresses}
use Rattle.csl_tree.specs.Tokens.{tokens, token_text}
use Rattle.csl_tree.specs.Write.{plain_of}
use Rattle.csl_tree.proofs.KeptLinks.{kept_filtered, kept_gives, kept_by, all_allowed}
use Rattle.csl_tree.proofs.elem.ElemChildren.keep_links.Goals as goal

pub returns-clause-filtered : goal.returns-clause-filtered
returns-clause-filtered g c = kept_filtered _ _ _ _ _ c.keep_links_by.ensures.kept

pub returns-clause-kept : goal.returns-clause-kept
returns-clause-kept g c allowed by = kept_by g.F.FnMut allowed _ _ _ _ by c.keep_links_by.ensures.kept

pub returns-clause-allowed : goal.returns-clause-allowed
returns-clause-allowed g c allowed by =
    ap (λ ts. list_all allowed (addresses ts)) (kept_by g.F.FnMut allowed _ _ _ _ by c.keep_links_by.ensures.kept) ∙ all_allowed allowed (tokens c.args.self.now)

pub returns-clause-leaves : goal.returns-clause-leaves
returns-clause-leaves g c = kept_gives (CalledAt g.F.FnMut) token_text (λ bs s url. refl) _ _ _ _ c.keep_links_by.ensures.kept

pub returns-clause-plain : goal.returns-clause-plain
returns-clause-plain g c = kept_gives (CalledAt g.F.FnMut) plain_of (λ bs s url. refl) _ _ _ _ c.keep_links_by.ensures.kept

pub returns-clause-in_turn : goal.returns-clause-in_turn
returns-clause-in_turn g c = (_, c.keep_links_by.ensures.kept)
