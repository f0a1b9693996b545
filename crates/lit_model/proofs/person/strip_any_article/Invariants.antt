use Rattle.std.proofs.Common.{◌≡◌, map, drop}
use Rattle.lit_model.specs.Name.{strip_any_article}
use Rattle.lit_model.proofs.person.strip_any_article.Given as goal

abbrev pub invariant-loop-article : goal.invariant-loop-article
invariant-loop-article l = strip_any_article (map (λ a. a.now) (drop l.article-index l.articles)) l.text ≡ strip_any_article (map (λ a. a.now) l.articles) l.text
