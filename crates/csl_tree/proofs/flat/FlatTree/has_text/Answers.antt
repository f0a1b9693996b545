use Rattle.std.proofs.Common.{◌≡◌, ◌∙◌, drop, ap}
use Rattle.std.specs.Prelude.{is_some}
use Rattle.std.proofs.lemmas.List.{take_rest}
use Rattle.csl_tree.specs.Tokens.{leaf_text, last_char, has_text}
use Rattle.csl_tree.specs.Flat.{OpenParts}
use Rattle.csl_tree.specs.FlatChildren.{content_of}
use Rattle.csl_tree.proofs.FlatTexts.{has_last, content_spells}
use Rattle.csl_tree.proofs.flat.FlatTree.has_text.Goals as goal

pub returns : goal.returns
returns c =
    let start = c.self.inside.start in
    let part = drop start c.deref.result.now in
    let is : c.last_char.result ≡ last_char (leaf_text (content_of part)) = rw take_rest at c.last_char.ensures in
    c.is_some.ensures ∙ ap is_some is ∙ has_last (leaf_text (content_of part)) (content_spells part)
    ∙ ap (λ l. has_text (content_of (drop start l))) c.deref.ensures.value ∙ ap (λ (p : OpenParts). has_text p.inner) c.self.view_is
