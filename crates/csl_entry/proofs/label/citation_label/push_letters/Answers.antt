use Rattle.std.proofs.Common.{◌≡◌, ◌++◌, ℕ, List, true, take, string_bytes, sym, ap, subst, ◌∙◌}
use Rattle.std.specs.Prelude.{OnOk}
use Rattle.std.specs.List.{flat_map}
use Rattle.std.specs.Iterator.Adapters.{take_steps}
use Rattle.std.proofs.lemmas.Iterator.{YieldsList-from_take}
use Rattle.std.proofs.lemmas.Iterator.Consumers.{YieldsList-at}
use Rattle.std.proofs.lemmas.List.Concat.{concat_is}
use Rattle.unicode_segmentation.specs.Grapheme.{graphemes}
use Rattle.unicode_segmentation.specs.Iter.{graphemes_left}
use Rattle.unicode_segmentation.specs.Segments.{GivesFirst}
use Rattle.unicode_segmentation.proofs.SegmentsLemmas.{YieldsList-from_gives}
use Rattle.csl_entry.specs.CitationLabel.{first_letters}
use Rattle.csl_entry.proofs.LabelTexts.{text_from_extend}
use Rattle.csl_entry.proofs.label.citation_label.push_letters.Goals as goal

pub returns : goal.returns
returns c =
    let before : List ℕ = string_bytes c.args.label.now in
    let after : List ℕ = string_bytes c.extend.new.self in
    let left : List (List ℕ) = graphemes_left c.graphemes.result in
    let gs : List (List ℕ) = graphemes true c.args.text.now in
    let n : ℕ = c.args.count in
    let made : OnOk c.extend.result (after ≡ before ++ flat_map (λ x. x) (take n left)) = text_from_extend (take_steps (GivesFirst (λ p. p.now) graphemes_left)) c.take.result (take n left) before after c.extend.result c.extend.ensures.ran
    (YieldsList-from_take n (YieldsList-at c.take.ensures.source (YieldsList-from_gives (λ p. p.now) graphemes_left c.graphemes.result)) c.take.ensures.count) in
    let added : after ≡ before ++ flat_map (λ x. x) (take n left) = subst (λ r. OnOk r (after ≡ before ++ flat_map (λ x. x) (take n left))) c.in_ok-extend.was made in
    let same : flat_map (λ x. x) (take n left) ≡ first_letters n c.args.text.now = ap (λ (l : List (List ℕ)). flat_map (λ x. x) (take n l)) c.graphemes.ensures.left ∙ sym (concat_is (take n gs)) in
    added ∙ ap (λ (t : List ℕ). before ++ t) same
