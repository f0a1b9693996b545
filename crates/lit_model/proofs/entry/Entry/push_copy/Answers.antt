use Rattle.std.proofs.Common.{◌≡◌, ◌∷◌, ◌++◌, [], List, ap, ◌∙◌, map}
use Rattle.std.proofs.lemmas.List.{map-append}
use Rattle.lit_model.specs.Work.{Work, works}
use Rattle.lit_model.proofs.Works.{works_same}
use Rattle.lit_model.proofs.entry.Entry.push_copy.Goals as goal

pub returns : goal.returns
returns c =
    let same : works c.in_ok-copy.copy ≡ works c.args.self.now = works_same c.in_ok-copy.copy c.args.self.now c.in_ok-copy.ensures.own (ap (map works) c.in_ok-copy.ensures.parents ∙ c.requires.parents) in
    record { ok = ap (map works) c.in_ok-push.ensures.items ∙ map-append works c.args.copies.now.items (c.in_ok-copy.copy ∷ []) ∙ ap (λ (w : List Work). map works c.args.copies.now.items ++ w ∷ []) same }
