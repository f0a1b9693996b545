use Rattle.std.proofs.Common.{◌≡◌, false, Option, Some, None, is_some, refl, sym, ap, ◌∙◌}
use Rattle.std.specs.Prelude.{IfNone}
use Rattle.csl_tree.specs.FindNames.{names_find, elem_at}
use Rattle.csl_tree.proofs.NamesFirst.{first_is}
use Rattle.csl_tree.proofs.elem.ElemChildren.find_names_mut.Goals as goal

where_none : {A P : Type 0} (o : Option A) → is_some o ≡ false → IfNone o P → P
where_none None h n = n
where_none (Some x) h n = cc

pub returns-then-is_some : goal.returns-then-is_some
returns-then-is_some c = (refl, record { writes_back = tt; value = c.existing_names_mut.ensures.value ∙ sym (first_is c.args.self.now) })

pub returns-else-is_some : goal.returns-else-is_some
returns-else-is_some c =
    let s = c.args.self.now in
    let none : names_find s ≡ None = where_none c.names_at.result (sym c.is_some.ensures ∙ c.if-is_some.false) c.names_at.ensures.none in
    (refl, record { writes_back = tt; value = sym (first_is s ∙ ap (λ o. elem_at o s) none) })
