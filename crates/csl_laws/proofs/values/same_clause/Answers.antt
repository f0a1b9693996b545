use Rattle.std.proofs.Common.{◌≡◌, List, refl, sym, ◌∙◌, rules}
use Rattle.std.specs.Bool.{Decides}
use Rattle.std.specs.Cmp.Lexicographic.{pointwise}
use Rattle.std.proofs.lemmas.Slice.Eq.{slice_eq-Decides}
use Rattle.lit_model.specs.declared.entry_type.EntryType.{EntryType}
use Rattle.lit_model.specs.declared.select.Bind.{Bind}
use Rattle.lit_model.specs.declared.select.Field.{Field}
use Rattle.lit_model.specs.contracts.entry_type.EntryTypePartialEq.TheImpl.{eq-value as eq_type}
use Rattle.lit_model.specs.contracts.select.BindPartialEq.TheImpl.{eq-value as eq_bind}
use Rattle.lit_model.specs.contracts.select.FieldPartialEq.TheImpl.{eq-value as eq_field}
use Rattle.lit_model.proofs.ByValue.{both, option_view}
use Rattle.csl_laws.proofs.values.same_clause.Goals as goal

types : (a b : EntryType) → Decides (eq_type.it a b) (a ≡ b)
types a b = search rules

fields : (a b : Field) → Decides (eq_field.it a b) (a ≡ b)
fields a b = search rules

bound : (a b : Bind) → Decides (eq_bind.it a b) (a ≡ b)
bound a b = search rules

types_in : (x y : List EntryType) → Decides (pointwise eq_type.it x y) (x ≡ y)
types_in x y = slice_eq-Decides types x y _ refl

pub returns : goal.returns
returns c =
    let a = c.args.a.now in
    let b = c.args.b.now in
    let d = both _ _ (types_in a.own.now b.own.now) (both _ _ (slice_eq-Decides fields a.fields.now b.fields.now _ refl)
    (both _ _ (option_view _ (λ t. t.now) (λ s t. types_in s.now t.now) a.parent b.parent) (bound a.bind b.bind))) in (
      λ t. let h = d.0 (sym c.eq.ensures ∙ t) in (h.0, h.1.0, h.1.1.0, h.1.1.1),
      λ h. let (own, fields, parent, bind) = h in c.eq.ensures ∙ d.1 (own, (fields, (parent, bind))),
    )
