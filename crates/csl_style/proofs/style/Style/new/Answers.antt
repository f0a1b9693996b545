use Rattle.std.proofs.Common.{◌≡◌, List, subst, sym}
use Rattle.std.proofs.lemmas.Result.{err_from_is_err_and}
use Rattle.csl_elements.specs.declared.element.CslMacro.{CslMacro}
use Rattle.csl_elements.specs.View.{definitions}
use Rattle.csl_style.specs.Expansion.{IsAcyclic}
use Rattle.csl_style.specs.Style.{IsRefusal}
use Rattle.csl_style.proofs.Returns.{none-returns}
use Rattle.csl_style.proofs.style.Style.new.Goals as goal

pub returns-in_err-checked-clause-refused : goal.returns-in_err-checked-clause-refused
returns-in_err-checked-clause-refused c =
    let (e, is, same) = err_from_is_err_and c.from_residual.result c.from_residual.ensures.1 in
    let refused : IsRefusal c.args.settings.page_range_format (definitions c.args.macros.items) c.in_err-checked.field-0.0 =
    subst (λ (ms : List CslMacro). IsRefusal c.args.settings.page_range_format (definitions ms) c.in_err-checked.field-0.0) c.deref.ensures.value c.in_err-checked.ensures.refused in
    let equal : c.in_err-checked.field-0.0 ≡ e = sym same in
    rw is (subst (IsRefusal c.args.settings.page_range_format (definitions c.args.macros.items)) equal refused)

pub returns-clause-ranks : goal.returns-clause-ranks
returns-clause-ranks c = subst (λ (ms : List CslMacro). IsAcyclic (definitions ms)) c.deref.ensures.value c.in_ok-checked.ensures.ranks

pub returns-clause-returns : goal.returns-clause-returns
returns-clause-returns c = none-returns (definitions c.args.macros.items) (subst (λ (ms : List CslMacro). IsAcyclic (definitions ms)) c.deref.ensures.value c.in_ok-checked.ensures.ranks)
