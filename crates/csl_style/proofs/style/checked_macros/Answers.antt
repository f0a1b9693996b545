use Rattle.std.proofs.Common.{◌≡◌, ◌<◌, List, None, IfSome, length, string_bytes, sym, ap, ◌∙◌, subst, arith, rules}
use Rattle.csl_style.specs.Cycles.{Graph, HasRanks, IsFirstCyclicPlace}
use Rattle.csl_elements.specs.declared.element.CslMacro.{CslMacro}
use Rattle.csl_elements.specs.View.{definitions}
use Rattle.csl_style.specs.CallGraph.{IsCallGraph, name_at}
use Rattle.csl_style.specs.Style.{IsFirstCyclic}
use Rattle.csl_style.proofs.Called.{name-read, length-definitions}
use Rattle.csl_style.proofs.CallGraph.{first-cyclic, acyclic}
use Rattle.csl_style.proofs.Returns.{none-returns}
use Rattle.csl_style.proofs.style.checked_macros.Goals as goal

pub returns-in-Some-clause-refused : goal.returns-in-Some-clause-refused
returns-in-Some-clause-refused c =
    let ms = c.args.macros.now in
    let ds = definitions ms in
    let g = c.in_ok-graph.graph.rows.items in
    let i = c.in-Some.i in
    let is : IsCallGraph ds g = subst (λ (xs : List CslMacro). IsCallGraph (definitions xs) g) c.new.ensures c.in_ok-graph.ensures.calls in
    let same : c.deref-2.result.now ≡ g = c.deref-2.ensures.value in
    let place : IsFirstCyclicPlace g i = subst (λ (h : Graph). IsFirstCyclicPlace h i) same (subst (λ o. IfSome o (IsFirstCyclicPlace c.deref-2.result.now)) c.in-Some.is c.in_ok-i.ensures.cyclic) in
    let lens = length-definitions ms in
    let within : i < length ms = omega (arith, is.each, place.within) in
    let named : name_at ds i ≡ string_bytes c.in_ok-clone.field-0 = name-read ms i c.index-macros-i.result within c.index-macros-i.is ∙ ap (λ (m : CslMacro). string_bytes m.name) c.index-macros-i.is ∙ sym c.in_ok-clone.ensures.cases in
    subst (IsFirstCyclic ds) named (first-cyclic ds g is i place)

pub returns-clause-ranks : goal.returns-clause-ranks
returns-clause-ranks c =
    let none : c.in_ok-i.field-0 ≡ None = search rules in
    acyclic (definitions c.args.macros.now) c.in_ok-graph.graph.rows.items (subst (λ (xs : List CslMacro). IsCallGraph (definitions xs) c.in_ok-graph.graph.rows.items) c.new.ensures c.in_ok-graph.ensures.calls) (subst HasRanks c.deref-2.ensures.value (c.in_ok-i.ensures.ranks none))

pub returns-then-is_chicago-clause-refused : goal.returns-then-is_chicago-clause-refused
returns-then-is_chicago-clause-refused c =
    let ds = definitions c.args.macros.now in
    let none : c.in_ok-i.field-0 ≡ None = search rules in
    let ranks = acyclic ds c.in_ok-graph.graph.rows.items (subst (λ (xs : List CslMacro). IsCallGraph (definitions xs) c.in_ok-graph.graph.rows.items) c.new.ensures c.in_ok-graph.ensures.calls) (subst HasRanks c.deref-2.ensures.value (c.in_ok-i.ensures.ranks none)) in
    (none-returns ds ranks, sym c.is_chicago.ensures ∙ c.if-is_chicago.true)
