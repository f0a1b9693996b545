use Rattle.std.proofs.Common.{◌-◌, ◌∙◌, set, refl, ap, arith}
use Rattle.csl_tree.specs.Flat.{with_tokens}
use Rattle.csl_tree.proofs.Appended.{on_err, on_true, on_false}
use Rattle.csl_tree.proofs.Flats.{joined_last, kept_last}
use Rattle.csl_tree.proofs.flat.FlatTree.join_to_last.Goals as goal

pub returns-in_err-did-clause-err : goal.returns-in_err-did-clause-err
returns-in_err-did-clause-err c =
    let xs = c.self.inside.children.items in
    let i = c.len-len.result - 1 in
    on_err _ (kept_last xs (set xs i c.join_last.new.last) i c.self.inside.start c.self.inside.around.items c.index_mut.result.now c.join_last.new.last (omega (arith, c.self.inside.children.ok.0, c.self.invariant.0, c.if-len-self.false)) (omega (arith, c.self.inside.children.ok.0, c.self.invariant.0, c.if-len-self.false)) c.index_mut.ensures.value refl c.in_err-did.ensures.err
    ∙ c.self.view_is)

pub returns-clause-joins : goal.returns-clause-joins
returns-clause-joins c =
    let xs = c.self.inside.children.items in
    let i = c.len-len.result - 1 in
    on_true c.in_ok-did.did (λ e. (joined_last xs (set xs i c.join_last.new.last) i c.self.inside.start c.self.inside.around.items c.index_mut.result.now c.join_last.new.last (omega (arith, c.self.inside.children.ok.0, c.self.invariant.0, c.if-len-self.false)) (omega (arith, c.self.inside.children.ok.0, c.self.invariant.0, c.if-len-self.false)) c.index_mut.ensures.value refl _ e
    ∙ ap (with_tokens _) c.self.view_is)) c.in_ok-did.ensures.joins

pub returns-clause-unchanged : goal.returns-clause-unchanged
returns-clause-unchanged c =
    let xs = c.self.inside.children.items in
    let i = c.len-len.result - 1 in
    on_false c.in_ok-did.did (λ e. (kept_last xs (set xs i c.join_last.new.last) i c.self.inside.start c.self.inside.around.items c.index_mut.result.now c.join_last.new.last (omega (arith, c.self.inside.children.ok.0, c.self.invariant.0, c.if-len-self.false)) (omega (arith, c.self.inside.children.ok.0, c.self.invariant.0, c.if-len-self.false)) c.index_mut.ensures.value refl e
    ∙ c.self.view_is)) c.in_ok-did.ensures.unchanged
