use Rattle.std.proofs.Common.{◌≡◌, ◌∙◌, ap, arith, refl}
use Rattle.std.specs.List.{flat_map}
use Rattle.csl_tree.specs.Tokens.{child_tokens}
use Rattle.csl_tree.proofs.Appended.{on_err, child_begins, last_joined, last_apart, last_kept, pushed, none_apart}
use Rattle.csl_tree.proofs.content.push_text_to.Goals as goal
use Rattle.csl_tree.proofs.content.push_text_to.Goals.{then-len-gt0+in_ok-did+else-did, else-len-gt0}

pub returns-then-did-clause-ok : goal.returns-then-did-clause-ok
returns-then-did-clause-ok c =
    last_joined child_tokens child_begins _ _ c.index_mut.result.now c.join_last.new.last _ (omega (arith, c.args.children.now.ok.0)) c.index_mut.ensures.value (rw c.if-did.true at c.in_ok-did.ensures.joins)

pub returns-clause-ok : goal.returns-clause-ok
returns-clause-ok c =
    let new = pushed _ _ _ _ c.args.formatting c.in_ok-push.ensures.items c.in_ok-text.ensures.ok in
    elim c.if-len-gt0.branch [
      | then-len-gt0+in_ok-did+else-did w ↦ new ∙ last_apart child_tokens child_begins _ _ _ w.index_mut.result.now w.join_last.new.last _ (omega (arith, c.args.children.now.ok.0)) w.index_mut.ensures.value (ap (λ v. v.items) w.children-is) (rw w.if-did.false at w.in_ok-did.ensures.unchanged) (rw w.if-did.false at w.in_ok-did.ensures.apart)
      | else-len-gt0 w ↦ new ∙ none_apart child_tokens child_begins _ _ _ (ap (λ v. v.items) w.children-is) (omega (arith, c.args.children.now.ok.0))
    ]

pub returns-in_err-did-clause-err : goal.returns-in_err-did-clause-err
returns-in_err-did-clause-err c =
    on_err c.from_residual.result (last_kept child_tokens child_begins _ _ _ c.index_mut.result.now c.join_last.new.last (omega (arith, c.args.children.now.ok.0)) c.index_mut.ensures.value refl c.in_err-did.ensures.err)

pub returns-in_err-text-clause-err : goal.returns-in_err-text-clause-err
returns-in_err-text-clause-err c =
    let same : flat_map child_tokens c.if-len-gt0.children.items ≡ flat_map child_tokens c.args.children.now.items = elim c.if-len-gt0.branch [
      | then-len-gt0+in_ok-did+else-did w ↦ last_kept child_tokens child_begins _ _ _ w.index_mut.result.now w.join_last.new.last (omega (arith, c.args.children.now.ok.0)) w.index_mut.ensures.value (ap (λ v. v.items) w.children-is) (rw w.if-did.false at w.in_ok-did.ensures.unchanged)
      | else-len-gt0 w ↦ ap (λ v. flat_map child_tokens v.items) w.children-is
    ] in
    on_err c.from_residual-in_err-text.result same

pub returns-in_err-push-clause-err : goal.returns-in_err-push-clause-err
returns-in_err-push-clause-err c =
    let same : flat_map child_tokens c.if-len-gt0.children.items ≡ flat_map child_tokens c.args.children.now.items = elim c.if-len-gt0.branch [
      | then-len-gt0+in_ok-did+else-did w ↦ last_kept child_tokens child_begins _ _ _ w.index_mut.result.now w.join_last.new.last (omega (arith, c.args.children.now.ok.0)) w.index_mut.ensures.value (ap (λ v. v.items) w.children-is) (rw w.if-did.false at w.in_ok-did.ensures.unchanged)
      | else-len-gt0 w ↦ ap (λ v. flat_map child_tokens v.items) w.children-is
    ] in
    on_err c.from_residual-in_err-push.result (ap (flat_map child_tokens) c.in_err-push.ensures.items ∙ same)
