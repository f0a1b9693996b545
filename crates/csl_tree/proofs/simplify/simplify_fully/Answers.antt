use Rattle.std.proofs.Common.{◌≡◌, sym, ap, ◌∙◌}
use Rattle.csl_tree.specs.Tree.{tree, row}
use Rattle.csl_tree.specs.Simplify.{simplify_fully_after, is_normal, normal_form}
use Rattle.csl_tree.specs.declared.elem.ElemChildren.{ElemChildren}
use Rattle.csl_tree.specs.Write.{plain_text}
use Rattle.csl_tree.specs.Tree.{tokens_of}
use Rattle.csl_tree.proofs.SimplifiedText.{plain_styled}
use Rattle.csl_tree.proofs.TreeTokens.{tree_out, tokens_are}
use Rattle.csl_tree.proofs.OnePass.{one_pass}
use Rattle.csl_tree.proofs.Theorems.{normal_forms_are_normal, normal_forms_keep_styled_values, normal_forms_tell_styled_values}
use Rattle.csl_tree.proofs.simplify.simplify_fully.Goals as goal

pub returns : goal.returns
returns c =
    let old = tree c.args.children.now in
    let new : ElemChildren = record { 0 = c.simplify_fully_into.new.simplified } in
    let full : tree new ≡ normal_form old = tree_out new ∙ c.in_ok-simplify_fully_into.ensures.ok ∙ ap (λ l. simplify_fully_after (row l) old) c.new-simplified.ensures.items ∙ one_pass old in
    let text = ap plain_text (tokens_are new) ∙ ap (λ t. plain_text (tokens_of t)) full ∙ plain_styled (normal_form old) ∙ ap plain_text (normal_forms_keep_styled_values old) ∙ sym (plain_styled old) ∙ sym (ap plain_text (tokens_are c.args.children.now)) in
    record { rounds = full; normal = ap is_normal full ∙ normal_forms_are_normal old; plain = text; tells = λ u h k. let both = normal_forms_tell_styled_values old u h k in (λ e. both.0 (sym full ∙ e), λ e. full ∙ both.1 e) }
