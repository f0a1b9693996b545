use Rattle.std.proofs.Common.{◌≡◌, ◌++◌, ◌∙◌, ap, Some, None, unwrap_or, take, drop, slice_index_or, slice_set, add-one}
use Rattle.csl_entry.specs.NameProperties.{NameForms, all_shown}
use Rattle.csl_entry.proofs.FormLists.{mapped_more}
use Rattle.csl_entry.proofs.forms.form_list.show_all.Goals as goal

pub loop-shown-preserved : goal.loop-shown-preserved
loop-shown-preserved c =
    let i = c.loop-shown.shown-index in
    let form = c.args.form in
    let xs = c.args.forms.now in
    let before : c.loop-shown.forms ≡ all_shown form (take i xs) ++ drop i xs = c.loop-shown.invariant in
    let next = ap Some (c.unwrap_or.ensures ∙ ap (λ (ys : NameForms). unwrap_or (slice_index_or ys i None) form) before) in
    rw add-one ((λ j. slice_set (before j) i (next j)) ∙ mapped_more (λ f. Some (unwrap_or f form)) xs i None c.loop-shown-test.true)
