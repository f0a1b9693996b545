-- The dry run of a text of a variable, by whether its answer prints.
use Rattle.std.proofs.Common.{◌≡◌, true, false, Option, Some, None, option_map, List, refl}
use Rattle.std.specs.Prelude.{Bool, is_some, if◌then◌else◌}
use Rattle.lit_model.specs.Text.{Chunk}
use Rattle.csl_common.specs.declared.form.LongShortForm.{LongShortForm}
use Rattle.csl_elements.specs.declared.taxonomy.NumberOrPageVariable.{NumberOrPageVariable}
use Rattle.csl_elements.specs.declared.taxonomy.NumberOrPageVariable.TheVariants as number_or_page
use Rattle.csl_elements.specs.declared.taxonomy.StandardVariable.{StandardVariable}
use Rattle.csl_elements.specs.declared.taxonomy.Variable.{Variable}
use Rattle.csl_elements.specs.declared.taxonomy.Variable.TheVariants as variable
use Rattle.csl_elements.specs.Node.{of_variable}
use Rattle.csl_entry.specs.NumberResult.{NumberOrPageView}
use Rattle.csl_context.specs.State.{State}
use Rattle.csl_context.specs.RenderInput.{RenderInput, peek_standard}
use Rattle.csl_nodes.specs.NumberOrPage.{peek_number_or_page}
use Rattle.csl_nodes.specs.Text.{ResolvedText, standard_text, number_result, resolved_variable, resolved_text, resolved_info, shows_variable, prints, answer_info}

pub is_found : (o : Option ResolvedText) → is_some (option_map prints o) ≡ is_some o
is_found None = refl
is_found (Some t) = refl

module _ (called : Bool) where
  of_standard : (v : StandardVariable) (o : Option (List Chunk)) → answer_info called (option_map prints (option_map (standard_text v) o)) ≡ resolved_info called (option_map (standard_text v) o)
  of_standard v None = refl
  of_standard v (Some cs) = refl

  of_number : (v : NumberOrPageVariable) (o : Option NumberOrPageView) → answer_info called (option_map prints (option_map (number_result v) o)) ≡ resolved_info called (option_map (number_result v) o)
  of_number v None = refl
  of_number v (Some n) = refl

  shown_if : (w : RenderInput) (s : State) (form : LongShortForm) (v : Variable) (shown : Bool) → answer_info called (option_map prints (if shown then resolved_variable w s form v else None)) ≡ resolved_info called (if shown then resolved_variable w s form v else None)
  shown_if w s form v false = refl
  shown_if w s form (variable.Standard v) true = of_standard v (peek_standard w s form v)
  shown_if w s form (variable.Number v) true = of_number (number_or_page.Number v) (peek_number_or_page w s (number_or_page.Number v))
  shown_if w s form (variable.Page v) true = of_number (number_or_page.Page v) (peek_number_or_page w s (number_or_page.Page v))
  shown_if w s form (variable.Name v) true = refl
  shown_if w s form (variable.Date v) true = refl

pub answer_info_is : (called : Bool) (w : RenderInput) (s : State) (form : LongShortForm) (v : Variable) → answer_info called (option_map prints (resolved_text w s (of_variable v form))) ≡ resolved_info called (resolved_text w s (of_variable v form))
answer_info_is called w s form v = shown_if called w s form v (shows_variable w.instance.special v)
