-- In a cite that suppresses its author no text, number or date shows the author: a name variable is
-- none of theirs.
use Rattle.std.proofs.Common.{◌≡◌, Bool, true, false, Option, Some, None, refl, ap}
use Rattle.std.specs.Prelude.{◌&&◌, is_some, if◌then◌else◌}
use Rattle.std.proofs.lemmas.Bool.{false≢true}
use Rattle.csl_elements.specs.declared.taxonomy.DateVariable.{DateVariable}
use Rattle.csl_elements.specs.declared.taxonomy.NumberOrPageVariable.{NumberOrPageVariable}
use Rattle.csl_elements.specs.declared.taxonomy.NumberOrPageVariable.TheVariants as number_or_page
use Rattle.csl_elements.specs.declared.taxonomy.Variable.TheVariants as variable
use Rattle.csl_elements.specs.Node.{Target, of_variable, of_term, of_value}
use Rattle.csl_elements.specs.Taxonomy.{variable_of}
use Rattle.csl_entry.specs.declared.citation.cite.SpecialForm.{SpecialForm}
use Rattle.csl_entry.specs.declared.citation.cite.SpecialForm.TheVariants.{VarOnly, OnlyFirstDate, OnlyYearSuffix, SuppressAuthor}
use Rattle.csl_context.specs.RenderInput.{RenderInput}
use Rattle.csl_context.specs.State.{State}
use Rattle.csl_nodes.specs.Date.{date_shows_variable}
use Rattle.csl_nodes.specs.Number.{is_shown}
use Rattle.csl_nodes.specs.Text.{ResolvedText, resolved_text, same_variable, shows_variable, target_shows}
use Rattle.csl_render.specs.Names.{author}
use Rattle.csl_render.specs.Plan.{asks_for_author}

neither : (b : Bool) → (b && false) ≡ false
neither true = refl
neither false = refl

abbrev nothing : Option ResolvedText
nothing = None

no_text : (b : Bool) → is_some (if b then nothing else nothing) ≡ false
no_text true = refl
no_text false = refl

pub no_text_shows : (w : RenderInput) (s : State) (t : Target) → target_shows w s author t ≡ false
no_text_shows w s (of_variable (variable.Standard v) form) = neither (is_some (resolved_text w s (of_variable (variable.Standard v) form)))
no_text_shows w s (of_variable (variable.Number v) form) = neither (is_some (resolved_text w s (of_variable (variable.Number v) form)))
no_text_shows w s (of_variable (variable.Page v) form) = neither (is_some (resolved_text w s (of_variable (variable.Page v) form)))
no_text_shows w s (of_variable (variable.Name v) form) = ap (λ b. b && same_variable (variable.Name v) author) (no_text (shows_variable w.instance.special (variable.Name v)))
no_text_shows w s (of_variable (variable.Date v) form) = neither (is_some (resolved_text w s (of_variable (variable.Date v) form)))
no_text_shows w s (of_term t form plural) = neither (is_some (resolved_text w s (of_term t form plural)))
no_text_shows w s (of_value bs) = neither (is_some (resolved_text w s (of_value bs)))

pub no_number_shows : (special : Option SpecialForm) (v : NumberOrPageVariable) → asks_for_author special ≡ true → is_shown special (variable_of v) author ≡ false
no_number_shows None v asks = absurd (false≢true asks)
no_number_shows (Some (VarOnly u)) v asks = absurd (false≢true asks)
no_number_shows (Some OnlyFirstDate) v asks = absurd (false≢true asks)
no_number_shows (Some OnlyYearSuffix) v asks = absurd (false≢true asks)
no_number_shows (Some SuppressAuthor) (number_or_page.Number v) asks = refl
no_number_shows (Some SuppressAuthor) (number_or_page.Page v) asks = refl

pub no_date_shows : (special : Option SpecialForm) (first : Bool) (o : Option DateVariable) → asks_for_author special ≡ true → date_shows_variable special first o author ≡ false
no_date_shows None first o asks = absurd (false≢true asks)
no_date_shows (Some (VarOnly u)) first o asks = absurd (false≢true asks)
no_date_shows (Some OnlyFirstDate) first o asks = absurd (false≢true asks)
no_date_shows (Some OnlyYearSuffix) first o asks = absurd (false≢true asks)
no_date_shows (Some SuppressAuthor) first None asks = refl
no_date_shows (Some SuppressAuthor) first (Some v) asks = refl
