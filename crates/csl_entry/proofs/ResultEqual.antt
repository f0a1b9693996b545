-- `==` of answers to number variables and page variables compares their values.
use Rattle.std.proofs.Common.{◌≡◌, rules}
use Rattle.std.specs.Cow.{cow_value}
use Rattle.std.specs.declared.borrow.Cow.{Cow}
use Rattle.std.specs.Bool.{Decides}
use Rattle.csl_entry.specs.NumberResult.{result_view, number_or_page_view}
use Rattle.csl_entry.specs.Answers.{cow_view}
use Rattle.csl_entry.specs.declared.number_result.NumberVariableResult.{NumberVariableResult}
use Rattle.csl_entry.specs.declared.number_result.NumberVariableResult.TheVariants.{Regular, Transparent}
use Rattle.csl_entry.specs.contracts.number_result.NumberVariableResultPartialEq.TheImpl.{eq-value as eq_result}
use Rattle.std.specs.contracts.borrow.Cow.{the_row as cow_row}
use Rattle.std.specs.contracts.impls.CowPartialEq.TheImpl.{ghosts as cow_ghosts}
use denote.Signature.{static_lft}
use Rattle.lit_model.specs.MaybeTyped.{maybe_view}
use Rattle.lit_model.specs.Numeric.{numeric_view}
use Rattle.lit_model.specs.declared.maybe_typed.MaybeTyped.{MaybeTyped}
use Rattle.lit_model.specs.declared.numeric.Numeric.{Numeric}
use Rattle.lit_model.specs.contracts.numeric.Numeric.{the_row as numeric_row}
use Rattle.lit_model.specs.contracts.numeric.NumericPartialEq.TheImpl.{ghosts as numeric_ghosts, dict as numeric_dict}
use Rattle.lit_model.specs.contracts.maybe_typed.MaybeTypedPartialEq.TheImpl.{eq-value as eq_maybe, no_dict}
use Rattle.csl_entry.specs.declared.number_result.NumberOrPageVariableResult.{NumberOrPageVariableResult}
use Rattle.csl_entry.specs.declared.number_result.NumberOrPageVariableResult.TheVariants.{Number, Page}
use Rattle.csl_entry.specs.contracts.number_result.NumberOrPageVariableResultPartialEq.TheImpl.{eq-value as eq_either}
use Rattle.lit_model.specs.Page.{pages_view}
use Rattle.lit_model.specs.declared.page.PageRanges.{PageRanges}
use Rattle.lit_model.specs.contracts.page.PageRanges.{the_row as pages_row}
use Rattle.lit_model.specs.contracts.page.PageRangesPartialEq.TheImpl.{ghosts as pages_ghosts}
use Rattle.lit_model.proofs.PageEqual.{numeric_decides}
use Rattle.lit_model.proofs.MaybeEqual.{maybe_decides, pages_decide}

pub number_or_text : (a b : MaybeTyped (Cow Numeric)) → Decides ((eq_maybe (cow_row static_lft numeric_row) (cow_ghosts numeric_row numeric_ghosts numeric_dict) no_dict).it a b) (maybe_view (cow_view numeric_view) a ≡ maybe_view (cow_view numeric_view) b)
number_or_text a b = maybe_decides (cow_row static_lft numeric_row) (cow_ghosts numeric_row numeric_ghosts numeric_dict) no_dict (cow_view numeric_view) (λ c d. numeric_decides (cow_value c) (cow_value d)) a b

pub pages_or_text : (a b : MaybeTyped PageRanges) → Decides ((eq_maybe pages_row pages_ghosts no_dict).it a b) (maybe_view pages_view a ≡ maybe_view pages_view b)
pages_or_text a b = maybe_decides pages_row pages_ghosts no_dict pages_view pages_decide a b

pub result_decides : (x y : NumberVariableResult) → Decides (eq_result.it x y) (result_view x ≡ result_view y)
result_decides (Regular a) (Regular b) = let d = number_or_text a b in (λ h. let e = d.0 h in cc, λ h. d.1 cc)
result_decides (Regular a) (Transparent j) = ((λ h. cc), λ h. cc)
result_decides (Transparent i) (Regular b) = ((λ h. cc), λ h. cc)
result_decides (Transparent i) (Transparent j) = search rules

pub either_decides : (x y : NumberOrPageVariableResult) → Decides (eq_either.it x y) (number_or_page_view x ≡ number_or_page_view y)
either_decides (Number a) (Number b) = let d = result_decides a b in (λ h. let e = d.0 h in cc, λ h. d.1 cc)
either_decides (Number a) (Page q) = ((λ h. cc), λ h. cc)
either_decides (Page p) (Number b) = ((λ h. cc), λ h. cc)
either_decides (Page p) (Page q) = let d = pages_or_text p q in (λ h. let e = d.0 h in cc, λ h. d.1 cc)
