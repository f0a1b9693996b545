-- `==` of answers compares what they show.
use Rattle.std.proofs.Common.{◌≡◌, Option, Some, None, option_map, refl, sym, ap, ◌∙◌, Bor}
use Rattle.std.specs.Prelude.{Bool}
use Rattle.std.specs.Bool.{Decides}
use Rattle.std.specs.Option.{option_eq, option_copied}
use Rattle.std.specs.Cow.{cow_value}
use Rattle.std.specs.declared.borrow.Cow.{Cow}
use Rattle.std.specs.contracts.borrow.Cow.{the_row as cow_row}
use Rattle.std.specs.contracts.impls.CowPartialEq.TheImpl.{ghosts as cow_ghosts}
use denote.Signature.{static_lft}
use Rattle.lit_model.specs.Date.{date_view}
use Rattle.lit_model.specs.MaybeTyped.{maybe_view}
use Rattle.lit_model.specs.Numeric.{numeric_view}
use Rattle.lit_model.specs.Page.{pages_view}
use Rattle.lit_model.specs.Text.{chunks}
use Rattle.lit_model.specs.declared.date.Date.{Date}
use Rattle.lit_model.specs.declared.maybe_typed.MaybeTyped.{MaybeTyped}
use Rattle.lit_model.specs.declared.numeric.Numeric.{Numeric}
use Rattle.lit_model.specs.declared.page.PageRanges.{PageRanges}
use Rattle.lit_model.specs.declared.text.ChunkedString.{ChunkedString}
use Rattle.lit_model.specs.contracts.date.DatePartialEq.TheImpl.{eq-value as eq_date}
use Rattle.lit_model.specs.contracts.numeric.Numeric.{the_row as numeric_row}
use Rattle.lit_model.specs.contracts.numeric.NumericPartialEq.TheImpl.{ghosts as numeric_ghosts, dict as numeric_dict}
use Rattle.lit_model.specs.contracts.maybe_typed.MaybeTypedPartialEq.TheImpl.{eq-value as eq_maybe, no_dict}
use Rattle.lit_model.specs.contracts.page.PageRanges.{the_row as pages_row}
use Rattle.lit_model.specs.contracts.page.PageRangesPartialEq.TheImpl.{ghosts as pages_ghosts}
use Rattle.lit_model.specs.contracts.text.ChunkedStringPartialEq.TheImpl.{eq-value as eq_chunks}
use Rattle.lit_model.proofs.ByValue.{option_view, through}
use Rattle.lit_model.proofs.SourceEqual.{date_decides}
use Rattle.lit_model.proofs.TextEqual.{chunks_decide}
use Rattle.csl_entry.specs.Answers.{cow_view}
use Rattle.csl_entry.proofs.ResultEqual.{number_or_text, pages_or_text}

pub texts_decide : (x y : Option (Cow ChunkedString)) → Decides (option_eq (λ c d. eq_chunks.it (cow_value c) (cow_value d)) x y) (option_map (cow_view chunks) x ≡ option_map (cow_view chunks) y)
texts_decide x y = option_view _ (cow_view chunks) (λ c d. chunks_decide (cow_value c) (cow_value d)) x y

pub numbers_decide : (x y : Option (MaybeTyped (Cow Numeric))) → Decides (option_eq (eq_maybe (cow_row static_lft numeric_row) (cow_ghosts numeric_row numeric_ghosts numeric_dict) no_dict).it x y) (option_map (maybe_view (cow_view numeric_view)) x ≡ option_map (maybe_view (cow_view numeric_view)) y)
numbers_decide x y = option_view _ (maybe_view (cow_view numeric_view)) number_or_text x y

pub pages_decide : (x y : Option (MaybeTyped PageRanges)) → Decides (option_eq (eq_maybe pages_row pages_ghosts no_dict).it x y) (option_map (maybe_view pages_view) x ≡ option_map (maybe_view pages_view) y)
pages_decide x y = option_view _ (maybe_view pages_view) pages_or_text x y

-- equal dates have the same parts, whether they are borrowed or owned
copied_parts : (x : Option (Bor Date)) (u : Option (Cow Date)) → option_copied x ≡ option_map cow_value u → option_map (λ d. date_view d.now) x ≡ option_map (cow_view date_view) u
copied_parts None None h = refl
copied_parts None (Some d) h = cc
copied_parts (Some b) None h = cc
copied_parts (Some b) (Some d) h = let e : b.now ≡ cow_value d = cc in ap (λ (x : Date). Some (date_view x)) e

abbrev equal_dates : Bor Date → Bor Date → Bool
equal_dates a b = eq_date.it a.now b.now

pub dates_decide : (x y : Option (Bor Date)) (u v : Option (Cow Date)) → option_copied x ≡ option_map cow_value u → option_copied y ≡ option_map cow_value v → Decides (option_eq equal_dates x y) (option_map (cow_view date_view) u ≡ option_map (cow_view date_view) v)
dates_decide x y u v h k = through _ (option_view equal_dates (λ d. date_view d.now) (λ a b. date_decides a.now b.now) x y)
    (λ e. sym (copied_parts x u h) ∙ e ∙ copied_parts y v k)
    (λ e. copied_parts x u h ∙ e ∙ sym (copied_parts y v k))
