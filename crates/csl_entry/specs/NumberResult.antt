-- The answer of a cite to a number variable (CSL 1.0.2, Appendix IV, Number Variables) as plain
-- data, and the order of such answers (Sorting). A number comes before a text, and both come before
-- a text that the caller writes, which is ordered by index. Texts are ordered by their bytes.
-- Numbers are ordered by their list of signed numbers, a shorter list before a longer one that it
-- begins, then by prefix and by suffix, as bytes, absent before present. The separators of a list
-- do not count.
-- `IsOrder`: swapping two values reverses their order, and the order is transitive.
use Rattle.std.specs.Prelude.{◌≡◌, ℕ, List, Bool, true, false, IsTrue}
use Rattle.std.specs.Cmp.Lexicographic.{slice_cmp}
use Rattle.std.specs.Option.{option_cmp}
use Rattle.std.specs.Ordering.{nat_cmp, int_cmp, ordering_then, ordering_reverse, is_le}
use Rattle.std.specs.declared.cmp.Ordering.{Ordering}
use Rattle.std.specs.declared.cmp.Ordering.TheVariants.{Less, Greater}
use Rattle.std.specs.declared.borrow.Cow.TheVariants.{Borrowed, Owned}
use Rattle.lit_model.specs.declared.maybe_typed.MaybeTyped.TheVariants as of_kind
use Rattle.lit_model.specs.MaybeTyped.{MaybeView, typed, text, maybe_view}
use Rattle.lit_model.specs.Numeric.{NumericView, numeric_view, numbers}
use Rattle.lit_model.specs.Page.{PartView, pages_view}
use Rattle.csl_entry.specs.declared.number_result.NumberVariableResult.{NumberVariableResult}
use Rattle.csl_entry.specs.declared.number_result.NumberVariableResult.TheVariants.{Regular, Transparent}
use Rattle.csl_entry.specs.declared.number_result.NumberOrPageVariableResult.{NumberOrPageVariableResult}
use Rattle.csl_entry.specs.declared.number_result.NumberOrPageVariableResult.TheVariants.{Number, Page}
use Rattle.csl_entry.specs.Answers.{cow_view}

-- a number or a text, or the index of a cite for which the caller writes the text
pub data ResultView : Type 0 where
  regular : MaybeView NumericView → ResultView
  transparent : ℕ → ResultView

abbrev pub result_view : NumberVariableResult → ResultView
result_view (Regular number) = regular (maybe_view (cow_view numeric_view) number)
result_view (Transparent index) = transparent index

-- whether an answer borrows a number from the entry
abbrev pub is_borrowed : NumberVariableResult → Bool
is_borrowed (Regular (of_kind.Typed (Borrowed number))) = true
is_borrowed (Regular (of_kind.Typed (Owned number))) = false
is_borrowed (Regular (of_kind.String s)) = false
is_borrowed (Transparent index) = false

-- the answer to a variable that holds a number, or pages
pub data NumberOrPageView : Type 0 where
  number : ResultView → NumberOrPageView
  page : MaybeView (List PartView) → NumberOrPageView

abbrev pub number_or_page_view : NumberOrPageVariableResult → NumberOrPageView
number_or_page_view (Number result) = number (result_view result)
number_or_page_view (Page pages) = page (maybe_view pages_view pages)

-- ---- the order (CSL 1.0.2, Sorting)

-- the order of texts, by their bytes
abbrev pub text_order : List ℕ → List ℕ → Ordering
text_order s t = slice_cmp nat_cmp s t

-- the order of numbers: by their list, then by prefix, then by suffix; an absent text comes before
-- one that is present, and separators do not count
abbrev pub numeric_order : NumericView → NumericView → Ordering
numeric_order v w = ordering_then (slice_cmp int_cmp (numbers v.value) (numbers w.value))
    (ordering_then (option_cmp text_order v.prefix w.prefix) (option_cmp text_order v.suffix w.suffix))

-- the order of numbers and texts: a number comes before a text
abbrev pub regular_order : MaybeView NumericView → MaybeView NumericView → Ordering
regular_order (typed v) (typed w) = numeric_order v w
regular_order (typed v) (text t) = Less
regular_order (text s) (typed w) = Greater
regular_order (text s) (text t) = text_order s t

-- the order of all answers: a number or a text comes before a text that the caller writes, which is
-- ordered by the index of its cite
abbrev pub csl_order : ResultView → ResultView → Ordering
csl_order (regular x) (regular y) = regular_order x y
csl_order (regular x) (transparent j) = Less
csl_order (transparent i) (regular y) = Greater
csl_order (transparent i) (transparent j) = nat_cmp i j

-- The laws of an order: swapping two values reverses it, and it is transitive. Two different values
-- may be equal in it.
pub record IsOrder {X : Type 0} (order : X → X → Ordering) : Type 0 where
  pub antisymmetric : (a b : X) → order b a ≡ ordering_reverse (order a b)
  pub transitive : (a b c : X) → IsTrue (is_le (order a b)) → IsTrue (is_le (order b c)) → IsTrue (is_le (order a c))
  pub strictly_transitive : (a b c : X) → order a b ≡ Less → order b c ≡ Less → order a c ≡ Less

-- the two numbers are the same apart from the separators of their lists
pub record SameButSeparators (v w : NumericView) : Type 0 where
  pub same_numbers : numbers v.value ≡ numbers w.value
  pub same_prefix : v.prefix ≡ w.prefix
  pub same_suffix : v.suffix ≡ w.suffix
