-- The parser of pages is complete: if characters spell pages, it reads these pages.
use Rattle.std.proofs.Common.{◌≡◌, ℕ, suc, ◌+◌, Bool, true, false, List, [], ◌∷◌, ◌++◌, Option, Some, None, ℤ, count_by, refl, sym, ap, ◌∙◌, subst, append_assoc, arith}
use Rattle.std.specs.Char.{is_ascii_digit, is_whitespace}
use Rattle.std.proofs.lemmas.List.{append-nil}
use Rattle.lit_model.specs.Numeric.{ValueView, NumericView, one, IsBlank}
use Rattle.lit_model.specs.NumericParse.{after_longest_prefix, affix_from}
use Rattle.lit_model.specs.Page.{PartView, ampersand, comma, escaped, single, range, is_page_affix, is_range_mark, is_separator, SpellsPage, SpellsItem, SpellsSeparator, SpellsParts, SpellsPages}
use Rattle.lit_model.specs.PageParse.{page_at, mark_first, mark_at, separator_of, separator_at, item_from, item_at, parts_at, pages_from}
use Rattle.lit_model.proofs.Classes.{digit_is_no_space}
use Rattle.lit_model.proofs.PageClasses.{page_affix_is_other, mark_is_no_digit, mark_is_no_space, mark_is_no_separator, mark_is_no_affix, separator_is_no_digit, separator_is_no_space, separator_is_no_mark, separator_is_no_affix, digit_is_no_page_affix, digit_is_no_separator, space_is_no_page_affix, space_is_no_separator}
use Rattle.lit_model.proofs.Pieces.{Stops, front_is, after_is, stops_by, stops_first, count_none, count_append, count_yes}
use Rattle.lit_model.proofs.Complete.{space_is_no_digit, integer_complete, affix_only, affix_complete, blank_complete, blank_stops}

abbrev Parts : Type 0
Parts = List PartView

-- ---- a page

-- three pieces and the characters after them, regrouped
regrouped : (a b c tail : List ℕ) → (a ++ (b ++ c)) ++ tail ≡ a ++ (b ++ (c ++ tail))
regrouped a b c tail = append_assoc a (b ++ c) tail ∙ ap (λ (x : List ℕ). a ++ x) (append_assoc b c tail)

-- a page begins with a character of its prefix, or a digit
page_stops : (p : ℕ → Bool) (v : NumericView) (cs tail : List ℕ) → ((c : ℕ) → is_page_affix c ≡ true → p c ≡ false) → ((c : ℕ) → is_ascii_digit c ≡ true → p c ≡ false) → SpellsPage v cs → Stops p (cs ++ tail)
page_stops p v cs tail no_affix no_digit s =
    let digits : Stops p (s.digits ++ (s.suffix ++ tail)) = stops_first p is_ascii_digit s.digits (s.suffix ++ tail) no_digit s.has_number.digits s.has_number.nonempty in
    subst (Stops p) (sym (ap (λ (x : List ℕ). x ++ tail) s.whole ∙ regrouped s.prefix s.digits s.suffix tail))
    (stops_by p is_page_affix s.prefix (s.digits ++ (s.suffix ++ tail)) no_affix (affix_only is_page_affix v.prefix s.prefix s.has_prefix) digits)

-- after a page comes neither an affix character nor a digit
pub record Ends (tail : List ℕ) : Type 0 where
  pub no_affix : Stops is_page_affix tail
  pub no_digit : Stops is_ascii_digit tail

abbrev made : ValueView → Option (List ℕ) → Option (List ℕ) → NumericView
made value prefix suffix = record { value = value; prefix = prefix; suffix = suffix }

view_is : (v : NumericView) (n : ℤ) (p s : Option (List ℕ)) → v.value ≡ one n → p ≡ v.prefix → s ≡ v.suffix → made (one n) p s ≡ v
view_is v n p s e f g = ap (λ (x : ValueView). made x p s) (sym e) ∙ ap (λ (x : Option (List ℕ)). made v.value x s) f ∙ ap (λ (x : Option (List ℕ)). made v.value v.prefix x) g

page_complete : (v : NumericView) (cs tail : List ℕ) → SpellsPage v cs → Ends tail → page_at (cs ++ tail) ≡ Some (v, tail)
unfolding page_at
page_complete v cs tail s ends =
    let affix = affix_only is_page_affix v.prefix s.prefix s.has_prefix in
    let affix' = affix_only is_page_affix v.suffix s.suffix s.has_suffix in
    let rest = s.digits ++ (s.suffix ++ tail) in
    let stops : Stops is_page_affix rest = stops_first is_page_affix is_ascii_digit s.digits (s.suffix ++ tail) digit_is_no_page_affix s.has_number.digits s.has_number.nonempty in
    let stops' : Stops is_ascii_digit (s.suffix ++ tail) = stops_by is_ascii_digit is_page_affix s.suffix tail (λ c h. (page_affix_is_other c h).0) affix' ends.no_digit in
    let grouped : cs ++ tail ≡ s.prefix ++ rest = ap (λ (x : List ℕ). x ++ tail) s.whole ∙ regrouped s.prefix s.digits s.suffix tail in
    ap page_at grouped ∙ rw (
      after_is is_page_affix s.prefix rest affix stops,
      front_is is_page_affix s.prefix rest affix stops,
      integer_complete s.number s.digits (s.suffix ++ tail) s.has_number stops',
      after_is is_page_affix s.suffix tail affix' ends.no_affix,
      front_is is_page_affix s.suffix tail affix' ends.no_affix,
    )
    (ap (λ (w : NumericView). Some (w, tail)) (view_is v s.number (affix_from s.prefix) (affix_from s.suffix) s.is_one (affix_complete is_page_affix v.prefix s.prefix s.has_prefix) (affix_complete is_page_affix v.suffix s.suffix s.has_suffix)))

-- ---- a range mark, a separator

mark_complete : (c : ℕ) (before after rest : List ℕ) → is_range_mark c ≡ true → IsBlank before → IsBlank after → Stops is_whitespace rest → mark_at (before ++ (c ∷ (after ++ rest))) ≡ Some rest
unfolding mark_at
mark_complete c before after rest is blank_before blank_after stops =
    rw (after_is is_whitespace before (c ∷ (after ++ rest)) blank_before (mark_is_no_space c is), is, after_is is_whitespace after rest blank_after stops) refl

separator_char : (s : PartView) (c : ℕ) → SpellsSeparator s c → (is_separator c ≡ true) × (separator_of c ≡ Some s)
separator_char ampersand c h = (rw h refl, rw h refl)
separator_char comma c h = (rw h refl, rw h refl)
separator_char (escaped v w) c h = absurd h
separator_char (single v) c h = absurd h
separator_char (range v w) c h = absurd h

separator_complete : (s : PartView) (c : ℕ) (before after rest : List ℕ) → SpellsSeparator s c → IsBlank before → IsBlank after → Stops is_whitespace rest → separator_at (before ++ (c ∷ (after ++ rest))) ≡ Some (s, rest)
unfolding separator_at
separator_complete s c before after rest is blank_before blank_after stops =
    let k = separator_char s c is in
    rw (after_is is_whitespace before (c ∷ (after ++ rest)) blank_before (separator_is_no_space c k.0), k.1, after_is is_whitespace after rest blank_after stops) refl

-- a character that is no affix character and no digit ends a page, also after white space
gap_ends : (c : ℕ) (before rest : List ℕ) → IsBlank before → is_page_affix c ≡ false → is_ascii_digit c ≡ false → Ends (before ++ (c ∷ rest))
gap_ends c before rest blank no_affix no_digit = record {
  no_affix = stops_by is_page_affix is_whitespace before (c ∷ rest) space_is_no_page_affix blank no_affix;
  no_digit = stops_by is_ascii_digit is_whitespace before (c ∷ rest) space_is_no_digit blank no_digit;
}

-- there is no range mark at another character, also after white space, or at the end
mark_first_no : (c : ℕ) (rest : List ℕ) → is_range_mark c ≡ false → mark_first (c ∷ rest) ≡ None
mark_first_no c rest h = rw h refl

no_mark_before : (c : ℕ) (before rest : List ℕ) → IsBlank before → is_whitespace c ≡ false → is_range_mark c ≡ false → mark_at (before ++ (c ∷ rest)) ≡ None
unfolding mark_at
no_mark_before c before rest blank no_space no_mark = ap mark_first (after_is is_whitespace before (c ∷ rest) blank no_space) ∙ mark_first_no c rest no_mark

no_mark_at_end : (cs : List ℕ) → IsBlank cs → mark_at cs ≡ None
unfolding mark_at
no_mark_at_end cs blank = ap mark_first (ap (after_longest_prefix is_whitespace) (sym (append-nil cs)) ∙ after_is is_whitespace cs [] blank tt)

-- ---- an item

item_from_single : (v : NumericView) (tail : List ℕ) → item_from (v, tail) None ≡ Some (single v, tail)
unfolding item_from
item_from_single v tail = refl

item_from_range : (v w : NumericView) (a b rest : List ℕ) → page_at b ≡ Some (w, rest) → item_from (v, a) (Some b) ≡ Some (range v w, rest)
unfolding item_from
item_from_range v w a b rest h = rw h refl

-- five pieces and the characters after them, regrouped
regroup : (first before after last tail : List ℕ) (c : ℕ) → (first ++ (before ++ (c ∷ (after ++ last)))) ++ tail ≡ first ++ (before ++ (c ∷ (after ++ (last ++ tail))))
regroup first before after last tail c =
    append_assoc first (before ++ (c ∷ (after ++ last))) tail
    ∙ ap (λ (x : List ℕ). first ++ x) (append_assoc before (c ∷ (after ++ last)) tail ∙ ap (λ (x : List ℕ). before ++ (c ∷ x)) (append_assoc after last tail))

page_no_space : (v : NumericView) (cs tail : List ℕ) → SpellsPage v cs → Stops is_whitespace (cs ++ tail)
page_no_space v cs tail s = page_stops is_whitespace v cs tail (λ c h. (page_affix_is_other c h).1) digit_is_no_space s

item_complete : (p : PartView) (cs tail : List ℕ) → SpellsItem p cs → Ends tail → mark_at tail ≡ None → item_at (cs ++ tail) ≡ Some (p, tail)
unfolding item_at
item_complete ampersand cs tail s ends unmarked = absurd s
item_complete comma cs tail s ends unmarked = absurd s
item_complete (escaped v w) cs tail s ends unmarked = absurd s
item_complete (single v) cs tail s ends unmarked = rw (page_complete v cs tail s ends, unmarked) (item_from_single v tail)
item_complete (range v w) cs tail s ends unmarked =
    let after = s.mark ∷ (s.after ++ (s.last ++ tail)) in
    let first : page_at (s.first ++ (s.before ++ after)) ≡ Some (v, s.before ++ after) = page_complete v s.first (s.before ++ after) s.has_first (gap_ends s.mark s.before (s.after ++ (s.last ++ tail)) s.blank_before (mark_is_no_affix s.mark s.is_mark) (mark_is_no_digit s.mark s.is_mark)) in
    let mark : mark_at (s.before ++ after) ≡ Some (s.last ++ tail) = mark_complete s.mark s.before s.after (s.last ++ tail) s.is_mark s.blank_before s.blank_after (page_no_space w s.last tail s.has_last) in
    ap item_at (ap (λ (x : List ℕ). x ++ tail) s.whole ∙ regroup s.first s.before s.after s.last tail s.mark)
    ∙ rw (first, mark) (item_from_range v w (s.before ++ after) (s.last ++ tail) tail (page_complete w s.last tail s.has_last ends))

item_no_space : (p : PartView) (cs tail : List ℕ) → SpellsItem p cs → Stops is_whitespace (cs ++ tail)
item_no_space ampersand cs tail s = absurd s
item_no_space comma cs tail s = absurd s
item_no_space (escaped v w) cs tail s = absurd s
item_no_space (single v) cs tail s = page_no_space v cs tail s
item_no_space (range v w) cs tail s =
    subst (Stops is_whitespace) (sym (ap (λ (x : List ℕ). x ++ tail) s.whole ∙ regroup s.first s.before s.after s.last tail s.mark))
    (page_no_space v s.first (s.before ++ (s.mark ∷ (s.after ++ (s.last ++ tail)))) s.has_first)

-- ---- all items

-- the number of separators in the parts after the first
abbrev pub pairs : Parts → ℕ
pairs [] = 0
pairs (s ∷ []) = 0
pairs (s ∷ q ∷ more) = suc (pairs more)

parts_no_space : (p : PartView) (more : Parts) (cs tail : List ℕ) → SpellsParts (p ∷ more) cs → Stops is_whitespace (cs ++ tail)
parts_no_space p [] cs tail s = item_no_space p cs tail s
parts_no_space p (q ∷ []) cs tail s = absurd s
parts_no_space p (q ∷ r ∷ more) cs tail (item, before, c, after, rest, whole, spelled, blank_before, is, blank_after, others) =
    subst (Stops is_whitespace) (sym (ap (λ (x : List ℕ). x ++ tail) whole ∙ regroup item before after rest tail c))
    (item_no_space p item (before ++ (c ∷ (after ++ (rest ++ tail)))) spelled)

parts_complete : (p : PartView) (more : Parts) (cs tail : List ℕ) → SpellsParts (p ∷ more) cs → Ends tail → mark_at tail ≡ None → parts_at (pairs more) (cs ++ tail) ≡ Some (p ∷ more, tail)
unfolding parts_at
parts_complete p [] cs tail s ends unmarked = rw (item_complete p cs tail s ends unmarked) refl
parts_complete p (q ∷ []) cs tail s ends unmarked = absurd s
parts_complete p (q ∷ r ∷ more) cs tail (item, before, c, after, rest, whole, spelled, blank_before, is, blank_after, others) ends unmarked =
    let k = separator_char q c is in
    let next = before ++ (c ∷ (after ++ (rest ++ tail))) in
    let first : item_at (item ++ next) ≡ Some (p, next) = item_complete p item next spelled
    (gap_ends c before (after ++ (rest ++ tail)) blank_before (separator_is_no_affix c k.0) (separator_is_no_digit c k.0))
    (no_mark_before c before (after ++ (rest ++ tail)) blank_before (separator_is_no_space c k.0) (separator_is_no_mark c k.0)) in
    let second : separator_at next ≡ Some (q, rest ++ tail) = separator_complete q c before after (rest ++ tail) is blank_before blank_after (parts_no_space r more rest tail others) in
    let third = parts_complete r more rest tail others ends unmarked in
    ap (parts_at (suc (pairs more))) (ap (λ (x : List ℕ). x ++ tail) whole ∙ regroup item before after rest tail c) ∙ rw (first, second, third) refl

-- ---- the number of separators in a text

count_page : (v : NumericView) (cs : List ℕ) → SpellsPage v cs → count_by is_separator cs ≡ 0
count_page v cs s =
    let a = count_none is_separator is_page_affix s.prefix (λ c h. (page_affix_is_other c h).2) (affix_only is_page_affix v.prefix s.prefix s.has_prefix) in
    let b = count_none is_separator is_ascii_digit s.digits digit_is_no_separator s.has_number.digits in
    let c = count_none is_separator is_page_affix s.suffix (λ c h. (page_affix_is_other c h).2) (affix_only is_page_affix v.suffix s.suffix s.has_suffix) in
    ap (count_by is_separator) s.whole ∙ omega (arith, count_append is_separator s.prefix (s.digits ++ s.suffix), count_append is_separator s.digits s.suffix, a, b, c)

count_no : (p : ℕ → Bool) (c : ℕ) (cs : List ℕ) → p c ≡ false → count_by p (c ∷ cs) ≡ count_by p cs
count_no p c cs h = let none : count_by p (c ∷ []) ≡ 0 = rw h refl in omega (arith, count_append p (c ∷ []) cs, none)

-- if the pieces before a character have no separator, and the character counts k, then the whole
-- has k more than the last piece
count_around : (first before after last : List ℕ) (c : ℕ) (k : ℕ) → IsBlank before → IsBlank after → count_by is_separator first ≡ 0 → count_by is_separator (c ∷ (after ++ last)) ≡ k + count_by is_separator (after ++ last)
    → count_by is_separator (first ++ (before ++ (c ∷ (after ++ last)))) ≡ k + count_by is_separator last
count_around first before after last c k blank_before blank_after none here =
    let a = count_none is_separator is_whitespace before space_is_no_separator blank_before in
    let b = count_none is_separator is_whitespace after space_is_no_separator blank_after in
    omega (arith, count_append is_separator first (before ++ (c ∷ (after ++ last))), count_append is_separator before (c ∷ (after ++ last)), count_append is_separator after last, a, b, none, here)

count_item : (p : PartView) (cs : List ℕ) → SpellsItem p cs → count_by is_separator cs ≡ 0
count_item ampersand cs s = absurd s
count_item comma cs s = absurd s
count_item (escaped v w) cs s = absurd s
count_item (single v) cs s = count_page v cs s
count_item (range v w) cs s =
    ap (count_by is_separator) s.whole
    ∙ count_around s.first s.before s.after s.last s.mark 0 s.blank_before s.blank_after (count_page v s.first s.has_first) (omega (arith, count_no is_separator s.mark (s.after ++ s.last) (mark_is_no_separator s.mark s.is_mark)))
    ∙ omega (arith, count_page w s.last s.has_last)

count_parts : (p : PartView) (more : Parts) (cs : List ℕ) → SpellsParts (p ∷ more) cs → count_by is_separator cs ≡ pairs more
count_parts p [] cs s = count_item p cs s
count_parts p (q ∷ []) cs s = absurd s
count_parts p (q ∷ r ∷ more) cs (item, before, c, after, rest, whole, spelled, blank_before, is, blank_after, others) =
    let k = separator_char q c is in
    ap (count_by is_separator) whole
    ∙ count_around item before after rest c 1 blank_before blank_after (count_item p item spelled) (omega (arith, count_yes is_separator c (after ++ rest) k.0))
    ∙ omega (arith, count_parts r more rest others)

-- if characters spell pages, the parser reads them
pub pages_complete : (parts : Parts) (cs : List ℕ) → SpellsPages parts cs → pages_from cs ≡ Some parts
unfolding pages_from
pages_complete [] cs s = absurd s.has_parts
pages_complete (p ∷ more) cs s =
    let a = count_none is_separator is_whitespace s.before space_is_no_separator s.blank_before in
    let b = count_none is_separator is_whitespace s.after space_is_no_separator s.blank_after in
    let count : count_by is_separator cs ≡ pairs more =
    ap (count_by is_separator) s.whole ∙ omega (arith, count_append is_separator s.before (s.inner ++ s.after), count_append is_separator s.inner s.after, a, b, count_parts p more s.inner s.has_parts) in
    let start : after_longest_prefix is_whitespace cs ≡ s.inner ++ s.after = ap (after_longest_prefix is_whitespace) s.whole ∙ after_is is_whitespace s.before (s.inner ++ s.after) s.blank_before (parts_no_space p more s.inner s.after s.has_parts) in
    let ends : Ends s.after = record {
      no_affix = blank_stops is_page_affix s.after space_is_no_page_affix s.blank_after;
      no_digit = blank_stops is_ascii_digit s.after space_is_no_digit s.blank_after;
    } in
    rw (count, start, parts_complete p more s.inner s.after s.has_parts ends (no_mark_at_end s.after s.blank_after), blank_complete s.after s.blank_after) refl
