-- The text of writable pages spells them, and pages that some text spells are writable.
use Rattle.std.proofs.Common.{◌≡◌, ℕ, true, List, [], ◌∷◌, ◌++◌, ℤ, chars, codes, refl, sym, ap, ◌∙◌, subst, append_assoc, lit<}
use Rattle.std.specs.Prelude.{IsUtf8, IsAscii, unwrap_or}
use Rattle.std.specs.Fmt.{signed_decimal}
use Rattle.std.specs.Str.{all_scalars}
use Rattle.std.proofs.lemmas.List.{append-nil}
use Rattle.std.proofs.lemmas.Str.{chars-append, chars-IsAscii, IsUtf8-from_ascii, IsUtf8-append}
use Rattle.lit_model.specs.Numeric.{ValueView, one, several, NumericView, IsBlank, IsWritableInteger}
use Rattle.lit_model.specs.NumericWrite.{value_text, numeric_text}
use Rattle.lit_model.specs.Page.{PartView, ampersand, comma, escaped, single, range, is_page_affix, SpellsPage, SpellsItem, SpellsSeparator, SpellsParts, SpellsPages, IsOneWritable, IsWritablePage, IsWritableItem, IsSeparator, AreWritable}
use Rattle.lit_model.specs.PageWrite.{part_text, pages_text}
use Rattle.lit_model.proofs.RoundTrip.{integer_spelled, integer_ascii, affix_utf8, affix_spelled, ascii_cons, ascii_nil}
use Rattle.lit_model.proofs.Writable.{integer_writable, scalars_parts, affix_writable}

abbrev Parts : Type 0
Parts = List PartView

-- ---- a page

one_spelled : (v : ValueView) → IsOneWritable v → (n : ℤ) × (v ≡ one n) × IsWritableInteger n
one_spelled (one n) w = (n, refl, w)
one_spelled (several xs) w = absurd w

-- the characters of three texts, if the middle one is ASCII
chars_around : (a b c : List ℕ) → IsUtf8 a → IsAscii b → chars (a ++ (b ++ c)) ≡ chars a ++ (b ++ chars c)
chars_around a b c utf8 ascii =
    chars-append a (b ++ c) utf8 ∙ ap (λ (x : List ℕ). chars a ++ x) (chars-append b c (IsUtf8-from_ascii b ascii) ∙ ap (λ (x : List ℕ). x ++ chars c) (chars-IsAscii b ascii))

page_utf8 : (v : NumericView) → IsWritablePage v → IsUtf8 (numeric_text v)
page_utf8 v w =
    let o = one_spelled v.value w.number in
    let text : value_text signed_decimal v.value ≡ signed_decimal o.0 = ap (value_text signed_decimal) o.1 in
    let utf8 : IsUtf8 (value_text signed_decimal v.value) = subst IsUtf8 (sym text) (IsUtf8-from_ascii (signed_decimal o.0) (integer_ascii o.0 o.2)) in
    IsUtf8-append (unwrap_or v.prefix []) (value_text signed_decimal v.value ++ unwrap_or v.suffix []) (affix_utf8 is_page_affix v.prefix w.prefix)
    (IsUtf8-append (value_text signed_decimal v.value) (unwrap_or v.suffix []) utf8 (affix_utf8 is_page_affix v.suffix w.suffix))

page_spelled : (v : NumericView) → IsWritablePage v → SpellsPage v (chars (numeric_text v))
page_spelled v w =
    let o = one_spelled v.value w.number in
    let prefix = unwrap_or v.prefix [] in
    let suffix = unwrap_or v.suffix [] in
    let text : numeric_text v ≡ prefix ++ (signed_decimal o.0 ++ suffix) = ap (λ (x : ValueView). prefix ++ (value_text signed_decimal x ++ suffix)) o.1 in
    record {
      prefix = chars prefix;
      digits = signed_decimal o.0;
      suffix = chars suffix;
      number = o.0;
      whole = ap chars text ∙ chars_around prefix (signed_decimal o.0) suffix (affix_utf8 is_page_affix v.prefix w.prefix) (integer_ascii o.0 o.2);
      is_one = o.1;
      has_prefix = affix_spelled is_page_affix v.prefix w.prefix;
      has_number = integer_spelled o.0 o.2;
      has_suffix = affix_spelled is_page_affix v.suffix w.suffix;
    }

-- ---- an item

dash_ascii : IsAscii (codes "-")
dash_ascii = ascii_cons 45 [] (lit< tt) ascii_nil

item_utf8 : (p : PartView) → IsWritableItem p → IsUtf8 (part_text p)
item_utf8 ampersand w = absurd w
item_utf8 comma w = absurd w
item_utf8 (escaped v u) w = absurd w
item_utf8 (single v) w = page_utf8 v w
item_utf8 (range v u) w =
    IsUtf8-append (numeric_text v) (codes "-" ++ numeric_text u) (page_utf8 v w.0) (IsUtf8-append (codes "-") (numeric_text u) (IsUtf8-from_ascii (codes "-") dash_ascii) (page_utf8 u w.1))

item_spelled : (p : PartView) → IsWritableItem p → SpellsItem p (chars (part_text p))
item_spelled ampersand w = absurd w
item_spelled comma w = absurd w
item_spelled (escaped v u) w = absurd w
item_spelled (single v) w = page_spelled v w
item_spelled (range v u) w = record {
  first = chars (numeric_text v);
  before = [];
  mark = 45;
  after = [];
  last = chars (numeric_text u);
  whole = chars_around (numeric_text v) (codes "-") (numeric_text u) (page_utf8 v w.0) dash_ascii;
  is_mark = refl;
  has_first = page_spelled v w.0;
  blank_before = tt;
  blank_after = tt;
  has_last = page_spelled u w.1;
}

-- ---- all parts

-- the text of a separator: its character, with white space around it
record Separates (s : PartView) : Type 0 where
  before : List ℕ
  c : ℕ
  after : List ℕ
  text : part_text s ≡ before ++ (c ∷ after)
  blank_before : IsBlank before
  is : SpellsSeparator s c
  blank_after : IsBlank after
  ascii : IsAscii (part_text s)

separates : (s : PartView) → IsSeparator s → Separates s
separates ampersand h = record { before = 32 ∷ []; c = 38; after = 32 ∷ []; text = refl; blank_before = (refl, tt); is = refl; blank_after = (refl, tt); ascii = ascii_cons 32 (38 ∷ 32 ∷ []) (lit< tt) (ascii_cons 38 (32 ∷ []) (lit< tt) (ascii_cons 32 [] (lit< tt) ascii_nil)) }
separates comma h = record { before = []; c = 44; after = 32 ∷ []; text = refl; blank_before = tt; is = refl; blank_after = (refl, tt); ascii = ascii_cons 44 (32 ∷ []) (lit< tt) (ascii_cons 32 [] (lit< tt) ascii_nil) }
separates (escaped v w) h = absurd h
separates (single v) h = absurd h
separates (range v w) h = absurd h

pub parts_spelled : (ps : Parts) → AreWritable ps → SpellsParts ps (chars (pages_text ps))
parts_spelled [] w = absurd w
parts_spelled (p ∷ []) w = subst (λ (t : List ℕ). SpellsItem p (chars t)) (sym (append-nil (part_text p))) (item_spelled p w)
parts_spelled (p ∷ s ∷ []) w = absurd w
parts_spelled (p ∷ s ∷ q ∷ more) w =
    let sep = separates s w.1 in
    let rest = pages_text (q ∷ more) in
    let inner : part_text s ++ chars rest ≡ sep.before ++ (sep.c ∷ (sep.after ++ chars rest)) = ap (λ (x : List ℕ). x ++ chars rest) sep.text ∙ append_assoc sep.before (sep.c ∷ sep.after) (chars rest) in
    let all : chars (pages_text (p ∷ s ∷ q ∷ more)) ≡ chars (part_text p) ++ (sep.before ++ (sep.c ∷ (sep.after ++ chars rest))) =
    chars_around (part_text p) (part_text s) rest (item_utf8 p w.0) sep.ascii ∙ ap (λ (x : List ℕ). chars (part_text p) ++ x) inner in
    (chars (part_text p), sep.before, sep.c, sep.after, chars rest, all, item_spelled p w.0, sep.blank_before, sep.is, sep.blank_after, parts_spelled (q ∷ more) w.2)

-- the text of writable pages spells them
pub pages_spelled : (ps : Parts) → AreWritable ps → SpellsPages ps (chars (pages_text ps))
pages_spelled ps w = record { before = []; inner = chars (pages_text ps); after = []; whole = sym (append-nil (chars (pages_text ps))); blank_before = tt; has_parts = parts_spelled ps w; blank_after = tt }

-- ---- pages that some text spells are writable

one_writable : (v : ValueView) (n : ℤ) → v ≡ one n → IsWritableInteger n → IsOneWritable v
one_writable v n e w = subst IsOneWritable (sym e) w

page_writable : (v : NumericView) (cs : List ℕ) → all_scalars cs ≡ true → SpellsPage v cs → IsWritablePage v
page_writable v cs is_scalar s =
    let first = scalars_parts s.prefix (s.digits ++ s.suffix) (sym (ap all_scalars s.whole) ∙ is_scalar) in
    let second = scalars_parts s.digits s.suffix first.1 in
    record {
      number = one_writable v.value s.number s.is_one (integer_writable s.number s.digits s.has_number);
      prefix = affix_writable is_page_affix v.prefix s.prefix first.0 s.has_prefix;
      suffix = affix_writable is_page_affix v.suffix s.suffix second.1 s.has_suffix;
    }

-- if the whole has only scalar values, so have the pieces before and after a character
scalars_around : (first before after last : List ℕ) (c : ℕ) (cs : List ℕ) → cs ≡ first ++ (before ++ (c ∷ (after ++ last))) → all_scalars cs ≡ true → (all_scalars first ≡ true) × (all_scalars last ≡ true)
scalars_around first before after last c cs whole is_scalar =
    let a = scalars_parts first (before ++ (c ∷ (after ++ last))) (sym (ap all_scalars whole) ∙ is_scalar) in
    let b = scalars_parts before (c ∷ (after ++ last)) a.1 in
    let d = scalars_parts (c ∷ []) (after ++ last) b.1 in
    let e = scalars_parts after last d.1 in
    (a.0, e.1)

item_writable : (p : PartView) (cs : List ℕ) → all_scalars cs ≡ true → SpellsItem p cs → IsWritableItem p
item_writable ampersand cs is_scalar s = absurd s
item_writable comma cs is_scalar s = absurd s
item_writable (escaped v w) cs is_scalar s = absurd s
item_writable (single v) cs is_scalar s = page_writable v cs is_scalar s
item_writable (range v w) cs is_scalar s =
    let k = scalars_around s.first s.before s.after s.last s.mark cs s.whole is_scalar in
    (page_writable v s.first k.0 s.has_first, page_writable w s.last k.1 s.has_last)

separator_writable : (s : PartView) (c : ℕ) → SpellsSeparator s c → IsSeparator s
separator_writable ampersand c h = tt
separator_writable comma c h = tt
separator_writable (escaped v w) c h = absurd h
separator_writable (single v) c h = absurd h
separator_writable (range v w) c h = absurd h

parts_writable : (ps : Parts) (cs : List ℕ) → all_scalars cs ≡ true → SpellsParts ps cs → AreWritable ps
parts_writable [] cs is_scalar s = absurd s
parts_writable (p ∷ []) cs is_scalar s = item_writable p cs is_scalar s
parts_writable (p ∷ q ∷ []) cs is_scalar s = absurd s
parts_writable (p ∷ q ∷ r ∷ more) cs is_scalar (item, before, c, after, rest, whole, spelled, blank_before, is, blank_after, others) =
    let k = scalars_around item before after rest c cs whole is_scalar in
    (item_writable p item k.0 spelled, separator_writable q c is, parts_writable (r ∷ more) rest k.1 others)

pub pages_writable : (ps : Parts) (cs : List ℕ) → all_scalars cs ≡ true → SpellsPages ps cs → AreWritable ps
pages_writable ps cs is_scalar s =
    let a = scalars_parts s.before (s.inner ++ s.after) (sym (ap all_scalars s.whole) ∙ is_scalar) in
    let b = scalars_parts s.inner s.after a.1 in
    parts_writable ps s.inner b.0 s.has_parts
