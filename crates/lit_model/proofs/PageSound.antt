-- The parser of pages is sound: if it reads pages, the characters spell them.
use Rattle.std.proofs.Common.{◌≡◌, ℕ, zero, suc, true, cond, List, [], ◌∷◌, ◌++◌, Option, Some, None, count_by, refl, sym, ap, ◌∙◌, subst, append_assoc, inl, inr}
use Rattle.std.specs.Prelude.{nat_eq}
use Rattle.std.specs.Char.{is_ascii_digit, is_whitespace}
use Rattle.std.proofs.lemmas.Option.{cond_some}
use Rattle.std.proofs.lemmas.Bool.{eqb-true}
use Rattle.lit_model.specs.Numeric.{NumericView, one, IsBlank}
use Rattle.lit_model.specs.NumericParse.{◌>>=◌, longest_prefix, after_longest_prefix, integer_at, affix_from, is_blank}
use Rattle.lit_model.specs.Page.{PartView, ampersand, comma, single, range, is_page_affix, is_range_mark, is_separator, SpellsPage, SpellsItem, SpellsSeparator, SpellsParts, SpellsPages}
use Rattle.lit_model.specs.PageParse.{page_at, mark_first, mark_at, separator_of, separator_first, separator_at, item_from, item_at, parts_at, pages_from}
use Rattle.lit_model.proofs.Integers.{Only-front}
use Rattle.lit_model.proofs.Pieces.{bind_some, some_is, chosen, front_after}
use Rattle.lit_model.proofs.Sound.{integer_sound, affix_sound, blank_is}

abbrev pub Parts : Type 0
Parts = List PartView

-- the characters are a text with the property P, followed by the rest
pub record Begins (P : List ℕ → Type 0) (cs rest : List ℕ) : Type 0 where
  pub text : List ℕ
  pub whole : cs ≡ text ++ rest
  pub has : P text

-- ---- a page

pub page_sound : (cs : List ℕ) (x : NumericView × List ℕ) → page_at cs ≡ Some x → Begins (SpellsPage x.0) cs x.1
unfolding page_at
page_sound cs x h =
    let prefix = longest_prefix is_page_affix cs in
    let b = bind_some (integer_at (after_longest_prefix is_page_affix cs)) (λ n. Some (record { value = one n.0; prefix = affix_from (longest_prefix is_page_affix cs); suffix = affix_from (longest_prefix is_page_affix n.1) }, after_longest_prefix is_page_affix n.1)) x h in
    let s = integer_sound (after_longest_prefix is_page_affix cs) b.0 b.1 in
    let digits = longest_prefix is_ascii_digit (after_longest_prefix is_page_affix cs) in
    let suffix = longest_prefix is_page_affix b.0.1 in
    let rest = after_longest_prefix is_page_affix b.0.1 in
    let made : NumericView = record { value = one b.0.0; prefix = affix_from prefix; suffix = affix_from suffix } in
    let split : cs ≡ prefix ++ (digits ++ (suffix ++ rest)) = front_after is_page_affix cs ∙ ap (λ (y : List ℕ). prefix ++ y) (s.1 ∙ ap (λ (y : List ℕ). digits ++ y) (front_after is_page_affix b.0.1)) in
    let whole : cs ≡ (prefix ++ (digits ++ suffix)) ++ rest = split ∙ sym (append_assoc prefix (digits ++ suffix) rest ∙ ap (λ (y : List ℕ). prefix ++ y) (append_assoc digits suffix rest)) in
    subst (λ (y : NumericView × List ℕ). Begins (SpellsPage y.0) cs y.1) (some_is (made, rest) x b.2) (record {
      text = prefix ++ (digits ++ suffix);
      whole = whole;
      has = record {
        prefix = prefix;
        digits = digits;
        suffix = suffix;
        number = b.0.0;
        whole = refl;
        is_one = refl;
        has_prefix = affix_sound is_page_affix prefix (Only-front is_page_affix cs);
        has_number = s.0;
        has_suffix = affix_sound is_page_affix suffix (Only-front is_page_affix b.0.1);
      };
    })

-- ---- a range mark, a separator

pub record HasCharacter (P : ℕ → Type 0) (cs rest : List ℕ) : Type 0 where
  pub before : List ℕ
  pub c : ℕ
  pub after : List ℕ
  pub whole : cs ≡ before ++ (c ∷ (after ++ rest))
  pub blank_before : IsBlank before
  pub is : P c
  pub blank_after : IsBlank after

-- a character with white space before and after it
behind_space : (P : ℕ → Type 0) (cs : List ℕ) (c : ℕ) (tail rest : List ℕ) → after_longest_prefix is_whitespace cs ≡ c ∷ tail → after_longest_prefix is_whitespace tail ≡ rest → P c → HasCharacter P cs rest
behind_space P cs c tail rest here ends is =
    record {
      before = longest_prefix is_whitespace cs;
      c = c;
      after = longest_prefix is_whitespace tail;
      whole = front_after is_whitespace cs ∙ ap (λ (r : List ℕ). longest_prefix is_whitespace cs ++ r) (here ∙ ap (λ (r : List ℕ). c ∷ r) (front_after is_whitespace tail ∙ ap (λ (r : List ℕ). longest_prefix is_whitespace tail ++ r) ends));
      blank_before = Only-front is_whitespace cs;
      is = is;
      blank_after = Only-front is_whitespace tail;
    }

mark_from : (cs : List ℕ) (tail rest : List ℕ) → after_longest_prefix is_whitespace cs ≡ tail → mark_first tail ≡ Some rest → HasCharacter (λ c. is_range_mark c ≡ true) cs rest
mark_from cs [] rest here h = absurd cc
mark_from cs (c ∷ tail) rest here h =
    let k = cond_some (is_range_mark c) (after_longest_prefix is_whitespace tail) rest h in
    behind_space (λ d. is_range_mark d ≡ true) cs c tail rest here k.1 k.0

pub mark_sound : (cs rest : List ℕ) → mark_at cs ≡ Some rest → HasCharacter (λ c. is_range_mark c ≡ true) cs rest
unfolding mark_at
mark_sound cs rest h = mark_from cs (after_longest_prefix is_whitespace cs) rest refl h

separator_of_is : (c : ℕ) (s : PartView) → separator_of c ≡ Some s → SpellsSeparator s c
separator_of_is c s h =
    elim (chosen (nat_eq c 44) (Some comma) (cond (nat_eq c 38) (Some ampersand) None) (Some s) h) [
      | inl e ↦ subst (λ (t : PartView). SpellsSeparator t c) (some_is comma s e.1) (eqb-true c 44 e.0)
      | inr f ↦ elim (chosen (nat_eq c 38) (Some ampersand) None (Some s) f.1) [
        | inl e ↦ subst (λ (t : PartView). SpellsSeparator t c) (some_is ampersand s e.1) (eqb-true c 38 e.0)
        | inr e ↦ absurd cc
      ]
    ]

separator_from : (cs tail : List ℕ) (x : PartView × List ℕ) → after_longest_prefix is_whitespace cs ≡ tail → separator_first tail ≡ Some x → HasCharacter (SpellsSeparator x.0) cs x.1
separator_from cs [] x here h = absurd cc
separator_from cs (c ∷ tail) x here h =
    let b = bind_some (separator_of c) (λ s. Some (s, after_longest_prefix is_whitespace tail)) x h in
    let e = some_is (b.0, after_longest_prefix is_whitespace tail) x b.2 in
    subst (λ (y : PartView × List ℕ). HasCharacter (SpellsSeparator y.0) cs y.1) e (behind_space (SpellsSeparator b.0) cs c tail (after_longest_prefix is_whitespace tail) here refl (separator_of_is c b.0 b.1))

pub separator_sound : (cs : List ℕ) (x : PartView × List ℕ) → separator_at cs ≡ Some x → HasCharacter (SpellsSeparator x.0) cs x.1
unfolding separator_at
separator_sound cs x h = separator_from cs (after_longest_prefix is_whitespace cs) x refl h

-- ---- an item

-- a text, a character with white space around it, and another text
joined : (P Q : List ℕ → Type 0) (R : ℕ → Type 0) (cs a b rest : List ℕ) (first : Begins P cs a) (mark : HasCharacter R a b) (last : Begins Q b rest) → cs ≡ (first.text ++ (mark.before ++ (mark.c ∷ (mark.after ++ last.text)))) ++ rest
joined P Q R cs a b rest first mark last =
    let tail = mark.c ∷ (mark.after ++ last.text) in
    let inner : mark.c ∷ (mark.after ++ b) ≡ tail ++ rest = ap (λ (x : List ℕ). mark.c ∷ x) (ap (λ (x : List ℕ). mark.after ++ x) last.whole ∙ sym (append_assoc mark.after last.text rest)) in
    first.whole ∙ ap (λ (x : List ℕ). first.text ++ x) (mark.whole ∙ ap (λ (x : List ℕ). mark.before ++ x) inner ∙ sym (append_assoc mark.before tail rest)) ∙ sym (append_assoc first.text (mark.before ++ tail) rest)

item_from_sound : (cs : List ℕ) (v : NumericView × List ℕ) (o : Option (List ℕ)) (x : PartView × List ℕ) → Begins (SpellsPage v.0) cs v.1 → mark_at v.1 ≡ o → item_from v o ≡ Some x → Begins (SpellsItem x.0) cs x.1
unfolding item_from
item_from_sound cs v None x page mark h = subst (λ (y : PartView × List ℕ). Begins (SpellsItem y.0) cs y.1) (some_is (single v.0, v.1) x h) page
item_from_sound cs v (Some end) x page mark h =
    let b = bind_some (page_at end) (λ w. Some (range v.0 w.0, w.1)) x h in
    let last = page_sound end b.0 b.1 in
    let m = mark_sound v.1 end mark in
    subst (λ (y : PartView × List ℕ). Begins (SpellsItem y.0) cs y.1) (some_is (range v.0 b.0.0, b.0.1) x b.2) (record {
      text = page.text ++ (m.before ++ (m.c ∷ (m.after ++ last.text)));
      whole = joined (SpellsPage v.0) (SpellsPage b.0.0) (λ c. is_range_mark c ≡ true) cs v.1 end b.0.1 page m last;
      has = record { first = page.text; before = m.before; mark = m.c; after = m.after; last = last.text; whole = refl; is_mark = m.is; has_first = page.has; blank_before = m.blank_before; blank_after = m.blank_after; has_last = last.has };
    })

pub item_sound : (cs : List ℕ) (x : PartView × List ℕ) → item_at cs ≡ Some x → Begins (SpellsItem x.0) cs x.1
unfolding item_at
item_sound cs x h =
    let b = bind_some (page_at cs) (λ v. item_from v (mark_at v.1)) x h in
    item_from_sound cs b.0 (mark_at b.0.1) x (page_sound cs b.0 b.1) refl b.2

-- ---- all items

more_sound : (cs a b rest : List ℕ) (p s : PartView) (more : Parts) → Begins (SpellsItem p) cs a → HasCharacter (SpellsSeparator s) a b → Begins (SpellsParts more) b rest → Begins (SpellsParts (p ∷ s ∷ more)) cs rest
more_sound cs a b rest p s [] item sep others = absurd others.has
more_sound cs a b rest p s (q ∷ more) item sep others = record {
  text = item.text ++ (sep.before ++ (sep.c ∷ (sep.after ++ others.text)));
  whole = joined (SpellsItem p) (SpellsParts (q ∷ more)) (SpellsSeparator s) cs a b rest item sep others;
  has = (item.text, sep.before, sep.c, sep.after, others.text, refl, item.has, sep.blank_before, sep.is, sep.blank_after, others.has);
}

pub parts_sound : (k : ℕ) (cs : List ℕ) (x : Parts × List ℕ) → parts_at k cs ≡ Some x → Begins (SpellsParts x.0) cs x.1
unfolding parts_at
parts_sound zero cs x h =
    let b = bind_some (item_at cs) (λ p. Some (p.0 ∷ [], p.1)) x h in
    subst (λ (y : Parts × List ℕ). Begins (SpellsParts y.0) cs y.1) (some_is (b.0.0 ∷ [], b.0.1) x b.2) (let s = item_sound cs b.0 b.1 in record { text = s.text; whole = s.whole; has = s.has })
parts_sound (suc k) cs x h =
    let b = bind_some (item_at cs) (λ p. separator_at p.1 >>= λ s. parts_at k s.1 >>= λ more. Some (p.0 ∷ s.0 ∷ more.0, more.1)) x h in
    let d = bind_some (separator_at b.0.1) (λ s. parts_at k s.1 >>= λ more. Some (b.0.0 ∷ s.0 ∷ more.0, more.1)) x b.2 in
    let e = bind_some (parts_at k d.0.1) (λ more. Some (b.0.0 ∷ d.0.0 ∷ more.0, more.1)) x d.2 in
    subst (λ (y : Parts × List ℕ). Begins (SpellsParts y.0) cs y.1) (some_is (b.0.0 ∷ d.0.0 ∷ e.0.0, e.0.1) x e.2)
    (more_sound cs b.0.1 d.0.1 e.0.1 b.0.0 d.0.0 e.0.0 (item_sound cs b.0 b.1) (separator_sound b.0.1 d.0 d.1) (parts_sound k d.0.1 e.0 e.1))

-- if the parser reads pages, the characters spell them
pub pages_sound : (cs : List ℕ) (parts : Parts) → pages_from cs ≡ Some parts → SpellsPages parts cs
unfolding pages_from
pages_sound cs parts h =
    let b = bind_some (parts_at (count_by is_separator cs) (after_longest_prefix is_whitespace cs)) (λ p. cond (is_blank p.1) (Some p.0) None) parts h in
    let g = cond_some (is_blank b.0.1) b.0.0 parts b.2 in
    let s = parts_sound (count_by is_separator cs) (after_longest_prefix is_whitespace cs) b.0 b.1 in
    subst (λ (ps : Parts). SpellsPages ps cs) g.1 (record {
      before = longest_prefix is_whitespace cs;
      inner = s.text;
      after = b.0.1;
      whole = front_after is_whitespace cs ∙ ap (λ (y : List ℕ). longest_prefix is_whitespace cs ++ y) s.whole;
      blank_before = Only-front is_whitespace cs;
      has_parts = s.has;
      blank_after = blank_is b.0.1 g.0;
    })
