-- The map of the places of terms, one entry at a time from the last to the first.
use Rattle.std.proofs.Common.{◌≡◌, ℕ, ◌+◌, ◌<◌, List, ◌∷◌, length, drop, get_or, map, find, Bool, true, false, cond, ◌&&◌, Option, Some, None, option_map, refl, sym, ap, ◌∙◌, subst, vec_len, arith, if◌then◌else◌}
use Rattle.std.specs.Option.{option_or, option_and_then}
use Rattle.std.specs.List.{slice_get}
use Rattle.std.proofs.lemmas.List.{drop_more}
use Rattle.std.proofs.lemmas.Option.{none-some, same_Some, slice_get_read, slice_get_within, get_or_from_slice_get}
use denote.Enum.Bare.{sameb}
use Rattle.csl_common.specs.Lists.{first_some}
use Rattle.csl_common.specs.declared.ordinal.GrammarGender.{GrammarGender}
use Rattle.csl_elements.specs.contracts.term.TermForm.{the_type}
use Rattle.csl_elements.specs.declared.locale.Locale.{Locale}
use Rattle.csl_elements.specs.declared.locale.TermEntry.{TermEntry}
use Rattle.csl_elements.specs.declared.term.Term.{Term}
use Rattle.csl_elements.specs.declared.term.TermForm.{TermForm}
use Rattle.csl_elements.specs.declared.term.TermForm.TheVariants.{Long}
use Rattle.csl_elements.specs.Locale.{TermView, term_view}
use Rattle.csl_elements.specs.Term.{same_term, is_term, long_gender}
use Rattle.csl_style.specs.declared.term_places.TermPlace.{TermPlace}
use Rattle.csl_style.specs.TermPlaces.{entry_at, same_key}

-- the list of the terms from a row on, where the row's entry is known
from_row : (es : List TermEntry) (row next : ℕ) (e : TermEntry) → row < length es → next ≡ row + 1 → e ≡ get_or es row e → drop row es ≡ e ∷ drop next es
from_row es row next e within n is = drop_more es row e within ∙ ap (λ x. x ∷ drop (row + 1) es) (sym is) ∙ ap (λ k. e ∷ drop k es) (sym n)

-- a term of which this is an entry has its place, and any other the place that it had
entry-cases : (ls : List Locale) (p : TermPlace) (t : TermView) → entry_at ls p ≡ Some t → (b : Bool) (old : Option TermPlace) (rest later : Option TermView)
    → option_map (entry_at ls) old ≡ option_map Some (option_or rest later)
    → option_map (entry_at ls) (cond b (Some p) old) ≡ option_map Some (option_or (cond b (Some t) rest) later)
entry-cases ls p t at true old rest later h = ap Some at
entry-cases ls p t at false old rest later h = h

-- the entry at a place of the list
entry-read : (ls : List Locale) (p : TermPlace) (l : Locale) (e : TermEntry) → slice_get ls p.locale ≡ Some l → slice_get l.terms.items p.row ≡ Some e → entry_at ls p ≡ Some (term_view e)
entry-read ls p l e in-list in-terms = ap (λ o. option_map term_view (option_and_then (λ (x : Locale). slice_get x.terms.items p.row) o)) in-list ∙ ap (option_map term_view) in-terms

pub with_entry : (ls : List Locale) (p : TermPlace) (l : Locale) (e : TermEntry) (next : ℕ)
    → p.locale < length ls → l ≡ get_or ls p.locale l → p.row < length l.terms.items → next ≡ p.row + 1 → e ≡ get_or l.terms.items p.row e
    → (term : Term) (form : TermForm) (new old : Option TermPlace) (later : Option TermView)
    → new ≡ cond (same_key (e.term, e.form) (term, form)) (Some p) old
    → option_map (entry_at ls) old ≡ option_map Some (option_or (find (is_term term form) (map term_view (drop next l.terms.items))) later)
    → option_map (entry_at ls) new ≡ option_map Some (option_or (find (is_term term form) (map term_view (drop p.row l.terms.items))) later)
with_entry ls p l e next in-list is-l in-terms n is-e term form new old later put h =
    let at = entry-read ls p l e (slice_get_read ls (length ls) p.locale l refl in-list is-l) (slice_get_read l.terms.items (length l.terms.items) p.row e refl in-terms is-e) in
    ap (option_map (entry_at ls)) put
    ∙ entry-cases ls p (term_view e) at (same_key (e.term, e.form) (term, form)) old (find (is_term term form) (map term_view (drop next l.terms.items))) later h
    ∙ ap (λ es. option_map Some (option_or (find (is_term term form) (map term_view es)) later)) (sym (from_row l.terms.items p.row next e in-terms n is-e))

-- where a look-up finds a place, it is that of an entry
pub record IsPlaceOf (ls : List Locale) (p : TermPlace) (f : Option TermView) : Type 0 where
  pub locale : Locale
  pub entry : TermEntry
  pub in-list : slice_get ls p.locale ≡ Some locale
  pub in-terms : slice_get locale.terms.items p.row ≡ Some entry
  pub viewed : Some (term_view entry) ≡ f

row-cases : (ls : List Locale) (p : TermPlace) (t : TermView) (l : Locale) → slice_get ls p.locale ≡ Some l → (o : Option TermEntry) → slice_get l.terms.items p.row ≡ o
    → option_map term_view o ≡ Some t → IsPlaceOf ls p (Some t)
row-cases ls p t l in-list None is h = absurd (none-some t h)
row-cases ls p t l in-list (Some e) is h = record { locale = l; entry = e; in-list = in-list; in-terms = is; viewed = h }

locale-cases : (ls : List Locale) (p : TermPlace) (t : TermView) (o : Option Locale) → slice_get ls p.locale ≡ o
    → option_map term_view (option_and_then (λ (l : Locale). slice_get l.terms.items p.row) o) ≡ Some t → IsPlaceOf ls p (Some t)
locale-cases ls p t None is h = absurd (none-some t h)
locale-cases ls p t (Some l) is h = row-cases ls p t l is (slice_get l.terms.items p.row) refl h

pub place-of : (ls : List Locale) (p : TermPlace) (o : Option TermPlace) (f : Option TermView) → option_map (entry_at ls) o ≡ option_map Some f → Some p ≡ o → IsPlaceOf ls p f
place-of ls p o None is h = absurd (none-some (entry_at ls p) (sym is ∙ ap (option_map (entry_at ls)) (sym h)))
place-of ls p o (Some t) is h = locale-cases ls p t (slice_get ls p.locale) refl (same_Some (entry_at ls p) (Some t) (ap (option_map (entry_at ls)) h ∙ is))

pub no-place-of : (ls : List Locale) (o : Option TermPlace) (f : Option TermView) → option_map (entry_at ls) o ≡ option_map Some f → None ≡ o → None ≡ f
no-place-of ls o None is h = refl
no-place-of ls o (Some t) is h = absurd (none-some (Some t) (ap (option_map (entry_at ls)) h ∙ is))

module _ (ls : List Locale) (p : TermPlace) (f : Option TermView) (at : IsPlaceOf ls p f) where
  pub in-list-of : p.locale < length ls
  in-list-of = slice_get_within ls p.locale at.locale at.in-list

  pub locale-of : (d : Locale) → get_or ls p.locale d ≡ at.locale
  locale-of d = get_or_from_slice_get ls p.locale at.locale d at.in-list

  pub in-terms-of : (d : Locale) → p.row < vec_len (get_or ls p.locale d).terms
  in-terms-of d =
      let within = slice_get_within at.locale.terms.items p.row at.entry at.in-terms in
      let here : p.row < vec_len at.locale.terms = omega (arith, within, at.locale.terms.ok.0) in
      subst (λ (l : Locale). p.row < vec_len l.terms) (sym (locale-of d)) here

  pub entry-of : (d : Locale) (e : TermEntry) → e ≡ get_or (get_or ls p.locale d).terms.items p.row e → Some (term_view e) ≡ f
  entry-of d e is =
      let same : e ≡ at.entry = is ∙ ap (λ (l : Locale). get_or l.terms.items p.row e) (locale-of d) ∙ get_or_from_slice_get at.locale.terms.items p.row at.entry e at.in-terms in
      ap (λ x. Some (term_view x)) same ∙ at.viewed

-- the gender of a long entry that has one comes before the genders that are there, and no other entry changes them
gender-cases : (b : Bool) (g : GrammarGender) (old rest later : Option GrammarGender) → old ≡ option_or rest later
    → cond b (Some g) old ≡ option_or (option_or (if b && true then Some g else None) rest) later
gender-cases true g old rest later h = refl
gender-cases false g old rest later h = h

other-cases : (b long : Bool) (g rest later : Option GrammarGender) (old : Option GrammarGender) → (long ≡ true → g ≡ None) → old ≡ option_or rest later
    → old ≡ option_or (option_or (if b && long then g else None) rest) later
other-cases false long g rest later old none h = h
other-cases true false g rest later old none h = h
other-cases true true g rest later old none h = h ∙ ap (λ o. option_or (option_or o rest) later) (sym (none refl))

module _ (es : List TermEntry) (row next : ℕ) (e : TermEntry) (within : row < length es) (n : next ≡ row + 1) (is : e ≡ get_or es row e) (term : Term) (old later : Option GrammarGender) (h : old ≡ option_or (first_some (long_gender term) (map term_view (drop next es))) later) where
  pub with_gender : (g : GrammarGender) (new : Option GrammarGender) → sameb the_type e.form Long ≡ true → e.gender ≡ Some g → new ≡ cond (same_term e.term term) (Some g) old
      → new ≡ option_or (first_some (long_gender term) (map term_view (drop row es))) later
  with_gender g new long has put =
      put ∙ gender-cases (same_term e.term term) g old (first_some (long_gender term) (map term_view (drop next es))) later h
      ∙ ap (λ o. option_or (option_or (if same_term e.term term && true then o else None) (first_some (long_gender term) (map term_view (drop next es)))) later) (sym has)
      ∙ ap (λ b. option_or (option_or (if same_term e.term term && b then e.gender else None) (first_some (long_gender term) (map term_view (drop next es)))) later) (sym long)
      ∙ ap (λ xs. option_or (first_some (long_gender term) (map term_view xs)) later) (sym (from_row es row next e within n is))

  pub without_gender : (sameb the_type e.form Long ≡ true → e.gender ≡ None) → old ≡ option_or (first_some (long_gender term) (map term_view (drop row es))) later
  without_gender none =
      other-cases (same_term e.term term) (sameb the_type e.form Long) e.gender (first_some (long_gender term) (map term_view (drop next es))) later old none h
      ∙ ap (λ xs. option_or (first_some (long_gender term) (map term_view xs)) later) (sym (from_row es row next e within n is))
