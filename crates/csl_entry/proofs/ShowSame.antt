-- Entries that show the same are of the same kinds and have the same label: the kinds and the parts
-- of a label are functions of an entry's own fields, those of its direct parents, and its `works`.
use Rattle.std.proofs.Common.{◌≡◌, ℕ, zero, suc, ◌<◌, Bool, true, false, ◌&&◌, List, [], ◌∷◌, ◌++◌, Option, Some, None, Vec, Global, map, length, option_map, if◌then◌else◌, string_bytes, refl, sym, ap, ◌∙◌, arith, rules}
use Rattle.std.specs.Prelude.{is_some, is_none, unwrap_or, option_and_then, slice_get, ◌||◌}
use Rattle.std.specs.List.{find, flat_map}
use Rattle.std.specs.Option.{option_or}
use Rattle.std.specs.Str.{bytes_eq}
use Rattle.std.proofs.lemmas.List.{map-append}
use Rattle.lit_model.specs.declared.entry.Entry.{Entry, out-Entry}
use Rattle.lit_model.specs.declared.entry_type.EntryType.TheVariants.{Video, Chapter, Scene}
use Rattle.lit_model.specs.declared.person.PersonRole.{PersonRole}
use Rattle.lit_model.specs.declared.person.PersonRole.TheVariants.{Unknown}
use Rattle.lit_model.specs.declared.person.PersonsWithRoles.{PersonsWithRoles}
use Rattle.lit_model.specs.declared.source.QualifiedUrl.{QualifiedUrl}
use Rattle.lit_model.specs.Date.{date_view}
use Rattle.lit_model.specs.Entry.{parents_of, preorder}
use Rattle.csl_common.specs.Lists.{first_some}
use Rattle.lit_model.specs.MaybeTyped.{maybe_view}
use Rattle.lit_model.specs.Numeric.{numeric_view}
use Rattle.lit_model.specs.Person.{PersonView, person_view, Role, known, unknown, RoleGroup, role_group, role_of, same_role, with_role}
use Rattle.lit_model.specs.Select.{same_type, is_among, bound_by, bound_select, parent_among, is_untitled_part, full_of}
use Rattle.lit_model.specs.Source.{Address, address_of}
use Rattle.lit_model.specs.Text.{format_string_view}
use Rattle.lit_model.specs.Work.{Own, own_of, Work, work_of, works}
use Rattle.lit_model.proofs.Depth.{EachOf, depth_of, parents_less}
use Rattle.lit_model.proofs.Prefix.{same_shown}
use Rattle.lit_model.proofs.Whole.{full_whole, full_alone, full_up}
use Rattle.csl_entry.specs.CitationLabel.{stand_in, LabelParts, label_parts, label_from, label}
use Rattle.csl_entry.specs.Creators.{ByRole, by_role, series, makers_from, creators_of}
use Rattle.csl_entry.specs.EntryDate.{date_in}
use Rattle.csl_entry.specs.EntryKind.{typing_of, typing_from}
use Rattle.csl_entry.proofs.Typings.{is_some-shown, typing_shown}

-- ---- what two entries with the same `works` share

tells : (a b : Entry) → work_of a ≡ work_of b → length (parents_of a) ≡ length (parents_of b)
tells a b = ap (λ (w : Work). w.parent_count)

same_own : (a b : Entry) → works a ≡ works b → own_of a ≡ own_of b
same_own a b h = ap (λ (w : Work). w.own) (same_shown work_of tells a b h).0

same_parents : (a b : Entry) → works a ≡ works b → map works (parents_of a) ≡ map works (parents_of b)
same_parents a b h = (same_shown work_of tells a b h).1

same_owns : (xs ys : List Entry) → map works xs ≡ map works ys → map own_of xs ≡ map own_of ys
same_owns [] [] h = refl
same_owns [] (y ∷ ys) h = cc
same_owns (x ∷ xs) [] h = cc
same_owns (x ∷ xs) (y ∷ ys) h =
    let first : works x ≡ works y = cc in
    let rest : map works xs ≡ map works ys = cc in
    λ i. same_own x y first i ∷ same_owns xs ys rest i

-- any function of these three
same_from : {X : Type 0} (f : Own → List Own → List Work → X) (a b : Entry) → works a ≡ works b → f (own_of a) (map own_of (parents_of a)) (works a) ≡ f (own_of b) (map own_of (parents_of b)) (works b)
same_from f a b h = λ i. f (same_own a b h i) (same_owns (parents_of a) (parents_of b) (same_parents a b h) i) (h i)

pub same_typing : (a b : Entry) → works a ≡ works b → typing_of a ≡ typing_of b
same_typing a b h = typing_shown a ∙ same_from (λ own parents ws. typing_from own parents) a b h ∙ sym (typing_shown b)

-- ---- the whole of an entry

is_none-shown : {A B : Type 0} (f : A → B) (o : Option A) → is_none o ≡ is_none (option_map f o)
is_none-shown f None = refl
is_none-shown f (Some x) = refl

abbrev untitled_in : Own → Bool
untitled_in own = (same_type own.entry_type Chapter || same_type own.entry_type Scene) && is_none own.title

untitled_shown : (e : Entry) → is_untitled_part e ≡ untitled_in (own_of e)
untitled_shown e = ap (λ b. (same_type (out-Entry e).entry_type Chapter || same_type (out-Entry e).entry_type Scene) && b) (is_none-shown format_string_view (out-Entry e).title)

module _ (n : ℕ) (below : (x y : Entry) → depth_of x < n → works x ≡ works y → works (full_of x) ≡ works (full_of y)) (a b : Entry) (h : works a ≡ works b) where
  whole_step : (t : Bool) (xs ys : List Entry) → is_untitled_part a ≡ t → is_untitled_part b ≡ t → parents_of a ≡ xs → parents_of b ≡ ys → map works xs ≡ map works ys → EachOf (λ y. depth_of y < n) xs → works (full_of a) ≡ works (full_of b)
  whole_step false xs ys e f j k l d = ap works (full_whole a e) ∙ h ∙ ap works (sym (full_whole b f))
  whole_step true [] [] e f j k l d = ap works (full_alone a (ap (λ ps. slice_get ps 0) j)) ∙ h ∙ ap works (sym (full_alone b (ap (λ ps. slice_get ps 0) k)))
  whole_step true [] (y ∷ ys) e f j k l d = cc
  whole_step true (x ∷ xs) [] e f j k l d = cc
  whole_step true (x ∷ xs) (y ∷ ys) e f j k l d = ap works (full_up a x e (ap (λ ps. slice_get ps 0) j)) ∙ below x y d.0 (cc) ∙ ap works (sym (full_up b y f (ap (λ ps. slice_get ps 0) k)))

whole_below : (n : ℕ) (a b : Entry) → depth_of a < n → works a ≡ works b → works (full_of a) ≡ works (full_of b)
whole_below zero a b p h = absurd (omega (arith, p))
whole_below (suc n) a b p h =
    let untitled = untitled_shown b ∙ ap untitled_in (sym (same_own a b h)) ∙ sym (untitled_shown a) in
    whole_step n (whole_below n) a b h (is_untitled_part a) (parents_of a) (parents_of b) refl untitled refl refl (same_parents a b h) (parents_less a n (omega (arith, p)))

same_whole : (a b : Entry) → works a ≡ works b → works (full_of a) ≡ works (full_of b)
same_whole a b h = whole_below (suc (depth_of a)) a b (omega arith) h

-- ---- creators

-- whether a role, as it shows, is this one
abbrev is_role : PersonRole → Role → Bool
is_role role (known r) = same_role r role
is_role (Unknown name) (unknown text) = bytes_eq text (string_bytes name)
is_role role (unknown text) = false

role_shown : (role r : PersonRole) → same_role r role ≡ is_role role (role_of r)
role_shown role r = search rules

abbrev groups_of : Option (Vec PersonsWithRoles Global) → List PersonsWithRoles
groups_of None = []
groups_of (Some v) = v.items

abbrev names_in : PersonRole → RoleGroup → List PersonView
names_in role g = if is_role role g.role then g.names else []

module _ (role : PersonRole) where
  named : (b : Bool) (g : PersonsWithRoles) → map person_view (if b then g.names.items else []) ≡ (if b then map person_view g.names.items else [])
  named true g = refl
  named false g = refl

  group_shown : (g : PersonsWithRoles) → map person_view (if same_role g.role role then g.names.items else []) ≡ names_in role (role_group g)
  group_shown g = named (same_role g.role role) g ∙ ap (λ b. if b then map person_view g.names.items else []) (role_shown role g.role)

  groups_shown : (gs : List PersonsWithRoles) → map person_view (with_role (λ r. same_role r role) gs) ≡ flat_map (names_in role) (map role_group gs)
  groups_shown [] = refl
  groups_shown (g ∷ gs) = map-append person_view (if same_role g.role role then g.names.items else []) (with_role (λ r. same_role r role) gs) ∙ (λ i. group_shown g i ++ groups_shown gs i)

  all_shown : (o : Option (Vec PersonsWithRoles Global)) → map person_view (with_role (λ r. same_role r role) (groups_of o)) ≡ flat_map (names_in role) (unwrap_or (option_map (λ v. map role_group v.items) o) [])
  all_shown None = refl
  all_shown (Some v) = groups_shown v.items

abbrev role_from : Own → ByRole
role_from own role = flat_map (names_in role) (unwrap_or own.affiliated [])

roles_shown : (e : Entry) → by_role e ≡ role_from (own_of e)
roles_shown e = λ i role. all_shown role (out-Entry e).affiliated i

optional_roles : (o : Option Entry) → option_map by_role o ≡ option_map role_from (option_map own_of o)
optional_roles None = refl
optional_roles (Some e) = ap (λ (r : ByRole). Some r) (roles_shown e)

-- the series, which is a direct parent
abbrev is_video : Own → Bool
is_video own = is_among own.entry_type (Video ∷ [])

found_step : (b : Bool) (p : Entry) (o : Option Entry) (r : Option Own) → option_map own_of o ≡ r → option_map own_of (if b then Some p else o) ≡ (if b then Some (own_of p) else r)
found_step true p o r h = refl
found_step false p o r h = h

found_shown : (ps : List Entry) → option_map own_of (find (λ p. is_among (out-Entry p).entry_type (Video ∷ [])) ps) ≡ find is_video (map own_of ps)
found_shown [] = refl
found_shown (p ∷ ps) = found_step (is_video (own_of p)) p _ _ (found_shown ps)

abbrev series_if : Option Own → Own → Bool → Option Own
series_if found own has = if is_video own && ((is_some own.issue && (is_some own.volume && true)) && has) then found else None

module _ (e : Entry) where
  selected : (b : Bool) → option_map own_of (option_and_then (λ r. bound_by r.bind r.parent e) (find (λ r. b) series)) ≡ (if b then option_map own_of (parent_among (Video ∷ []) e) else None)
  selected true = refl
  selected false = refl

  series_shown : option_map own_of (bound_select series e) ≡ (let found = find is_video (map own_of (parents_of e)) in series_if found (own_of e) (is_some found))
  series_shown =
      let has = is_some-shown own_of (parent_among (Video ∷ []) e) ∙ ap is_some (found_shown (parents_of e)) in
      let issue = is_some-shown (maybe_view numeric_view) (out-Entry e).issue in
      let volume = is_some-shown (maybe_view numeric_view) (out-Entry e).volume in
      selected (is_video (own_of e) && ((is_some (out-Entry e).issue && (is_some (out-Entry e).volume && true)) && is_some (parent_among (Video ∷ []) e))) ∙ (λ i. if is_video (own_of e) && ((issue i && (volume i && true)) && has i) then found_shown (parents_of e) i else None)

abbrev creators_from : Own → List Own → List PersonView
creators_from own parents =
    let found = find is_video parents in
    unwrap_or own.authors (unwrap_or own.editors (makers_from own.entry_type (role_from own) (option_map role_from (series_if found own (is_some found)))))

creators_shown : (e : Entry) → creators_of e ≡ creators_from (own_of e) (map own_of (parents_of e))
creators_shown e =
    let others = optional_roles (bound_select series e) ∙ ap (option_map role_from) (series_shown e) in
    λ i. unwrap_or (own_of e).authors (unwrap_or (own_of e).editors (makers_from (out-Entry e).entry_type (roles_shown e i) (others i)))

-- ---- the date

dates : (xs : List Entry) → first_some date_in xs ≡ first_some (λ (w : Work). w.own.date) (map work_of xs)
dates [] = refl
dates (x ∷ xs) = ap (option_or (date_in x)) (dates xs)

visit_step : (u o : Option QualifiedUrl) (p : Option Address) → option_and_then (λ u. u.visit_date) o ≡ option_and_then (λ a. a.visit_date) p → option_and_then (λ u. u.visit_date) (option_or u o) ≡ option_and_then (λ a. a.visit_date) (option_or (option_map address_of u) p)
visit_step None o p h = h
visit_step (Some u) o p h = refl

visits : (xs : List Entry) → option_and_then (λ u. u.visit_date) (first_some (λ x. (out-Entry x).url) xs) ≡ option_and_then (λ a. a.visit_date) (first_some (λ (w : Work). w.own.url) (map work_of xs))
visits [] = refl
visits (x ∷ xs) = visit_step (out-Entry x).url _ _ (visits xs)

-- ---- the label

abbrev parts_from : Own → List Own → List Work → LabelParts
parts_from own parents ws = record {
  creators = creators_from own parents;
  stand_in = stand_in own;
  date = option_map date_view (option_or (first_some (λ w. w.own.date) ws) (option_and_then (λ a. a.visit_date) (first_some (λ w. w.own.url) ws)));
}

parts_shown : (e : Entry) → label_parts e ≡ parts_from (own_of e) (map own_of (parents_of e)) (works e)
parts_shown e = λ i. record {
  creators = creators_shown e i;
  stand_in = stand_in (own_of e);
  date = option_map date_view (option_or (dates (preorder e) i) (visits (preorder e) i));
}

pub same_label : (n : ℕ) (a b : Entry) → works a ≡ works b → label n a ≡ label n b
same_label n a b h = ap (label_from n) (parts_shown (full_of a) ∙ same_from parts_from (full_of a) (full_of b) (same_whole a b h) ∙ sym (parts_shown (full_of b)))
