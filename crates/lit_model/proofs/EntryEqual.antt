-- `==` of two entries is true exactly if they have the same `spelled_works`.
use Rattle.std.proofs.Common.{◌≡◌, ℕ, zero, suc, ◌<◌, Bool, arith, subst, List, [], ◌∷◌, map, length, refl, sym, ap, rules, ◌∙◌}
use Rattle.std.specs.Prelude.{Option, None, Some, option_map, Vec}
use Rattle.std.specs.Bool.{Decides}
use Rattle.std.specs.Cmp.Lexicographic.{pointwise}
use Rattle.std.specs.declared.alloc.Global.{Global}
use Rattle.std.proofs.lemmas.List.{length-map}
use Rattle.lit_model.specs.declared.entry.Entry.{Entry, out-Entry}
use Rattle.lit_model.specs.declared.entry_type.EntryType.{EntryType}
use Rattle.lit_model.specs.declared.date.Date.{Date}
use Rattle.lit_model.specs.declared.source.QualifiedUrl.{QualifiedUrl}
use Rattle.lit_model.specs.declared.person.Person.{Person}
use Rattle.lit_model.specs.declared.person.PersonsWithRoles.{PersonsWithRoles}
use Rattle.lit_model.specs.declared.maybe_typed.MaybeTyped.{MaybeTyped}
use Rattle.lit_model.specs.declared.numeric.Numeric.{Numeric}
use Rattle.lit_model.specs.declared.page.PageRanges.{PageRanges}
use Rattle.lit_model.specs.contracts.date.DatePartialEq.TheImpl.{eq-value as eq_date}
use Rattle.lit_model.specs.contracts.entry.EntryPartialEq.TheImpl.{eq-value as eq_entry}
use Rattle.lit_model.specs.contracts.entry_type.EntryTypePartialEq.TheImpl.{eq-value as eq_type}
use Rattle.lit_model.specs.contracts.maybe_typed.MaybeTypedPartialEq.TheImpl.{no_dict}
use Rattle.lit_model.specs.contracts.numeric.Numeric as of_numeric
use Rattle.lit_model.specs.contracts.numeric.NumericPartialEq.TheImpl.{eq-value as eq_numeric}
use Rattle.lit_model.specs.contracts.numeric.NumericPartialEq.TheImpl as of_numeric_eq
use Rattle.lit_model.specs.contracts.page.PageRanges as of_pages
use Rattle.lit_model.specs.contracts.page.PageRangesPartialEq.TheImpl as of_pages_eq
use Rattle.lit_model.specs.contracts.person.PersonPartialEq.TheImpl.{eq-value as eq_person}
use Rattle.lit_model.specs.contracts.person.PersonsWithRolesPartialEq.TheImpl.{eq-value as eq_group}
use Rattle.lit_model.specs.contracts.source.LanguageIdentifierPartialEq.TheImpl.{eq-value as eq_language}
use Rattle.lit_model.specs.contracts.source.PublisherPartialEq.TheImpl.{eq-value as eq_press}
use Rattle.lit_model.specs.contracts.source.QualifiedUrlPartialEq.TheImpl.{eq-value as eq_url}
use Rattle.lit_model.specs.contracts.source.SerialNumberPartialEq.TheImpl.{eq-value as eq_serials}
use Rattle.lit_model.specs.contracts.text.FormatStringPartialEq.TheImpl.{eq-value as eq_forms}
use Rattle.lit_model.specs.Date.{date_view}
use Rattle.lit_model.specs.Entry.{parents_of, preorder}
use Rattle.url.specs.Parts.{serialize}
use Rattle.lit_model.specs.MaybeTyped.{maybe_view}
use Rattle.lit_model.specs.Numeric.{numeric_view}
use Rattle.lit_model.specs.Page.{pages_view}
use Rattle.lit_model.specs.Person.{person_view, role_group}
use Rattle.lit_model.specs.Source.{Address, address_of, AddressText, address_text, press_of, serials, language_of}
use Rattle.lit_model.specs.Text.{format_string_view}
use Rattle.lit_model.specs.Work.{own_of, Work, work_of, works, Spelled, spelled_of, spelled_works}
use Rattle.lit_model.proofs.ByValue.{both, through, option_view, option_same, text_decides}
use Rattle.lit_model.proofs.Depth.{EachOf, depth_of, parents_less}
use Rattle.lit_model.proofs.EntryStep.{same_persons, same_groups, same_maybe_number, same_maybe_pages, eq_out}
use Rattle.lit_model.proofs.MaybeEqual.{maybe_decides, pages_decide}
use Rattle.lit_model.proofs.PageEqual.{numeric_decides, pointwise_view}
use Rattle.lit_model.proofs.PersonEqual.{person_decides, group_decides}
use Rattle.lit_model.proofs.Prefix.{shown_same, same_shown}
use Rattle.lit_model.proofs.SourceEqual.{press_decides, serials_decide, language_decides, url_decides, date_decides, same_date}
use Rattle.lit_model.proofs.TextEqual.{forms_decide}

types_decide : (a b : EntryType) → Decides (eq_type.it a b) (a ≡ b)
types_decide a b = search rules

dates_same : (a b : Date) → Decides (eq_date.it a b) (a ≡ b)
dates_same a b = through _ (date_decides a b) (same_date a b) (ap date_view)

persons_decide : (v w : Vec Person Global) → Decides (same_persons v w) (map person_view v.items ≡ map person_view w.items)
persons_decide v w = pointwise_view eq_person.it person_view person_decides v.items w.items

groups_decide : (v w : Vec PersonsWithRoles Global) → Decides (same_groups v w) (map role_group v.items ≡ map role_group w.items)
groups_decide v w = pointwise_view eq_group.it role_group group_decides v.items w.items

maybe_number_decides : (x y : MaybeTyped Numeric) → Decides (same_maybe_number x y) (maybe_view numeric_view x ≡ maybe_view numeric_view y)
maybe_number_decides = maybe_decides of_numeric.the_row of_numeric_eq.ghosts no_dict numeric_view numeric_decides

maybe_pages_decide : (x y : MaybeTyped PageRanges) → Decides (same_maybe_pages x y) (maybe_view pages_view x ≡ maybe_view pages_view y)
maybe_pages_decide = maybe_decides of_pages.the_row of_pages_eq.ghosts no_dict pages_view pages_decide

url_text_decides : (a b : QualifiedUrl) → Decides (eq_url.it a b) (address_text a ≡ address_text b)
url_text_decides a b = through _ (url_decides a b)
    (λ h. λ i. record { text = h.0 i; visit_date = h.1 i })
    (λ h. (ap (λ (u : AddressText). u.text) h, ap (λ (u : AddressText). u.visit_date) h))

tells : (a b : Entry) → spelled_of a ≡ spelled_of b → length (parents_of a) ≡ length (parents_of b)
tells a b = ap (λ (s : Spelled). s.parent_count)

same_count : (xs ys : List Entry) → map spelled_works xs ≡ map spelled_works ys → length xs ≡ length ys
same_count xs ys h = simp length-map at (ap length h)

-- if `==` decides equal `spelled_works` for the parents of two entries, it does for the entries
one_level : (a b : Entry) → Decides (pointwise eq_entry.it (parents_of a) (parents_of b)) (map spelled_works (parents_of a) ≡ map spelled_works (parents_of b)) → Decides (eq_entry.it a b) (spelled_works a ≡ spelled_works b)
one_level a b parents = subst (λ q. Decides q (spelled_works a ≡ spelled_works b)) (sym (eq_out a b)) (through _
    (both _ _ (text_decides (out-Entry a).key (out-Entry b).key)
    (both _ _ (types_decide (out-Entry a).entry_type (out-Entry b).entry_type)
    (both _ _ (option_view eq_forms.it format_string_view forms_decide (out-Entry a).title (out-Entry b).title)
    (both _ _ (option_view same_persons (λ v. map person_view v.items) persons_decide (out-Entry a).authors (out-Entry b).authors)
    (both _ _ (option_view same_persons (λ v. map person_view v.items) persons_decide (out-Entry a).editors (out-Entry b).editors)
    (both _ _ (option_same eq_date.it dates_same (out-Entry a).date (out-Entry b).date)
    (both _ _ (option_view eq_url.it address_text url_text_decides (out-Entry a).url (out-Entry b).url)
    (both _ _ (option_view same_groups (λ v. map role_group v.items) groups_decide (out-Entry a).affiliated (out-Entry b).affiliated)
    (both _ _ (option_view eq_press.it press_of press_decides (out-Entry a).publisher (out-Entry b).publisher)
    (both _ _ (option_view eq_forms.it format_string_view forms_decide (out-Entry a).location (out-Entry b).location)
    (both _ _ (option_view eq_forms.it format_string_view forms_decide (out-Entry a).organization (out-Entry b).organization)
    (both _ _ (option_view same_maybe_number (maybe_view numeric_view) maybe_number_decides (out-Entry a).issue (out-Entry b).issue)
    (both _ _ (option_view same_maybe_number (maybe_view numeric_view) maybe_number_decides (out-Entry a).volume (out-Entry b).volume)
    (both _ _ (option_view same_maybe_number (maybe_view numeric_view) maybe_number_decides (out-Entry a).edition (out-Entry b).edition)
    (both _ _ (option_view same_maybe_number (maybe_view numeric_view) maybe_number_decides (out-Entry a).chapter (out-Entry b).chapter)
    (both _ _ (option_view eq_numeric.it numeric_view numeric_decides (out-Entry a).volume_total (out-Entry b).volume_total)
    (both _ _ (option_view eq_numeric.it numeric_view numeric_decides (out-Entry a).page_total (out-Entry b).page_total)
    (both _ _ (option_view same_maybe_pages (maybe_view pages_view) maybe_pages_decide (out-Entry a).page_range (out-Entry b).page_range)
    (both _ _ (option_view eq_forms.it format_string_view forms_decide (out-Entry a).runtime (out-Entry b).runtime)
    (both _ _ (option_view eq_serials.it serials serials_decide (out-Entry a).serial_number (out-Entry b).serial_number)
    (both _ _ (option_view eq_language.it language_of language_decides (out-Entry a).language (out-Entry b).language)
    (both _ _ (option_view eq_forms.it format_string_view forms_decide (out-Entry a).archive (out-Entry b).archive)
    (both _ _ (option_view eq_forms.it format_string_view forms_decide (out-Entry a).archive_location (out-Entry b).archive_location)
    (both _ _ (option_view eq_forms.it format_string_view forms_decide (out-Entry a).call_number (out-Entry b).call_number)
    (both _ _ (option_view eq_forms.it format_string_view forms_decide (out-Entry a).note (out-Entry b).note)
    (both _ _ (option_view eq_forms.it format_string_view forms_decide (out-Entry a).abstract_ (out-Entry b).abstract_)
    (both _ _ (option_view eq_forms.it format_string_view forms_decide (out-Entry a).genre (out-Entry b).genre)
    (parents))))))))))))))))))))))))))))
    (λ h.
    let count = same_count (parents_of a) (parents_of b) h.1.1.1.1.1.1.1.1.1.1.1.1.1.1.1.1.1.1.1.1.1.1.1.1.1.1.1 in
    shown_same spelled_of tells a b (λ i. record {
      own = record {
        key = h.0 i;
        entry_type = h.1.0 i;
        title = h.1.1.0 i;
        authors = h.1.1.1.0 i;
        editors = h.1.1.1.1.0 i;
        date = h.1.1.1.1.1.0 i;
        url = None;
        affiliated = h.1.1.1.1.1.1.1.0 i;
        publisher = h.1.1.1.1.1.1.1.1.0 i;
        location = h.1.1.1.1.1.1.1.1.1.0 i;
        organization = h.1.1.1.1.1.1.1.1.1.1.0 i;
        issue = h.1.1.1.1.1.1.1.1.1.1.1.0 i;
        volume = h.1.1.1.1.1.1.1.1.1.1.1.1.0 i;
        edition = h.1.1.1.1.1.1.1.1.1.1.1.1.1.0 i;
        chapter = h.1.1.1.1.1.1.1.1.1.1.1.1.1.1.0 i;
        volume_total = h.1.1.1.1.1.1.1.1.1.1.1.1.1.1.1.0 i;
        page_total = h.1.1.1.1.1.1.1.1.1.1.1.1.1.1.1.1.0 i;
        page_range = h.1.1.1.1.1.1.1.1.1.1.1.1.1.1.1.1.1.0 i;
        runtime = h.1.1.1.1.1.1.1.1.1.1.1.1.1.1.1.1.1.1.0 i;
        serial_number = h.1.1.1.1.1.1.1.1.1.1.1.1.1.1.1.1.1.1.1.0 i;
        language = h.1.1.1.1.1.1.1.1.1.1.1.1.1.1.1.1.1.1.1.1.0 i;
        archive = h.1.1.1.1.1.1.1.1.1.1.1.1.1.1.1.1.1.1.1.1.1.0 i;
        archive_location = h.1.1.1.1.1.1.1.1.1.1.1.1.1.1.1.1.1.1.1.1.1.1.0 i;
        call_number = h.1.1.1.1.1.1.1.1.1.1.1.1.1.1.1.1.1.1.1.1.1.1.1.0 i;
        note = h.1.1.1.1.1.1.1.1.1.1.1.1.1.1.1.1.1.1.1.1.1.1.1.1.0 i;
        abstract_ = h.1.1.1.1.1.1.1.1.1.1.1.1.1.1.1.1.1.1.1.1.1.1.1.1.1.0 i;
        genre = h.1.1.1.1.1.1.1.1.1.1.1.1.1.1.1.1.1.1.1.1.1.1.1.1.1.1.0 i;
      };
      address = h.1.1.1.1.1.1.0 i;
      parent_count = count i;
    }) h.1.1.1.1.1.1.1.1.1.1.1.1.1.1.1.1.1.1.1.1.1.1.1.1.1.1.1)
    (λ h.
    let same = same_shown spelled_of tells a b h in
    let own = same.0 in
    let parents = same.1 in (
      ap (λ (s : Spelled). s.own.key) own,
      (
        ap (λ (s : Spelled). s.own.entry_type) own,
        (
          ap (λ (s : Spelled). s.own.title) own,
          (
            ap (λ (s : Spelled). s.own.authors) own,
            (
              ap (λ (s : Spelled). s.own.editors) own,
              (
                ap (λ (s : Spelled). s.own.date) own,
                (
                  ap (λ (s : Spelled). s.address) own,
                  (
                    ap (λ (s : Spelled). s.own.affiliated) own,
                    (
                      ap (λ (s : Spelled). s.own.publisher) own,
                      (
                        ap (λ (s : Spelled). s.own.location) own,
                        (
                          ap (λ (s : Spelled). s.own.organization) own,
                          (
                            ap (λ (s : Spelled). s.own.issue) own,
                            (
                              ap (λ (s : Spelled). s.own.volume) own,
                              (
                                ap (λ (s : Spelled). s.own.edition) own,
                                (
                                  ap (λ (s : Spelled). s.own.chapter) own,
                                  (
                                    ap (λ (s : Spelled). s.own.volume_total) own,
                                    (
                                      ap (λ (s : Spelled). s.own.page_total) own,
                                      (
                                        ap (λ (s : Spelled). s.own.page_range) own,
                                        (
                                          ap (λ (s : Spelled). s.own.runtime) own,
                                          (
                                            ap (λ (s : Spelled). s.own.serial_number) own,
                                            (
                                              ap (λ (s : Spelled). s.own.language) own,
                                              (
                                                ap (λ (s : Spelled). s.own.archive) own,
                                                (
                                                  ap (λ (s : Spelled). s.own.archive_location) own,
                                                  (
                                                    ap (λ (s : Spelled). s.own.call_number) own,
                                                    (
                                                      ap (λ (s : Spelled). s.own.note) own,
                                                      (
                                                        ap (λ (s : Spelled). s.own.abstract_) own,
                                                        (
                                                          ap (λ (s : Spelled). s.own.genre) own,
                                                          parents,
                                                        ),
                                                      ),
                                                    ),
                                                  ),
                                                ),
                                              ),
                                            ),
                                          ),
                                        ),
                                      ),
                                    ),
                                  ),
                                ),
                              ),
                            ),
                          ),
                        ),
                      ),
                    ),
                  ),
                ),
              ),
            ),
          ),
        ),
      ),
    )))

lists_decide : {A B : Type 0} (E : A → A → Bool) (v : A → B) (P : A → Type 0) → ((x y : A) → P x → Decides (E x y) (v x ≡ v y)) → (xs ys : List A) → EachOf P xs → Decides (pointwise E xs ys) (map v xs ≡ map v ys)
lists_decide E v P d [] [] p = (λ h. refl, λ h. refl)
lists_decide E v P d [] (y ∷ ys) p = ((λ h. cc), λ h. cc)
lists_decide E v P d (x ∷ xs) [] p = ((λ h. cc), λ h. cc)
lists_decide E v P d (x ∷ xs) (y ∷ ys) p = through _ (both _ _ (d x y p.0) (lists_decide E v P d xs ys p.1))
    (λ h. λ i. h.0 i ∷ h.1 i)
    (λ h. (cc, cc))

-- it does for two entries if the first has a depth less than n
decides_below : (n : ℕ) (a b : Entry) → depth_of a < n → Decides (eq_entry.it a b) (spelled_works a ≡ spelled_works b)
decides_below zero a b p = absurd (omega (arith, p))
decides_below (suc n) a b p = one_level a b (lists_decide eq_entry.it spelled_works (λ y. depth_of y < n) (decides_below n) (parents_of a) (parents_of b) (parents_less a n (omega (arith, p))))

pub entries_decide : (a b : Entry) → Decides (eq_entry.it a b) (spelled_works a ≡ spelled_works b)
entries_decide a b = decides_below (suc (depth_of a)) a b (omega arith)

-- ---- entries with the same `works` have the same `spelled_works`

spell : Address → AddressText
spell u = record { text = serialize u.value; visit_date = option_map date_view u.visit_date }

spell_optional : (u : Option QualifiedUrl) → option_map spell (option_map address_of u) ≡ option_map address_text u
unfolding spell
spell_optional None = refl
spell_optional (Some u) = refl

abbrev spelled_by : Work → Spelled
spelled_by w = record { own = record w.own { url = None }; address = option_map spell w.own.url; parent_count = w.parent_count }

spelled_as : (e : Entry) → spelled_by (work_of e) ≡ spelled_of e
spelled_as e = ap (λ (t : Option AddressText). let s : Spelled = record { own = record (own_of e) { url = None }; address = t; parent_count = length (parents_of e) } in s) (spell_optional (out-Entry e).url)

each_spelled : (es : List Entry) → map spelled_by (map work_of es) ≡ map spelled_of es
each_spelled [] = refl
each_spelled (e ∷ es) = λ i. spelled_as e i ∷ each_spelled es i

pub shown_spelled : (a b : Entry) → works a ≡ works b → spelled_works a ≡ spelled_works b
shown_spelled a b h = sym (each_spelled (preorder a)) ∙ ap (map spelled_by) h ∙ each_spelled (preorder b)
