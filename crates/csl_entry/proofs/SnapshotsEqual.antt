-- `==` of snapshots compares what they keep.
use Rattle.std.proofs.Common.{◌≡◌, Bool, false, List, Vec, Global, map, ap, ◌∙◌, sym, refl, subst}
use Rattle.std.specs.Prelude.{◌&&◌}
use Rattle.std.specs.Bool.{Decides}
use Rattle.std.specs.Cmp.Lexicographic.{pointwise}
use Rattle.std.proofs.lemmas.Slice.Eq.{slice_eq-Decides}
use Rattle.lit_model.specs.Date.{date_view}
use Rattle.lit_model.specs.MaybeTyped.{maybe_view}
use Rattle.lit_model.specs.Numeric.{numeric_view}
use Rattle.lit_model.specs.Page.{pages_view}
use Rattle.lit_model.specs.Person.{person_view}
use Rattle.lit_model.specs.Text.{chunks}
use Rattle.lit_model.specs.declared.maybe_typed.MaybeTyped.{MaybeTyped}
use Rattle.lit_model.specs.declared.numeric.Numeric.{Numeric}
use Rattle.lit_model.specs.declared.person.Person.{Person}
use Rattle.lit_model.specs.contracts.numeric.Numeric.{the_row as numeric_row}
use Rattle.lit_model.specs.contracts.numeric.NumericPartialEq.TheImpl.{ghosts as numeric_ghosts}
use Rattle.lit_model.specs.contracts.maybe_typed.MaybeTypedPartialEq.TheImpl.{eq-value as eq_maybe, no_dict}
use Rattle.lit_model.specs.contracts.page.PageRanges.{the_row as pages_row}
use Rattle.lit_model.specs.contracts.page.PageRangesPartialEq.TheImpl.{ghosts as pages_ghosts}
use Rattle.lit_model.specs.contracts.person.PersonPartialEq.TheImpl.{eq-value as eq_person}
use Rattle.lit_model.specs.contracts.text.ChunkedStringPartialEq.TheImpl.{eq-value as eq_chunks}
use Rattle.lit_model.specs.contracts.date.DatePartialEq.TheImpl.{eq-value as eq_date}
use Rattle.lit_model.proofs.ByValue.{both, through}
use Rattle.lit_model.proofs.MaybeEqual.{maybe_decides}
use Rattle.lit_model.proofs.PageEqual.{numeric_decides, pointwise_view}
use Rattle.lit_model.proofs.PersonEqual.{person_decides}
use Rattle.lit_model.proofs.SourceEqual.{date_decides}
use Rattle.lit_model.proofs.TextEqual.{chunks_decide}
use Rattle.csl_elements.specs.declared.taxonomy.Kind.{Kind}
use Rattle.csl_elements.proofs.Variables.{number_decides, page_decides, standard_decides, name_decides, date_decides as of_date_decides}
use Rattle.csl_elements.specs.contracts.taxonomy.NumberVariablePartialEq.TheImpl.{eq-value as eq_of_number}
use Rattle.csl_elements.specs.contracts.taxonomy.PageVariablePartialEq.TheImpl.{eq-value as eq_of_page}
use Rattle.csl_elements.specs.contracts.taxonomy.StandardVariablePartialEq.TheImpl.{eq-value as eq_of_standard}
use Rattle.csl_elements.specs.contracts.taxonomy.NameVariablePartialEq.TheImpl.{eq-value as eq_of_name}
use Rattle.csl_elements.specs.contracts.taxonomy.DateVariablePartialEq.TheImpl.{eq-value as eq_of_date}
use Rattle.csl_elements.specs.contracts.taxonomy.KindPartialEq.TheImpl.{eq-value as eq_kind}
use Rattle.csl_elements.specs.declared.named.Named.{Named}
use Rattle.csl_elements.specs.NamedSet.{NamedItem, named_set}
use Rattle.csl_entry.specs.Alike.{SameAnswer, SameNamedAnswers}
use Rattle.csl_entry.specs.Answers.{Answers}
use Rattle.csl_entry.specs.Snapshot.{Kept, keyed, kept_of, snapshot_of, kept_in, snapshot_answers, no_answers}
use Rattle.csl_entry.specs.declared.snapshot.Snapshot.{Snapshot}
use Rattle.csl_entry.specs.contracts.snapshot.SnapshotPartialEq.TheImpl.{eq-value as eq_snapshot}
use Rattle.csl_entry.proofs.Kept.{alike_of, silent_of, kind_decides, same_snapshot, same_named}
use Rattle.csl_entry.proofs.ResultEqual.{pages_or_text}

-- pairs are equal if their keys and their values are
pairs_decide : {K V W : Type 0} (E : K → K → Bool) (F : V → V → Bool) (view : V → W) → ((a b : K) → Decides (E a b) (a ≡ b)) → ((x y : V) → Decides (F x y) (view x ≡ view y)) → (ps qs : List (K × V)) → Decides (pointwise (λ p q. E p.0 q.0 && F p.1 q.1) ps qs) (map (keyed view) ps ≡ map (keyed view) qs)
pairs_decide E F view d e = pointwise_view (λ p q. E p.0 q.0 && F p.1 q.1) (keyed view) (λ p q. through _ (both _ _ (d p.0 q.0) (e p.1 q.1)) (λ h. λ i. (h.0 i, h.1 i)) (λ h. (ap (λ x. x.0) h, ap (λ x. x.1) h)))

persons_decide : (x y : Vec Person Global) → Decides (pointwise eq_person.it x.items y.items) (map person_view x.items ≡ map person_view y.items)
persons_decide x y = pointwise_view eq_person.it person_view person_decides x.items y.items

number_or_text : (x y : MaybeTyped Numeric) → Decides ((eq_maybe numeric_row numeric_ghosts no_dict).it x y) (maybe_view numeric_view x ≡ maybe_view numeric_view y)
number_or_text x y = maybe_decides numeric_row numeric_ghosts no_dict numeric_view numeric_decides x y

kinds_decide : (xs ys : List Kind) → Decides (pointwise eq_kind.it xs ys) (xs ≡ ys)
kinds_decide xs ys = slice_eq-Decides kind_decides xs ys _ refl

pub snapshots_decide : (s t : Snapshot) → Decides (eq_snapshot.it s t) (kept_of s ≡ kept_of t)
snapshots_decide s t = through _
    (both _ _ (pairs_decide eq_of_number.it (eq_maybe numeric_row numeric_ghosts no_dict).it (maybe_view numeric_view) number_decides number_or_text s.numbers.items t.numbers.items)
    (both _ _ (pairs_decide eq_of_page.it (eq_maybe pages_row pages_ghosts no_dict).it (maybe_view pages_view) page_decides pages_or_text s.pages.items t.pages.items)
    (both _ _ (pairs_decide eq_of_standard.it eq_chunks.it chunks standard_decides chunks_decide s.long_texts.items t.long_texts.items)
    (both _ _ (pairs_decide eq_of_standard.it eq_chunks.it chunks standard_decides chunks_decide s.short_texts.items t.short_texts.items)
    (both _ _ (pairs_decide eq_of_name.it (λ x y. pointwise eq_person.it x.items y.items) (λ persons. map person_view persons.items) name_decides persons_decide s.names.items t.names.items)
    (both _ _ (pairs_decide eq_of_date.it eq_date.it date_view of_date_decides date_decides s.dates.items t.dates.items)
    (kinds_decide s.kinds.items t.kinds.items)))))))
    (λ h. λ i. record { numbers = h.0 i; pages = h.1.0 i; long_texts = h.1.1.0 i; short_texts = h.1.1.1.0 i; names = h.1.1.1.1.0 i; dates = h.1.1.1.1.1.0 i; kinds = h.1.1.1.1.1.1 i })
    (λ h. (ap (λ (k : Kept). k.numbers) h, (ap (λ (k : Kept). k.pages) h, (ap (λ (k : Kept). k.long_texts) h, (ap (λ (k : Kept). k.short_texts) h, (ap (λ (k : Kept). k.names) h, (ap (λ (k : Kept). k.dates) h, ap (λ (k : Kept). k.kinds) h)))))))

pub equal_if_alike : (n : Named) (a b : Answers) (s t : Snapshot) → kept_of s ≡ snapshot_of n a → kept_of t ≡ snapshot_of n b → Decides (eq_snapshot.it s t) (SameNamedAnswers (named_set n) a b)
equal_if_alike n a b s t e f = through _ (snapshots_decide s t)
    (λ h. same_named n a b (sym e ∙ h ∙ f))
    (λ h. e ∙ same_snapshot n a b h ∙ sym f)

pub alike_with : (n : Named) (a : Answers) (s : Snapshot) → kept_of s ≡ snapshot_of n a → SameNamedAnswers (named_set n) (snapshot_answers s) a
alike_with n a s e = subst (λ k. SameNamedAnswers (named_set n) (kept_in k) a) (sym e) (alike_of n a)

pub silent_with : (n : Named) (a : Answers) (s : Snapshot) → kept_of s ≡ snapshot_of n a → (q : NamedItem) → named_set n q ≡ false → SameAnswer (snapshot_answers s) no_answers q
silent_with n a s e q h = subst (λ k. SameAnswer (kept_in k) no_answers q) (sym e) (silent_of n a q h)
