-- A map of texts with one text set, as pairs of bytes.
use Rattle.std.proofs.Common.{◌≡◌, ℕ, List, [], ◌∷◌, map, String, Global, Ordering, Less, Equal, Greater, string_bytes, string_cmp, refl, ◌∙◌}
use Rattle.std.specs.BTreeMap.{insert_entry}
use Rattle.std.specs.Ordering.{match_ordering}
use Rattle.lit_model.specs.Source.{scheme_and_number, with_serial}

abbrev Pairs : Type 0
Pairs = List (String Global × String Global)

abbrev texts : Pairs → List (List ℕ × List ℕ)
texts es = map scheme_and_number es

texts-match_ordering : (o : Ordering) (a b c : Pairs) → texts (match_ordering o a b c) ≡ match_ordering o (texts a) (texts b) (texts c)
texts-match_ordering Less a b c = refl
texts-match_ordering Equal a b c = refl
texts-match_ordering Greater a b c = refl

pub serials_set : (es : Pairs) (k v : String Global) → map scheme_and_number (insert_entry string_cmp es k v) ≡ with_serial (string_bytes k) (string_bytes v) (map scheme_and_number es)
serials_set [] k v = refl
serials_set (e ∷ es) k v = texts-match_ordering (string_cmp k e.0) _ _ _ ∙ rw (serials_set es k v)
