-- The works that a document names: each once, in the order in which they are first named.
use Rattle.std.specs.Prelude.{◌≡◌, ◌↔◌, ℕ, List, [], ◌∷◌, ◌++◌, Option, Some, map, slice_get, if◌then◌else◌, bytes_eq}
use Rattle.std.specs.Borrow.{Bor}
use Rattle.std.specs.BTreeMap.{BTreeMap, get_by}
use Rattle.std.specs.Cmp.Lexicographic.{slice_cmp}
use Rattle.std.specs.List.{fold, list_any}
use Rattle.std.specs.Ordering.{nat_cmp}
use Rattle.csl_wire_list.specs.declared.works.NamedWork.{NamedWork}

abbrev pub names_of : List NamedWork → List (List ℕ)
names_of works = map (λ work. work.name.now) works

-- the names with one more, which comes last, unless it is there
abbrev pub with_name : List (List ℕ) → List ℕ → List (List ℕ)
with_name names name = if list_any (bytes_eq name) names then names else names ++ name ∷ []

-- the names with others, one after the other
abbrev pub with_names : List (List ℕ) → List (List ℕ) → List (List ℕ)
with_names names others = fold with_name names others

abbrev pub index_at : BTreeMap (Bor (List ℕ)) ℕ → List ℕ → Option ℕ
index_at indices name = get_by (λ k. slice_cmp nat_cmp name k.now) indices

-- the indices of these names, and of no others
abbrev pub AreIndices : List (List ℕ) → BTreeMap (Bor (List ℕ)) ℕ → Type 0
AreIndices names indices = (name : List ℕ) (i : ℕ) → (index_at indices name ≡ Some i) ↔ (slice_get names i ≡ Some name)
