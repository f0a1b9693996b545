-- Names, their places, and the calls between macros.
use Rattle.std.proofs.Common.{◌≡◌, ℕ, zero, suc, ◌<◌, ◌+◌, List, [], ◌∷◌, ◌++◌, length, drop, get_or, Option, Some, None, option_map, Bool, true, false, if◌then◌else◌, nat_eq, refl, sym, ap, ◌∙◌, subst, arith, inl, inr, Vec, Global, Contains, string_bytes}
use Rattle.std.specs.Option.{option_to_list, option_or}
use Rattle.std.specs.Str.{bytes_eq}
use Rattle.std.proofs.lemmas.Bool.Decides.{nat_tests}
use Rattle.std.proofs.lemmas.Slice.Eq.{bytes_eq-Decides}
use Rattle.std.proofs.lemmas.List.Elements.{Contains-get_or, Contains-append_left, Contains-append_right, Contains-append_cases}
use Rattle.csl_style.specs.Cycles.{Graph, InRange, row_at}
use Rattle.csl_elements.specs.Node.{Node, call, names, choose, group, Nodes, no_nodes, node, Branches, no_branches, otherwise, branch, Substitutes, no_substitutes, substitute}
use Rattle.csl_elements.specs.View.{Definition, definitions, view_nodes}
use Rattle.csl_style.specs.Expansion.{macro_index, macro_body, is_below, calls_below, all_below, branches_below, substitutes_below}
use Rattle.csl_style.specs.MacroCalls.{Calls, OneCalls, BranchCalls, SubstituteCalls}
use Rattle.csl_style.specs.CallGraph.{calls_in, calls_in_all, calls_in_branches, calls_in_substitutes, name_at, children_at, IsCallGraph}
use Rattle.csl_style.specs.Missing.{is_first_at, missing_in_nodes, missing_in_macros}
use Rattle.csl_elements.specs.declared.element.CslMacro.{CslMacro}

-- the macro at the place of a name has this name, and the nodes that the name stands for
pub record IsPlace (name : List ℕ) (ds : List Definition) (i : ℕ) : Type 0 where
  pub within : i < length ds
  pub named : name_at ds i ≡ name
  pub holds : macro_body name ds ≡ Some (children_at ds i)

place-by : (name : List ℕ) (d : Definition) (ds : List Definition) (i : ℕ) (b : Bool) (o : Option ℕ) → ((k : ℕ) → o ≡ Some k → IsPlace name ds k)
    → bytes_eq d.0 name ≡ b → (if b then Some 0 else option_map suc o) ≡ Some i → IsPlace name (d ∷ ds) i
place-by name d ds i true o rest e h =
    let z : 0 ≡ i = cc in
    rw (← z) (record { within = omega arith; named = (bytes_eq-Decides d.0 name).0 e; holds = rw e })
place-by name d ds i false None rest e h = grind arith
place-by name d ds i false (Some k) rest e h =
    let z : suc k ≡ i = cc in
    let later = rest k refl in
    rw (← z) (record { within = omega (arith, later.within); named = later.named; holds = rw e later.holds })

pub place-is : (name : List ℕ) (ds : List Definition) (i : ℕ) → macro_index name ds ≡ Some i → IsPlace name ds i
place-is name [] i h = grind arith
place-is name (d ∷ ds) i h = place-by name d ds i (bytes_eq d.0 name) (macro_index name ds) (place-is name ds) refl h

pub nothing : (q : ℕ) → Contains [] q → ⊥
nothing q (k, less, is) = omega arith

from-option : (o : Option ℕ) (q : ℕ) → Contains (option_to_list o) q → o ≡ Some q
from-option None q h = absurd (nothing q h)
from-option (Some x) q (zero, less, is) = ap Some is
from-option (Some x) q (suc k, less, is) = absurd (omega arith)

to-option : (o : Option ℕ) (q : ℕ) → o ≡ Some q → Contains (option_to_list o) q
to-option o q h = rw h (0, omega arith, refl)

module _ (ds : List Definition) where
  mutual
    node-from : (q : ℕ) (n : Node) → Contains (calls_in ds n) q → (name : List ℕ) × Calls name n × (macro_index name ds ≡ Some q)
    node-from q (call name d) h = (name, refl, from-option (macro_index name ds) q h)
    node-from q (names n ss) h = substitutes-from q ss h
    node-from q (choose bs) h = branches-from q bs h
    node-from q (group delimiter d ns) h = all-from q ns h
    node-from q other h = absurd (nothing q h)

    pub all-from : (q : ℕ) (ns : Nodes) → Contains (calls_in_all ds ns) q → (name : List ℕ) × OneCalls name ns × (macro_index name ds ≡ Some q)
    all-from q no_nodes h = absurd (nothing q h)
    all-from q (node n ns) h = elim (Contains-append_cases (calls_in ds n) (calls_in_all ds ns) q h) [
      | inl k ↦ let (name, calls, at') = node-from q n k in (name, inl calls, at')
      | inr k ↦ let (name, calls, at') = all-from q ns k in (name, inr calls, at')
    ]

    branches-from : (q : ℕ) (bs : Branches) → Contains (calls_in_branches ds bs) q → (name : List ℕ) × BranchCalls name bs × (macro_index name ds ≡ Some q)
    branches-from q no_branches h = absurd (nothing q h)
    branches-from q (otherwise ns) h = all-from q ns h
    branches-from q (branch ts ns bs) h = elim (Contains-append_cases (calls_in_all ds ns) (calls_in_branches ds bs) q h) [
      | inl k ↦ let (name, calls, at') = all-from q ns k in (name, inl calls, at')
      | inr k ↦ let (name, calls, at') = branches-from q bs k in (name, inr calls, at')
    ]

    substitutes-from : (q : ℕ) (ss : Substitutes) → Contains (calls_in_substitutes ds ss) q → (name : List ℕ) × SubstituteCalls name ss × (macro_index name ds ≡ Some q)
    substitutes-from q no_substitutes h = absurd (nothing q h)
    substitutes-from q (substitute ns ss) h = elim (Contains-append_cases (calls_in_all ds ns) (calls_in_substitutes ds ss) q h) [
      | inl k ↦ let (name, calls, at') = all-from q ns k in (name, inl calls, at')
      | inr k ↦ let (name, calls, at') = substitutes-from q ss k in (name, inr calls, at')
    ]

  module _ (name : List ℕ) (q : ℕ) (p : macro_index name ds ≡ Some q) where
    mutual
      node-into : (n : Node) → Calls name n → Contains (calls_in ds n) q
      node-into (call other d) c = to-option (macro_index other ds) q (subst (λ x. macro_index x ds ≡ Some q) c p)
      node-into (names n ss) c = substitutes-into ss c
      node-into (choose bs) c = branches-into bs c
      node-into (group delimiter d ns) c = all-into ns c
      node-into other c = absurd c

      pub all-into : (ns : Nodes) → OneCalls name ns → Contains (calls_in_all ds ns) q
      all-into no_nodes c = absurd c
      all-into (node n ns) (inl c) = Contains-append_left (calls_in ds n) (calls_in_all ds ns) q (node-into n c)
      all-into (node n ns) (inr c) = Contains-append_right (calls_in ds n) (calls_in_all ds ns) q (all-into ns c)

      branches-into : (bs : Branches) → BranchCalls name bs → Contains (calls_in_branches ds bs) q
      branches-into no_branches c = absurd c
      branches-into (otherwise ns) c = all-into ns c
      branches-into (branch ts ns bs) (inl c) = Contains-append_left (calls_in_all ds ns) (calls_in_branches ds bs) q (all-into ns c)
      branches-into (branch ts ns bs) (inr c) = Contains-append_right (calls_in_all ds ns) (calls_in_branches ds bs) q (branches-into bs c)

      substitutes-into : (ss : Substitutes) → SubstituteCalls name ss → Contains (calls_in_substitutes ds ss) q
      substitutes-into no_substitutes c = absurd c
      substitutes-into (substitute ns ss) (inl c) = Contains-append_left (calls_in_all ds ns) (calls_in_substitutes ds ss) q (all-into ns c)
      substitutes-into (substitute ns ss) (inr c) = Contains-append_right (calls_in_all ds ns) (calls_in_substitutes ds ss) q (substitutes-into ss c)

-- nodes are below r if each name that they call is
module _ (rank : List ℕ → Option ℕ) (r : ℕ) where
  mutual
    calls-below-by : (n : Node) → ((name : List ℕ) → Calls name n → is_below (rank name) r ≡ true) → calls_below rank r n ≡ true
    calls-below-by (call name d) h = h name refl
    calls-below-by (names n ss) h = substitutes-below-by ss h
    calls-below-by (choose bs) h = branches-below-by bs h
    calls-below-by (group delimiter d ns) h = all-below-by ns h
    calls-below-by other h = refl

    pub all-below-by : (ns : Nodes) → ((name : List ℕ) → OneCalls name ns → is_below (rank name) r ≡ true) → all_below rank r ns ≡ true
    all-below-by no_nodes h = refl
    all-below-by (node n ns) h = rw (calls-below-by n (λ name c. h name (inl c)), all-below-by ns (λ name c. h name (inr c)))

    branches-below-by : (bs : Branches) → ((name : List ℕ) → BranchCalls name bs → is_below (rank name) r ≡ true) → branches_below rank r bs ≡ true
    branches-below-by no_branches h = refl
    branches-below-by (otherwise ns) h = all-below-by ns h
    branches-below-by (branch ts ns bs) h = rw (all-below-by ns (λ name c. h name (inl c)), branches-below-by bs (λ name c. h name (inr c)))

    substitutes-below-by : (ss : Substitutes) → ((name : List ℕ) → SubstituteCalls name ss → is_below (rank name) r ≡ true) → substitutes_below rank r ss ≡ true
    substitutes-below-by no_substitutes h = refl
    substitutes-below-by (substitute ns ss) h = rw (all-below-by ns (λ name c. h name (inl c)), substitutes-below-by ss (λ name c. h name (inr c)))

-- ---- the rows of a graph

pub row-of : (g : Graph) (k : ℕ) (d : Vec ℕ Global) → k < length g → row_at g k ≡ (get_or g k d).items
row-of [] k d less = absurd (omega arith)
row-of (row ∷ g) zero d less = refl
row-of (row ∷ g) (suc k) d less = row-of g k d (omega arith)

row-before : (g : Graph) (row : Vec ℕ Global) (k : ℕ) → k < length g → row_at (g ++ row ∷ []) k ≡ row_at g k
row-before [] row k less = absurd (omega arith)
row-before (x ∷ g) row zero less = refl
row-before (x ∷ g) row (suc k) less = row-before g row k (omega arith)

row-last : (g : Graph) (row : Vec ℕ Global) → row_at (g ++ row ∷ []) (length g) ≡ row.items
row-last [] row = refl
row-last (x ∷ g) row = row-last g row

pub rows-more : (ds : List Definition) (g : Graph) (row : Vec ℕ Global) (n : ℕ) → length g ≡ n → ((i : ℕ) → i < n → row_at g i ≡ calls_in_all ds (children_at ds i)) → row.items ≡ calls_in_all ds (children_at ds n)
    → (i : ℕ) → i < n + 1 → row_at (g ++ row ∷ []) i ≡ calls_in_all ds (children_at ds i)
rows-more ds g row n each rows here i less = by (nat_eq i n) refl where
  by : (b : Bool) → nat_eq i n ≡ b → row_at (g ++ row ∷ []) i ≡ calls_in_all ds (children_at ds i)
  by true e =
      let same : i ≡ length g = grind (arith, nat_tests) in
      ap (row_at (g ++ row ∷ [])) same ∙ row-last g row ∙ here ∙ ap (λ k. calls_in_all ds (children_at ds k)) (sym each ∙ sym same)
  by false e =
      let under : i < n = grind (arith, nat_tests) in
      row-before g row i (omega arith) ∙ rows i under

pub in-range : (ds : List Definition) (g : Graph) → IsCallGraph ds g → InRange g (length g)
in-range ds g is k d less j e within =
    let same : (get_or g k d).items ≡ calls_in_all ds (children_at ds k) = sym (row-of g k d less) ∙ is.rows k (omega (arith, is.each)) in
    let to = get_or (get_or g k d).items j e in
    let there = subst (λ tos. Contains tos to) same (Contains-get_or (get_or g k d).items j e within) in
    let (name, calls, p) = all-from ds to (children_at ds k) there in
    let found = place-is name ds to p in
    omega (arith, found.within, is.each)

pub children-read : (ms : List CslMacro) (i : ℕ) (m : CslMacro) → i < length ms → m ≡ get_or ms i m → children_at (definitions ms) i ≡ view_nodes m.children.items
children-read [] i m less is = absurd (omega arith)
children-read (x ∷ ms) zero m less is = ap (λ y. view_nodes y.children.items) (sym is)
children-read (x ∷ ms) (suc i) m less is = children-read ms i m (omega arith) is

pub name-read : (ms : List CslMacro) (i : ℕ) (m : CslMacro) → i < length ms → m ≡ get_or ms i m → name_at (definitions ms) i ≡ string_bytes m.name
name-read [] i m less is = absurd (omega arith)
name-read (x ∷ ms) zero m less is = ap (λ y. string_bytes y.name) (sym is)
name-read (x ∷ ms) (suc i) m less is = name-read ms i m (omega arith) is

pub length-definitions : (ms : List CslMacro) → length (definitions ms) ≡ length ms
length-definitions [] = refl
length-definitions (m ∷ ms) = ap suc (length-definitions ms)

-- the first missing name in the macros from a place on is in the first of them, or in the others
missing-from : (all : List Definition) (ms : List CslMacro) (k i : ℕ) (m : CslMacro) → i < length ms → m ≡ get_or ms i m
    → missing_in_macros all k (definitions (drop i ms)) ≡ option_or (if is_first_at all k (string_bytes m.name) then missing_in_nodes all (view_nodes m.children.items) else None) (missing_in_macros all (suc k) (definitions (drop (suc i) ms)))
missing-from all [] k i m less is = absurd (omega arith)
missing-from all (x ∷ ms) k zero m less is = rw is refl
missing-from all (x ∷ ms) k (suc i) m less is = missing-from all ms k i m (omega arith) is

pub missing-next : (all : List Definition) (xs ms : List CslMacro) (i : ℕ) (m : CslMacro) → xs ≡ ms → i < length xs → m ≡ get_or xs i m
    → missing_in_macros all i (definitions (drop i ms)) ≡ option_or (if is_first_at all i (string_bytes m.name) then missing_in_nodes all (view_nodes m.children.items) else None) (missing_in_macros all (i + 1) (definitions (drop (i + 1) ms)))
missing-next all xs ms i m same less is =
    let here = if is_first_at all i (string_bytes m.name) then missing_in_nodes all (view_nodes m.children.items) else None in
    let next : suc i ≡ i + 1 = omega arith in
    subst (λ (ys : List CslMacro). missing_in_macros all i (definitions (drop i ys)) ≡ option_or here (missing_in_macros all (i + 1) (definitions (drop (i + 1) ys)))) same
    (missing-from all xs i i m less is ∙ ap (λ j. option_or here (missing_in_macros all j (definitions (drop j xs)))) next)
