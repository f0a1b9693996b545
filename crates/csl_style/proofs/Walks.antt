-- A walk through all nodes that a layout reaches (`Reached`) names exactly what the layout names with
-- all macros expanded (`whole`), if what is named of each node is what it names itself (`itself`).
use Rattle.std.proofs.Common.{◌≡◌, ℕ, zero, suc, ◌<◌, List, [], ◌∷◌, ◌++◌, length, set, replicate, Bool, true, false, Option, Some, None, option_map, IfSome, Contains, ◌⊎◌, inl, inr, refl, sym, ap, ◌∙◌, subst, arith, length-set, get_or-set_same}
use Rattle.std.specs.Option.{option_to_list}
use Rattle.std.proofs.lemmas.Bool.{false≢true, or_cases, or_left, or_right}
use Rattle.std.proofs.lemmas.List.{length-replicate}
use Rattle.std.proofs.lemmas.List.Elements.{Contains-append_left, Contains-append_right}
use Rattle.csl_elements.specs.NamedSet.{NamedItem, NamedSet, empty_named_set, named_union}
use Rattle.csl_elements.specs.Node.{Node, Nodes, ExpandedNodes, expand_nodes, sizes}
use Rattle.csl_elements.specs.View.{Definition, definitions}
use Rattle.csl_elements.specs.declared.element.CslMacro.{CslMacro}
use Rattle.csl_style.specs.AllNodes.{all_nodes, called_name}
use Rattle.csl_style.specs.CallGraph.{call_of, children_at, own_calls}
use Rattle.csl_style.specs.Expansion.{macro_index, macro_body, macro_expansion, expansion_to_depth, IsAcyclic}
use Rattle.csl_style.specs.Cycles.{is_marked}
use Rattle.csl_style.specs.Reached.{called_nodes, AreMarked, IsCall, IsStart, IsStep, Takes, nodes_left}
use Rattle.csl_style.specs.declared.reached.ReachedNodes.{ReachedNodes}
use Rattle.csl_style.proofs.AllNodesLaws.{called_cost, expansion_cost, costs, costs_append, all_cost}
use Rattle.csl_style.proofs.Called.{place-is, length-definitions}
use Rattle.csl_style.proofs.Marks.{none-marked, marked-before, still-marked}
use Rattle.csl_style.proofs.Meanings.{body-none, meaning-at}
use Rattle.csl_style.proofs.NamedNodes.{AddsUp, in_macro, own_named, all_named, named_append}

-- ---- sets, one item at a time

abbrev pub Within : NamedSet → NamedSet → Type 0
Within a b = (q : NamedItem) → a q ≡ true → b q ≡ true

in_left : (a b : NamedSet) → Within a (named_union a b)
unfolding named_union
in_left a b q h = or_left (a q) (b q) h

in_right : (a b : NamedSet) → Within b (named_union a b)
unfolding named_union
in_right a b q h = or_right (a q) (b q) h

in_either : (a b : NamedSet) (q : NamedItem) → named_union a b q ≡ true → (a q ≡ true) ⊎ (b q ≡ true)
unfolding named_union
in_either a b q h = or_cases (a q) (b q) h

both_within : (a b c : NamedSet) → Within a c → Within b c → Within (named_union a b) c
both_within a b c f g q h = elim (in_either a b q h) [ inl x ↦ f q x | inr y ↦ g q y ]

same_bits : (x y : Bool) → (x ≡ true → y ≡ true) → (y ≡ true → x ≡ true) → x ≡ y
same_bits true y f g = sym (f refl)
same_bits false true f g = g refl
same_bits false false f g = refl

same_items : (a b : NamedSet) → Within a b → Within b a → a ≡ b
same_items a b f g = λ i q. same_bits (a q) (b q) (f q) (g q) i

-- ---- nodes of a list

first_or_later : (x n : Node) (xs : List Node) → Contains (x ∷ xs) n → (x ≡ n) ⊎ Contains xs n
first_or_later x n xs (zero, less, is) = inl is
first_or_later x n xs (suc k, less, is) = inr (k, omega arith, is)

first_within : (x : Node) (xs : List Node) → Contains (x ∷ xs) x
first_within x xs = (0, omega arith, refl)

later_within : (x n : Node) (xs : List Node) → Contains xs n → Contains (x ∷ xs) n
later_within x n xs (k, less, is) = (suc k, omega arith, is)

none_within : (n : Node) → Contains [] n → ⊥
none_within n (k, less, is) = omega arith

-- ---- what is left, and what is done

-- all that a node names itself is named, and the macro that it calls is marked
pub record IsDone (itself : Node → NamedSet) (ds : List Definition) (named : NamedSet) (seen : List Bool) (n : Node) : Type 0 where
  pub own : Within (itself n) named
  pub calls : AreMarked seen (own_calls ds (called_name n))

-- each node of a list is left or done
abbrev pub Kept : (Node → NamedSet) → List Definition → NamedSet → List Bool → List Node → List Node → Type 0
Kept itself ds named seen left ns = (n : Node) → Contains ns n → Contains left n ⊎ IsDone itself ds named seen n

-- The walk named what the layout names, and no more. The nodes of the layout and of each marked macro are
-- left or done.
pub record IsWalk (itself : Node → NamedSet) (whole : ExpandedNodes → NamedSet) (ds : List Definition) (ns : Nodes) (named : NamedSet) (seen : List Bool) (left : List Node) : Type 0 where
  pub each : length seen ≡ length ds
  pub sound : Within named (whole (expand_nodes (macro_expansion ds) ns))
  pub rest : Within (all_named itself whole (macro_expansion ds) left) (whole (expand_nodes (macro_expansion ds) ns))
  pub layout : Kept itself ds named seen left (all_nodes ns)
  pub macros : (i : ℕ) → is_marked seen i ≡ true → Kept itself ds named seen left (all_nodes (children_at ds i))

module _ (itself : Node → NamedSet) (whole : ExpandedNodes → NamedSet) (sums : AddsUp itself whole) (ds : List Definition) where
  abbrev env : List ℕ → Option ExpandedNodes
  env = macro_expansion ds

  abbrev told : List Node → NamedSet
  told = all_named itself whole env

  abbrev own_told : Node → NamedSet
  own_told = own_named itself whole env

  abbrev Done : NamedSet → List Bool → Node → Type 0
  Done named seen n = IsDone itself ds named seen n

  abbrev Keeps : NamedSet → List Bool → List Node → List Node → Type 0
  Keeps named seen left ns = Kept itself ds named seen left ns

  module _ (ns : Nodes) where
    abbrev all : NamedSet
    all = whole (expand_nodes env ns)

    abbrev Walks : NamedSet → List Bool → List Node → Type 0
    Walks named seen left = IsWalk itself whole ds ns named seen left

    never_named : Within empty_named_set all
    never_named q h = absurd (false≢true h)

    start : Walks empty_named_set (replicate (length ds) false) (all_nodes ns)
    start = record {
      each = length-replicate (length ds) false;
      sound = never_named;
      rest = λ q h. subst (λ (s : NamedSet). s q ≡ true) (sums env ns) h;
      layout = λ n h. inl h;
      macros = λ i h. absurd (false≢true (sym (none-marked (length ds) i) ∙ h));
    }

    -- ---- a step

    -- a node is taken and what it names itself is named; the places that were marked stay so
    module _ (named : NamedSet) (seen new : List Bool) (v : Node) (left more : List Node)
        (still : (i : ℕ) → is_marked seen i ≡ true → is_marked new i ≡ true)
        (stay : (n : Node) → Contains left n → Contains more n)
        (marked : AreMarked new (own_calls ds (called_name v))) where
      abbrev now : NamedSet
      now = named_union named (itself v)

      stays : (xs : List Node) → Keeps named seen (v ∷ left) xs → Keeps now new more xs
      stays xs k n h = elim (k n h) [
        | inl l ↦ elim (first_or_later v n left l) [
          | inl e ↦ inr (subst (Done now new) e (record { own = in_right named (itself v); calls = marked }))
          | inr m ↦ inl (stay n m)
        ]
        | inr d ↦ inr (record { own = λ q x. in_left named (itself v) q (d.own q x); calls = λ i x. still i (d.calls i x) })
      ]

    module _ (named : NamedSet) (seen : List Bool) (v : Node) (left : List Node) (w : Walks named seen (v ∷ left)) where
      abbrev then_named : NamedSet
      then_named = named_union named (itself v)

      own_within : Within (own_told v) all
      own_within q h = w.rest q (in_left (own_told v) (told left) q h)

      left_within : Within (told left) all
      left_within q h = w.rest q (in_right (own_told v) (told left) q h)

      itself_within : Within (itself v) all
      itself_within q h = own_within q (in_left (itself v) (in_macro whole (called_nodes env (called_name v))) q h)

      -- the macro that the node calls is marked already, or there is none
      passed : AreMarked seen (own_calls ds (called_name v)) → Walks then_named seen left
      passed marked = record {
        each = w.each;
        sound = both_within named (itself v) all w.sound itself_within;
        rest = left_within;
        layout = stays named seen seen v left left (λ i h. h) (λ n h. h) marked (all_nodes ns) w.layout;
        macros = λ i h. stays named seen seen v left left (λ j x. x) (λ n x. x) marked (all_nodes (children_at ds i)) (w.macros i h);
      }

      -- the nodes of the macro that the node calls come next, and its place is marked
      entered : (i : ℕ) → IsCall ds v i → Walks then_named (set seen i true) (all_nodes (children_at ds i) ++ left)
      entered i c =
          let body = all_nodes (children_at ds i) in
          let inside : i < length seen = omega (arith, w.each, c.within) in
          let new = set seen i true in
          let more = body ++ left in
          let still : (j : ℕ) → is_marked seen j ≡ true → is_marked new j ≡ true = λ j h. still-marked seen i inside j h in
          let stay : (n : Node) → Contains left n → Contains more n = λ n h. Contains-append_right body left n h in
          let marked : AreMarked new (own_calls ds (called_name v)) = λ j h. only i j inside (subst (λ (xs : List ℕ). Contains xs j) c.place h) in
          record {
            each = length-set seen i true ∙ w.each;
            sound = both_within named (itself v) all w.sound itself_within;
            rest = λ q h. body_or_left i c q (in_either (told body) (told left) q (subst (λ (s : NamedSet). s q ≡ true) (named_append itself whole env body left) h));
            layout = stays named seen new v left more still stay marked (all_nodes ns) w.layout;
            macros = λ j h. elim (marked-before seen i inside j h) [
              | inl e ↦ λ n x. inl (Contains-append_left body left n (subst (λ (k : ℕ). Contains (all_nodes (children_at ds k)) n) e x))
              | inr m ↦ stays named seen new v left more still stay marked (all_nodes (children_at ds j)) (w.macros j m)
            ];
          } where
            only : (i j : ℕ) → i < length seen → Contains (i ∷ []) j → is_marked (set seen i true) j ≡ true
            only i j inside (zero, less, is) = subst (λ k. is_marked (set seen i true) k ≡ true) is (get_or-set_same seen i true false inside)
            only i j inside (suc k, less, is) = absurd (omega arith)

            body_or_left : (i : ℕ) → IsCall ds v i → (q : NamedItem) → (told (all_nodes (children_at ds i)) q ≡ true) ⊎ (told left q ≡ true) → all q ≡ true
            body_or_left i c q (inl h) = own_within q (in_right (itself v) (in_macro whole (called_nodes env (called_name v))) q (subst (λ (s : NamedSet). s q ≡ true) (sums env (children_at ds i) ∙ ap (in_macro whole) (sym c.meaning)) h))
            body_or_left i c q (inr h) = left_within q h

    stepped : (named after : NamedSet) (seen new : List Bool) (v : Node) (left more : List Node) → Walks named seen left → IsStep ds v seen left new more → after ≡ named_union named (itself v) → Walks after new more
    stepped named after seen new v left more w (rest, e, inl (marked, f, g)) is = rw (is, f, g) (passed named seen v rest (subst (Walks named seen) e w) marked)
    stepped named after seen new v left more w (rest, e, inr (i, call, f, g)) is = rw (is, f, g) (entered named seen v rest (subst (Walks named seen) e w) i call)

  -- ---- nothing is left

  module _ (named : NamedSet) (seen : List Bool)
      (closed : (i : ℕ) → is_marked seen i ≡ true → (n : Node) → Contains (all_nodes (children_at ds i)) n → Done named seen n) where
    -- all that a name stands for is named, if its macro is marked
    abbrev AreNamed : (List ℕ → Option ExpandedNodes) → Type 0
    AreNamed f = (name : List ℕ) → AreMarked seen (call_of ds name) → Within (in_macro whole (f name)) named

    nothing_within : Within empty_named_set named
    nothing_within q h = absurd (false≢true h)

    called_within : (f : List ℕ → Option ExpandedNodes) → AreNamed f → (o : Option (List ℕ)) → AreMarked seen (own_calls ds o) → Within (in_macro whole (called_nodes f o)) named
    called_within f calls None m = nothing_within
    called_within f calls (Some name) m = calls name m

    list_within : (f : List ℕ → Option ExpandedNodes) → AreNamed f → (xs : List Node) → ((n : Node) → Contains xs n → Done named seen n) → Within (all_named itself whole f xs) named
    list_within f calls [] done = nothing_within
    list_within f calls (x ∷ xs) done =
        let here = done x (first_within x xs) in
        both_within (own_named itself whole f x) (all_named itself whole f xs) named
        (both_within (itself x) (in_macro whole (called_nodes f (called_name x))) named here.own (called_within f calls (called_name x) here.calls))
        (list_within f calls xs (λ n h. done n (later_within x n xs h)))

    place_within : (name : List ℕ) (f : List ℕ → Option ExpandedNodes) → AreNamed f → (o : Option ℕ) → macro_index name ds ≡ o → AreMarked seen (option_to_list o)
        → Within (in_macro whole (option_map (expand_nodes f) (macro_body name ds))) named
    place_within name f calls None e m = rw (body-none name ds e) nothing_within
    place_within name f calls (Some i) e m =
        let all = list_within f calls (all_nodes (children_at ds i)) (closed i (m i (0, omega arith, refl))) in
        rw ((place-is name ds i e).holds) (subst (λ (s : NamedSet). Within s named) (sums f (children_at ds i)) all)

    depth_within : (k : ℕ) → AreNamed (expansion_to_depth ds k)
    unfolding expansion_to_depth
    depth_within zero name m = nothing_within
    depth_within (suc k) name m = place_within name (expansion_to_depth ds k) (depth_within k) (macro_index name ds) refl m

    all_within : AreNamed env
    unfolding macro_expansion
    all_within = depth_within (length ds)

  module _ (ns : Nodes) (named : NamedSet) (seen : List Bool) (w : IsWalk itself whole ds ns named seen []) where
    done : (n : Node) → Contains [] n ⊎ Done named seen n → Done named seen n
    done n (inl h) = absurd (none_within n h)
    done n (inr d) = d

    finished : named ≡ whole (expand_nodes env ns)
    finished =
        let closed : (i : ℕ) → is_marked seen i ≡ true → (n : Node) → Contains (all_nodes (children_at ds i)) n → Done named seen n = λ i m n h. done n (w.macros i m n h) in
        same_items named (whole (expand_nodes env ns)) w.sound
        (subst (λ (s : NamedSet). Within s named) (sums env ns) (list_within named seen closed env (all_within named seen closed) (all_nodes ns) (λ n h. done n (w.layout n h))))

-- ---- the walk of the code

-- the walk is one through these macros, and named what it took
abbrev pub IsAt : (Node → NamedSet) → (ExpandedNodes → NamedSet) → List CslMacro → Nodes → NamedSet → ReachedNodes → Type 0
IsAt itself whole ms ns named w = (w.macros.now ≡ ms) × IsWalk itself whole (definitions ms) ns named w.seen.items (nodes_left w)

module _ (itself : Node → NamedSet) (whole : ExpandedNodes → NamedSet) (sums : AddsUp itself whole) (ms : List CslMacro) (ns : Nodes) where
  abbrev At : NamedSet → ReachedNodes → Type 0
  At named w = IsAt itself whole ms ns named w

  abbrev every : NamedSet
  every = whole (expand_nodes (macro_expansion (definitions ms)) ns)

  pub at_start : (w : ReachedNodes) → IsStart ms ns w → At empty_named_set w
  at_start w (macros, seen, left) =
      let none : w.seen.items ≡ replicate (length (definitions ms)) false = seen ∙ ap (λ n. replicate n false) (sym (length-definitions ms)) in
      (macros, rw (none, left) (start itself whole sums (definitions ms) ns))

  step_of : (v : Node) (old new : ReachedNodes) → old.macros.now ≡ ms → Takes v old new → IsStep (definitions ms) v old.seen.items (nodes_left old) new.seen.items (nodes_left new)
  step_of v old new same takes = subst (λ (xs : List CslMacro). IsStep (definitions xs) v old.seen.items (nodes_left old) new.seen.items (nodes_left new)) same takes.1

  pub at_next : (named after : NamedSet) (v : Node) (old new : ReachedNodes) → At named old → Takes v old new → after ≡ named_union named (itself v) → At after new
  at_next named after v old new (same, w) takes is =
      (ap (λ m. m.now) takes.0 ∙ same, stepped itself whole sums (definitions ms) ns named after old.seen.items new.seen.items v (nodes_left old) (nodes_left new) w (step_of v old new same takes) is)

  -- what a node names that is taken, the layout names
  pub taken_named : (named : NamedSet) (v : Node) (old new : ReachedNodes) → At named old → Takes v old new → Within (itself v) every
  taken_named named v old new (same, w) takes =
      let step = step_of v old new same takes in
      itself_within itself whole sums (definitions ms) ns named old.seen.items v step.0 (subst (IsWalk itself whole (definitions ms) ns named old.seen.items) step.1 w)

  pub at_end : (named : NamedSet) (w : ReachedNodes) → At named w → nodes_left w ≡ [] → named ≡ every
  at_end named w (same, is) e = finished itself whole sums (definitions ms) ns named w.seen.items (subst (IsWalk itself whole (definitions ms) ns named w.seen.items) e is)

-- ---- how much is left falls

called_cost_is : (env : List ℕ → Option ExpandedNodes) (o : Option (List ℕ)) (fs : ExpandedNodes) → called_nodes env o ≡ Some fs → called_cost env o ≡ suc (sizes fs)
called_cost_is env None fs e = grind arith
called_cost_is env (Some name) fs e = ap (expansion_cost env) e

step_falls : (ds : List Definition) (v : Node) (seen new : List Bool) (left more : List Node) → IsStep ds v seen left new more → costs (macro_expansion ds) more < costs (macro_expansion ds) left
step_falls ds v seen new left more (rest, e, inl (marked, f, g)) = rw (e, g) (omega arith)
step_falls ds v seen new left more (rest, e, inr (i, c, f, g)) =
    let env = macro_expansion ds in
    let body = children_at ds i in
    rw (e, g) (omega (arith, costs_append env (all_nodes body) rest, all_cost env body, called_cost_is env (called_name v) (expand_nodes env body) c.meaning))

-- how much a walk has still to go through, macros included
abbrev pub cost_left : ReachedNodes → ℕ
cost_left w = costs (macro_expansion (definitions w.macros.now)) (nodes_left w)

pub next_falls : (v : Node) (old new : ReachedNodes) → Takes v old new → cost_left new < cost_left old
next_falls v old new takes = rw takes.0 (step_falls (definitions old.macros.now) v old.seen.items new.seen.items (nodes_left old) (nodes_left new) takes.1)

-- ---- the macro that a node calls

pub call_at : (ds : List Definition) (n : Node) (name : List ℕ) → called_name n ≡ Some name → IsAcyclic ds → (o : Option ℕ) → macro_index name ds ≡ o → IfSome o (IsCall ds n)
call_at ds n name named ok None e = tt
call_at ds n name named ok (Some i) e = record {
  within = (place-is name ds i e).within;
  place = ap (own_calls ds) named ∙ ap option_to_list e;
  meaning = ap (called_nodes (macro_expansion ds)) named ∙ meaning-at ds name ok i e;
}
