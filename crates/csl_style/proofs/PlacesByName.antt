-- The map from names to the places of macros, one macro at a time.
use Rattle.std.proofs.Common.{◌≡◌, ℕ, ◌+◌, ◌<◌, suc, List, [], ◌∷◌, length, drop, get_or, Bool, true, false, Option, Some, None, option_map, is_some, IfSome, if◌then◌else◌, cond, string_bytes, refl, sym, ap, ◌∙◌, arith}
use Rattle.std.specs.Option.{option_or}
use Rattle.std.specs.List.{find}
use Rattle.std.specs.Map.{update}
use Rattle.std.specs.Str.{bytes_eq}
use Rattle.std.proofs.lemmas.Slice.Eq.{bytes_eq-Decides}
use Rattle.std.proofs.lemmas.List.{at_drop_more}
use Rattle.csl_elements.specs.declared.element.CslMacro.{CslMacro}
use Rattle.csl_elements.specs.View.{definitions, is_named, view_nodes}
use Rattle.csl_style.specs.Expansion.{macro_index, macro_body}
use Rattle.csl_style.proofs.Meanings.{body-none}
use Rattle.csl_style.proofs.Called.{place-is, children-read, length-definitions}

-- the place of a name: from the places so far, else from the remaining macros
abbrev pub found : (List ℕ → Option ℕ) → ℕ → List CslMacro → List ℕ → Option ℕ
found places i rest q = option_or (places q) (option_map (λ k. i + k) (macro_index q (definitions rest)))

module _ (i : ℕ) where
  seen_cases : (b : Bool) (o p : Option ℕ) → (b ≡ true → o ≡ None → ⊥)
      → option_or o (option_map (λ k. (i + 1) + k) p) ≡ option_or o (option_map (λ k. i + k) (if b then Some 0 else option_map suc p))
  seen_cases b (Some x) p h = refl
  seen_cases true None p h = absurd (h refl refl)
  seen_cases false None None h = refl
  seen_cases false None (Some k) h = ap Some (omega arith)

  new_cases : (b : Bool) (o p : Option ℕ) → (b ≡ true → o ≡ None)
      → option_or (cond b (Some i) o) (option_map (λ k. (i + 1) + k) p) ≡ option_or o (option_map (λ k. i + k) (if b then Some 0 else option_map suc p))
  new_cases true None p h = ap Some (omega arith)
  new_cases true (Some x) p h = let e = h refl in grind arith
  new_cases false (Some x) p h = refl
  new_cases false None None h = refl
  new_cases false None (Some k) h = ap Some (omega arith)

  module _ (ms : List CslMacro) (m : CslMacro) (within : i < length ms) (is : m ≡ get_or ms i m) (places : List ℕ → Option ℕ) (q : List ℕ) where
    -- if an earlier macro has the name of this one, the places stay the same
    pub with_seen_name : is_some (places (string_bytes m.name)) ≡ true → found places (i + 1) (drop (i + 1) ms) q ≡ found places i (drop i ms) q
    with_seen_name h = seen_cases (bytes_eq (string_bytes m.name) q) (places q) (macro_index q (definitions (drop (i + 1) ms)))
        (λ same none. let e = (bytes_eq-Decides (string_bytes m.name) q).0 same in let o : places (string_bytes m.name) ≡ None = ap places e ∙ none in grind arith)
        ∙ ap (λ x. option_or (places q) (option_map (λ k. i + k) (macro_index q (definitions (x ∷ drop (i + 1) ms))))) is
        ∙ sym (at_drop_more (λ rest. found places i rest q) ms i m within)

    -- else this macro is the first of its name, and its place is added
    pub with_new_name : (new : List ℕ → Option ℕ) → places (string_bytes m.name) ≡ None → new q ≡ update bytes_eq places (string_bytes m.name) (Some i) q
        → found new (i + 1) (drop (i + 1) ms) q ≡ found places i (drop i ms) q
    with_new_name new none put = ap (λ o. option_or o (option_map (λ k. (i + 1) + k) (macro_index q (definitions (drop (i + 1) ms))))) put
        ∙ new_cases (bytes_eq (string_bytes m.name) q) (places q) (macro_index q (definitions (drop (i + 1) ms)))
        (λ same. ap places (sym ((bytes_eq-Decides (string_bytes m.name) q).0 same)) ∙ none)
        ∙ ap (λ x. option_or (places q) (option_map (λ k. i + k) (macro_index q (definitions (x ∷ drop (i + 1) ms))))) is
        ∙ sym (at_drop_more (λ rest. found places i rest q) ms i m within)

-- the nodes that a name stands for, by the place of its first macro
pub unplaced : (ms : List CslMacro) (name : List ℕ) → macro_index name (definitions ms) ≡ None → macro_body name (definitions ms) ≡ None
unplaced ms name h = body-none name (definitions ms) h

pub placed : (ms : List CslMacro) (name : List ℕ) (i : ℕ) → macro_index name (definitions ms) ≡ Some i → i < length ms
placed ms name i h = let here = place-is name (definitions ms) i h in let len = length-definitions ms in omega (arith, here.within, len)

pub read : (ms : List CslMacro) (name : List ℕ) (i : ℕ) (m : CslMacro) → macro_index name (definitions ms) ≡ Some i → m ≡ get_or ms i m → macro_body name (definitions ms) ≡ Some (view_nodes m.children.items)
read ms name i m h is = (place-is name (definitions ms) i h).holds ∙ ap Some (children-read ms i m (placed ms name i h) is)

-- the places that are found are those of macros
pub within-list : (ms : List CslMacro) (name : List ℕ) (o : Option ℕ) → macro_index name (definitions ms) ≡ o → IfSome o (λ i. i < length ms)
within-list ms name None h = tt
within-list ms name (Some i) h = placed ms name i h

-- the first macro of a name is the one at the place of the name
find_cases : (x m : CslMacro) (ms : List CslMacro) (i : ℕ) (b : Bool) (o : Option ℕ) (f : Option CslMacro) → ((k : ℕ) → o ≡ Some k → m ≡ get_or ms k m → f ≡ Some m)
    → (if b then Some 0 else option_map suc o) ≡ Some i → m ≡ get_or (x ∷ ms) i m → cond b (Some x) f ≡ Some m
find_cases x m ms i true o f rest h is = let z : 0 ≡ i = cc in ap Some (sym (is ∙ ap (λ j. get_or (x ∷ ms) j m) (sym z)))
find_cases x m ms i false None f rest h is = grind arith
find_cases x m ms i false (Some k) f rest h is = let z : suc k ≡ i = cc in rest k refl (is ∙ ap (λ j. get_or (x ∷ ms) j m) (sym z))

pub found_at : (ms : List CslMacro) (name : List ℕ) (i : ℕ) (m : CslMacro) → macro_index name (definitions ms) ≡ Some i → m ≡ get_or ms i m → find (is_named name) ms ≡ Some m
found_at [] name i m h is = grind arith
found_at (x ∷ ms) name i m h is = find_cases x m ms i (is_named name x) (macro_index name (definitions ms)) (find (is_named name) ms) (λ k e at. found_at ms name k m e at) h is

none_cases : (x : CslMacro) (b : Bool) (o : Option ℕ) (f : Option CslMacro) → (o ≡ None → f ≡ None) → (if b then Some 0 else option_map suc o) ≡ None → cond b (Some x) f ≡ None
none_cases x true o f rest h = grind arith
none_cases x false None f rest h = rest refl
none_cases x false (Some k) f rest h = grind arith

pub none_named : (ms : List CslMacro) (name : List ℕ) → macro_index name (definitions ms) ≡ None → find (is_named name) ms ≡ None
none_named [] name h = refl
none_named (x ∷ ms) name h = none_cases x (is_named name x) (macro_index name (definitions ms)) (find (is_named name) ms) (λ e. none_named ms name e) h
