-- Lists of JSON values.
use Rattle.std.proofs.Common.{◌≡◌, refl, sym, ap, ◌∙◌, Some, ℕ, ◌+◌, ◌<◌, List, [], ◌∷◌, ◌++◌, length, get_or, take, drop, drop-cons, add-one, map}
use Rattle.std.specs.List.{AllZip}
use Rattle.std.proofs.lemmas.List.{map_more, map-append}
use Rattle.std.proofs.lemmas.Slice.Zip.{all_zipped_more}
use Rattle.std.specs.Prelude.{String, string_bytes}
use Rattle.std.specs.declared.alloc.Global.{Global}
use Rattle.serde_json.specs.Data.{Data}
use Rattle.serde_json.specs.Find.{as_object}
use Rattle.serde_json.specs.View.{view, items_view, members_view}
use Rattle.serde_json.specs.declared.value.Value.{Value}
use Rattle.csl_wire.specs.declared.refusal.Step.{Step}
use Rattle.csl_wire.specs.Refusals.{step_text, steps_text}
use Rattle.csl_wire.specs.Nodes.{element_of, read_element}
use Rattle.csl_wire.specs.Reading.{list_of}

-- the list of the items of values has their data
pub list_of_view : (vs : List Value) → list_of (items_view vs) ≡ map view vs
list_of_view [] = refl
list_of_view (v ∷ vs) = ap (λ ds. view v ∷ ds) (list_of_view vs)

-- one more value that was read
pub zip_more : {V D N : Type 0} (see : V → D) (R : D → N → Type 0) (vs : List V) (i : ℕ) (v : V) (ns : List N) (n : N) → i < length vs → v ≡ get_or vs i v → AllZip R (map see (take i vs)) ns → R (see v) n → AllZip R (map see (take (i + 1) vs)) (ns ++ n ∷ [])
zip_more see R vs i v ns n h is z r = rw (map_more see vs i v h) (rw (sym is) (all_zipped_more R (map see (take i vs)) ns (see v) n z r))

-- one more value that was read, seen as a node
pub zip_more_made : {V D T N : Type 0} (see : V → D) (made : T → N) (R : D → N → Type 0) (vs : List V) (i : ℕ) (v : V) (ts : List T) (t : T) → i < length vs → v ≡ get_or vs i v → AllZip R (map see (take i vs)) (map made ts) → R (see v) (made t) → AllZip R (map see (take (i + 1) vs)) (map made (ts ++ t ∷ []))
zip_more_made see made R vs i v ts t h is z r = rw (map-append made ts (t ∷ [])) (zip_more see R vs i v (map made ts) (made t) h is z r)

-- the only member of an object
pub only_entry : (d : Data) (entries : List (String Global × Value)) (k : String Global) (v : Value) → as_object d ≡ Some (members_view entries) → entries ≡ (k, v) ∷ [] → read_element d ≡ Some (string_bytes k, view v)
only_entry d entries k v e one = ap element_of e ∙ ap (λ es. element_of (Some (members_view es))) one

-- the text of the steps from a place on
pub steps_text_from : (ss : List Step) (i : ℕ) (s : Step) → i < length ss → s ≡ get_or ss i s → steps_text (drop i ss) ≡ steps_text (drop (i + 1) ss) ++ step_text s
steps_text_from ss i s h is =
    let turn : drop i ss ≡ get_or ss i s ∷ drop (i + 1) ss = rw (add-one, drop-cons ss i s h) refl in
    ap steps_text turn ∙ ap (λ t. steps_text (drop (i + 1) ss) ++ step_text t) (sym is)
