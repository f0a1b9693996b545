-- The whole of an entry, one step at a time.
use Rattle.std.proofs.Common.{◌≡◌, List, [], ◌∷◌, Some, None, Bool, true, false, if◌then◌else◌, map, refl, sym, ap, ◌∙◌}
use Rattle.std.specs.Prelude.{slice_get}
use Rattle.lit_model.specs.Entry.{parents_of}
use Rattle.lit_model.specs.Select.{is_untitled_part, first_full, full_step, full_of}
use Rattle.lit_model.specs.declared.entry.Entry.{Entry, out-Entry, roll-Entry, roll-out-Entry, para-Entry, para-roll-Entry}

abbrev full_among : List Entry → Entry → Entry
full_among [] e = e
full_among (p ∷ ps) e = full_of p

first_full-map : (ps : List Entry) (e : Entry) → first_full (map (λ y. (y, para-Entry (Entry → Entry) full_step y)) ps) e ≡ full_among ps e
first_full-map [] e = refl
first_full-map (p ∷ ps) e = refl

full_out : (e : Entry) → full_of e ≡ (if is_untitled_part e then full_among (parents_of e) e else e)
full_out e =
    let walk : Entry → Entry → Entry = para-Entry (Entry → Entry) full_step in
    let rolled : walk (roll-Entry (out-Entry e)) e ≡ (if is_untitled_part e then first_full (map (λ y. (y, walk y)) (parents_of e)) e else e) = ap (λ f. f e) (para-roll-Entry (Entry → Entry) full_step (out-Entry e)) in
    ap (λ d. walk d e) (sym (roll-out-Entry e)) ∙ rolled ∙ ap (λ w. if is_untitled_part e then w else e) (first_full-map (parents_of e) e)

-- an entry that is no untitled part is its own whole
pub full_whole : (e : Entry) → is_untitled_part e ≡ false → full_of e ≡ e
full_whole e h = full_out e ∙ ap (λ b. if b then full_among (parents_of e) e else e) h

full_among-none : (ps : List Entry) (e : Entry) → slice_get ps 0 ≡ None → full_among ps e ≡ e
full_among-none [] e h = refl
full_among-none (p ∷ ps) e h = cc

full_among-some : (ps : List Entry) (e q : Entry) → slice_get ps 0 ≡ Some q → full_among ps e ≡ full_of q
full_among-some [] e q h = cc
full_among-some (p ∷ ps) e q h = let same : p ≡ q = cc in ap full_of same

if_same : (b : Bool) (e : Entry) → (if b then e else e) ≡ e
if_same true e = refl
if_same false e = refl

-- an entry without parents is its own whole
pub full_alone : (e : Entry) → slice_get (parents_of e) 0 ≡ None → full_of e ≡ e
full_alone e h = full_out e ∙ ap (λ w. if is_untitled_part e then w else e) (full_among-none (parents_of e) e h) ∙ if_same (is_untitled_part e) e

-- the whole of an untitled part is the whole of its first parent
pub full_up : (e p : Entry) → is_untitled_part e ≡ true → slice_get (parents_of e) 0 ≡ Some p → full_of e ≡ full_of p
full_up e p h k = full_out e ∙ ap (λ b. if b then full_among (parents_of e) e else e) h ∙ full_among-some (parents_of e) e p k
