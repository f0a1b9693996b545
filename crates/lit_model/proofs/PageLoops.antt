-- Reading items in a loop, one item at a time.
use Rattle.std.proofs.Common.{◌≡◌, ℕ, zero, suc, ◌-◌, ◌+◌, ◌≤◌, ◌<◌, List, [], ◌∷◌, ◌++◌, Option, Some, None, option_map, refl, sym, ap, ◌∙◌, append_assoc, arith}
use Rattle.lit_model.specs.NumericParse.{◌>>=◌, rest_of}
use Rattle.lit_model.specs.Page.{PartView}
use Rattle.lit_model.specs.PageParse.{item_at, separator_at, parts_at}

abbrev pub Parts : Type 0
Parts = List PartView

-- an item with its separator, then the remaining parts; and the last item alone
pub parts_at-more : (k : ℕ) (cs a b : List ℕ) (p s : PartView) → item_at cs ≡ Some (p, a) → separator_at a ≡ Some (s, b) → parts_at (suc k) cs ≡ parts_at k b >>= λ more. Some (p ∷ s ∷ more.0, more.1)
unfolding parts_at
parts_at-more k cs a b p s hp hs = rw (hp, hs) refl

pub parts_at-last : (cs a : List ℕ) (p : PartView) → item_at cs ≡ Some (p, a) → parts_at 0 cs ≡ Some (p ∷ [], a)
unfolding parts_at
parts_at-last cs a p hp = rw hp refl

-- None if there is no item, or no separator after it
pub parts_at_no_item : (k : ℕ) (cs : List ℕ) → item_at cs ≡ None → parts_at k cs ≡ None
unfolding parts_at
parts_at_no_item zero cs hp = rw hp refl
parts_at_no_item (suc k) cs hp = rw hp refl

pub parts_at_no_separator : (k : ℕ) (cs a : List ℕ) (p : PartView) → item_at cs ≡ Some (p, a) → separator_at a ≡ None → parts_at (suc k) cs ≡ None
unfolding parts_at
parts_at_no_separator k cs a p hp hs = rw (hp, hs) refl

-- one turn of the loop does not change which characters follow all the parts
rest_of_more : (more : Option (Parts × List ℕ)) (p s : PartView) → rest_of (more >>= λ m. Some (p ∷ s ∷ m.0, m.1)) ≡ rest_of more
rest_of_more None p s = refl
rest_of_more (Some m) p s = refl

pub rest_turn : (count i : ℕ) (cs a b : List ℕ) (p s : PartView) → i < count → item_at cs ≡ Some (p, a) → separator_at a ≡ Some (s, b) → rest_of (parts_at (count - (i + 1)) b) ≡ rest_of (parts_at (count - i) cs)
rest_turn count i cs a b p s lt hp hs =
    let k : count - i ≡ suc (count - (i + 1)) = omega arith in
    rw (k, parts_at-more (count - (i + 1)) cs a b p s hp hs) (sym (rest_of_more (parts_at (count - (i + 1)) b) p s))

-- the parts so far, then the remaining ones
abbrev pub with_front : Parts → Option (Parts × List ℕ) → Option Parts
with_front so_far o = option_map (λ (x : Parts × List ℕ). so_far ++ x.0) o

-- one turn of the loop does not change the list of all the parts
parts_of_more : (so_far : Parts) (more : Option (Parts × List ℕ)) (p s : PartView) → with_front so_far (more >>= λ m. Some (p ∷ s ∷ m.0, m.1)) ≡ with_front ((so_far ++ p ∷ []) ++ s ∷ []) more
parts_of_more so_far None p s = refl
parts_of_more so_far (Some m) p s = ap Some (sym (append_assoc (so_far ++ p ∷ []) (s ∷ []) m.0 ∙ append_assoc so_far (p ∷ []) (s ∷ m.0)))

pub parts_turn : (count i : ℕ) (so_far : Parts) (cs a b : List ℕ) (p s : PartView) → i < count → item_at cs ≡ Some (p, a) → separator_at a ≡ Some (s, b) → with_front ((so_far ++ p ∷ []) ++ s ∷ []) (parts_at (count - (i + 1)) b) ≡ with_front so_far (parts_at (count - i) cs)
parts_turn count i so_far cs a b p s lt hp hs =
    let k : count - i ≡ suc (count - (i + 1)) = omega arith in
    rw (k, parts_at-more (count - (i + 1)) cs a b p s hp hs) (sym (parts_of_more so_far (parts_at (count - (i + 1)) b) p s))

-- the loop reads nothing if an item or a separator is missing; the last item ends it
pub gone_item : (count i : ℕ) (cs : List ℕ) → item_at cs ≡ None → parts_at (count - i) cs ≡ None
gone_item count i cs hp = parts_at_no_item (count - i) cs hp

pub gone_separator : (count i : ℕ) (cs a : List ℕ) (p : PartView) → i < count → item_at cs ≡ Some (p, a) → separator_at a ≡ None → parts_at (count - i) cs ≡ None
gone_separator count i cs a p lt hp hs =
    let k : count - i ≡ suc (count - (i + 1)) = omega arith in
    rw k (parts_at_no_separator (count - (i + 1)) cs a p hp hs)

pub last_item : (count i : ℕ) (cs a : List ℕ) (p : PartView) → count ≤ i → item_at cs ≡ Some (p, a) → parts_at (count - i) cs ≡ Some (p ∷ [], a)
last_item count i cs a p le hp =
    let k : count - i ≡ 0 = omega arith in
    rw k (parts_at-last cs a p hp)
