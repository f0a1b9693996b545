-- Sets of named items, as functions.
use Rattle.std.proofs.Common.{◌≡◌, Bool, true, false, refl, ap, ◌∙◌}
use Rattle.std.specs.Prelude.{◌||◌}
use Rattle.csl_elements.specs.NamedSet.{NamedSet, empty_named_set, named_union}

or_assoc : (a b c : Bool) → ((a || b) || c) ≡ (a || (b || c))
or_assoc true b c = refl
or_assoc false b c = refl

pub or_false : (a : Bool) → (a || false) ≡ a
or_false true = refl
or_false false = refl

or_turn : (a b c : Bool) → ((a || b) || c) ≡ ((a || c) || b)
or_turn true b c = refl
or_turn false true true = refl
or_turn false true false = refl
or_turn false false true = refl
or_turn false false false = refl

pub or_left : (a b : Bool) → a ≡ true → (a || b) ≡ true
or_left true b h = refl
or_left false b h = cc

pub or_right : (a b : Bool) → b ≡ true → (a || b) ≡ true
or_right true b h = refl
or_right false b h = h

pub join_assoc : (a b c : NamedSet) → named_union (named_union a b) c ≡ named_union a (named_union b c)
unfolding named_union
join_assoc a b c = λ i q. or_assoc (a q) (b q) (c q) i

pub join_none : (a : NamedSet) → named_union a empty_named_set ≡ a
unfolding named_union
join_none a = λ i q. or_false (a q) i

pub none_join : (a : NamedSet) → named_union empty_named_set a ≡ a
unfolding named_union
none_join a = refl

pub join_turn : (a b c : NamedSet) → named_union (named_union a b) c ≡ named_union (named_union a c) b
unfolding named_union
join_turn a b c = λ i q. or_turn (a q) (b q) (c q) i

or_twice : (a b : Bool) → ((a || b) || b) ≡ (a || b)
or_twice true b = refl
or_twice false true = refl
or_twice false false = refl

pub join_twice : (a b : NamedSet) → named_union (named_union a b) b ≡ named_union a b
unfolding named_union
join_twice a b = λ i q. or_twice (a q) (b q) i

-- a set that includes another still does after a union with a third
pub absorbs_more : (a b c : NamedSet) → named_union a c ≡ a → named_union (named_union a b) c ≡ named_union a b
absorbs_more a b c h = join_turn a b c ∙ ap (λ x. named_union x b) h

or_same : (a : Bool) → (a || a) ≡ a
or_same true = refl
or_same false = refl

pub join_same : (a : NamedSet) → named_union a a ≡ a
unfolding named_union
join_same a = λ i q. or_same (a q) i
