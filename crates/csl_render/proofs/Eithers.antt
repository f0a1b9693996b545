-- The union of dry runs is associative, and `no_info` is its unit.
use Rattle.std.proofs.Common.{◌≡◌, Bool, true, false, refl}
use Rattle.std.specs.Prelude.{◌||◌}
use Rattle.csl_nodes.specs.Usage.{Info, info_of, usage_flags, info_union, no_info}

pub or_assoc : (a b c : Bool) → ((a || b) || c) ≡ (a || (b || c))
or_assoc true b c = refl
or_assoc false b c = refl

pub or_false : (a : Bool) → (a || false) ≡ a
or_false true = refl
or_false false = refl

pub either_nothing : (x : Info) → info_union x no_info ≡ x
unfolding info_union
either_nothing x = λ i. info_of (or_false x.prints i) (usage_flags
    (or_false x.flags.has_vars i)
    (or_false x.flags.has_non_empty_vars i)
    (or_false x.flags.has_used_macros i)
    (or_false x.flags.has_non_empty_group i))

pub nothing_either : (x : Info) → info_union no_info x ≡ x
unfolding info_union
nothing_either x = refl

pub either_assoc : (x y z : Info) → info_union (info_union x y) z ≡ info_union x (info_union y z)
unfolding info_union
either_assoc x y z = λ i. info_of (or_assoc x.prints y.prints z.prints i) (usage_flags
    (or_assoc x.flags.has_vars y.flags.has_vars z.flags.has_vars i)
    (or_assoc x.flags.has_non_empty_vars y.flags.has_non_empty_vars z.flags.has_non_empty_vars i)
    (or_assoc x.flags.has_used_macros y.flags.has_used_macros z.flags.has_used_macros i)
    (or_assoc x.flags.has_non_empty_group y.flags.has_non_empty_group z.flags.has_non_empty_group i))
