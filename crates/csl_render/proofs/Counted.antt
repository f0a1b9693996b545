-- What groups count of a node's result depends on what they count of the results inside it.
use Rattle.std.proofs.Common.{◌≡◌, Bool, true, false, refl, sym, ap, ◌∙◌, if◌then◌else◌}
use Rattle.std.specs.Prelude.{◌||◌, ◌&&◌, not, Option, Some, None, is_some}
use Rattle.std.proofs.lemmas.Bool.{false≢true}
use Rattle.csl_entry.specs.declared.citation.cite.SpecialForm.{SpecialForm}
use Rattle.csl_nodes.specs.Usage.{usage_flags, Info, info_of, no_info, info_union, as_child_info, without_group_flag, group_info, macro_info, should_render_group}
use Rattle.csl_render.specs.Names.{names_or_substitute_info}
use Rattle.csl_render.specs.Plan.{as_counted, CountsAs}

-- ---- the rule

rule : (v n u g : Bool) → (not v || (n || ((n || u) || g))) ≡ (not v || (n || (u || g)))
rule v true u g = refl
rule v false u g = refl

rule_counted : (a : Info) → should_render_group (as_counted a).flags ≡ should_render_group a.flags
rule_counted a = rule a.flags.has_vars a.flags.has_non_empty_vars a.flags.has_used_macros a.flags.has_non_empty_group

-- the rule asks no more of a result than groups count
pub same_rule : (a i : Info) → CountsAs false a i → should_render_group a.flags ≡ should_render_group i.flags
same_rule a i e = sym (rule_counted a) ∙ ap (λ x. should_render_group x.flags) e ∙ rule_counted i

-- ---- nodes around nodes

module _ (f g : Info → Info) (through : (a : Info) → as_counted (f a) ≡ g (as_counted a)) where
  counts_by : (whole : Bool) (a i : Info) → CountsAs whole a i → CountsAs whole (f a) (f i)
  counts_by true a i e = ap f e
  counts_by false a i e = through a ∙ ap g e ∙ sym (through i)

group_counted : (a : Info) → as_counted (group_info a) ≡ group_info (as_counted a)
group_counted a = ap (λ b. info_of (a.prints && b) (as_counted a).flags) (sym (rule_counted a))

macro_counted : (a : Info) → as_counted (macro_info (without_group_flag a)) ≡ as_counted (macro_info (without_group_flag (as_counted a)))
macro_counted a =
    ap (λ b. info_of (b && a.prints) (usage_flags a.flags.has_vars a.flags.has_non_empty_vars (a.flags.has_non_empty_vars || (b && a.prints)) false))
    (sym (rule a.flags.has_vars a.flags.has_non_empty_vars a.flags.has_used_macros false))

names_counted : (refused : Bool) (a : Info) → as_counted (if refused then no_info else names_or_substitute_info true a) ≡ (if refused then no_info else names_or_substitute_info true (as_counted a))
names_counted true a = refl
names_counted false a = refl

pub group_counts : (whole : Bool) (a i : Info) → CountsAs whole a i → CountsAs whole (group_info a) (group_info i)
group_counts = counts_by group_info group_info group_counted

pub macro_counts : (whole : Bool) (a i : Info) → CountsAs whole a i → CountsAs whole (macro_info (without_group_flag a)) (macro_info (without_group_flag i))
macro_counts = counts_by (λ a. macro_info (without_group_flag a)) (λ a. as_counted (macro_info (without_group_flag a))) macro_counted

pub no_group_counts : (whole : Bool) (a i : Info) → CountsAs whole a i → CountsAs whole (without_group_flag a) (without_group_flag i)
no_group_counts = counts_by without_group_flag without_group_flag (λ a. refl)

pub names_count : (refused whole : Bool) (a i : Info) → CountsAs whole a i → CountsAs whole (if refused then no_info else names_or_substitute_info true a) (if refused then no_info else names_or_substitute_info true i)
names_count refused = counts_by (λ a. if refused then no_info else names_or_substitute_info true a) (λ a. if refused then no_info else names_or_substitute_info true a) (names_counted refused)

-- ---- nodes together

used_more : (n a r u b s : Bool) → (((n || a) || r) || ((u || b) || s)) ≡ (((n || a) || r) || ((u || (a || b)) || s))
used_more true a r u b s = refl
used_more false true r u b s = refl
used_more false false r u b s = refl

-- a child, between the nodes before it and those after it
abbrev pub among : Info → Bool → Info → Info → Info
among before is_group after a = info_union (info_union before (as_child_info is_group a)) after

child_counted : (x y : Info) (is_group : Bool) (a : Info) → as_counted (among x is_group y a) ≡ as_counted (among x is_group y (as_counted a))
unfolding info_union
child_counted x y is_group a =
    ap (λ u. info_of ((x.prints || a.prints) || y.prints) (usage_flags
    ((x.flags.has_vars || a.flags.has_vars) || y.flags.has_vars)
    ((x.flags.has_non_empty_vars || a.flags.has_non_empty_vars) || y.flags.has_non_empty_vars)
    u
    ((x.flags.has_non_empty_group || (is_group && a.prints)) || y.flags.has_non_empty_group)))
    (used_more x.flags.has_non_empty_vars a.flags.has_non_empty_vars y.flags.has_non_empty_vars x.flags.has_used_macros a.flags.has_used_macros y.flags.has_used_macros)

pub child_counts : (x y : Info) (is_group whole : Bool) (a i : Info) → CountsAs whole a i → CountsAs whole (among x is_group y a) (among x is_group y i)
child_counts x y is_group = counts_by (among x is_group y) (λ a. as_counted (among x is_group y a)) (child_counted x y is_group)

-- ---- the children of a substitute after those that print a variable

stays : (a b : Bool) → a ≡ true → a ≡ (a || b)
stays true b h = refl
stays false b h = absurd (false≢true h)

stays_used : (n u m x : Bool) → n ≡ true → (n || u) ≡ ((n || m) || x)
stays_used true u m x h = refl
stays_used false u m x h = absurd (false≢true h)

-- further children change nothing that groups count
pub settled : (whole : Bool) (a more : Info) → whole ≡ false → a.prints ≡ true → a.flags.has_vars ≡ true → a.flags.has_non_empty_vars ≡ true → CountsAs whole (without_group_flag a) (without_group_flag (info_union a more))
unfolding info_union
settled true a more plan prints vars full = absurd (false≢true (sym plan))
settled false a more plan prints vars full = λ i. info_of (stays a.prints more.prints prints i) (usage_flags
    (stays a.flags.has_vars more.flags.has_vars vars i)
    (stays a.flags.has_non_empty_vars more.flags.has_non_empty_vars full i)
    (stays_used a.flags.has_non_empty_vars a.flags.has_used_macros more.flags.has_non_empty_vars (a.flags.has_used_macros || more.flags.has_used_macros) full i)
    false)

-- a dry run that may stop is for a plan, and there is no special form
pub stops : (whole : Bool) (special : Option SpecialForm) → (not whole && not (is_some special)) ≡ true → (whole ≡ false) × (special ≡ None)
stops true special h = absurd (false≢true h)
stops false None h = (refl, refl)
stops false (Some form) h = absurd (false≢true h)

pub prints_all : (p v n : Bool) → (p && v && n) ≡ true → (p ≡ true) × (v ≡ true) × (n ≡ true)
prints_all true true true h = (refl, refl, refl)
prints_all true true false h = absurd (false≢true h)
prints_all true false n h = absurd (false≢true h)
prints_all false v n h = absurd (false≢true h)
