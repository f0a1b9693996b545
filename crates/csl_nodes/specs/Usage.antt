-- A dry run returns whether a node prints, and four flags (CSL 1.0.2, Group): a variable is called;
-- a called variable is not empty; a text of a macro prints; a group among the children prints. The
-- flags of children are joined by "or", but the group flag is set by a child that is itself a group
-- and prints.
-- The *rule* fails if variables are called and no other flag is set. A group prints if a child does
-- and the rule holds. The nodes of a macro, a layout and a substitute, and those that a choice
-- takes, count no group. A text of a macro prints if one of the macro's nodes does and the rule
-- holds. Its macro flag is whether it prints.
use Rattle.std.specs.Prelude.{Bool, false, not, ◌&&◌, ◌||◌}
use Rattle.csl_nodes.specs.declared.usage.UsageInfo.{UsageInfo}

pub record UsageFlags : Type 0 where
  -- a variable is called
  pub has_vars : Bool
  -- a called variable is not empty
  pub has_non_empty_vars : Bool
  -- a text of a macro prints
  pub has_used_macros : Bool
  -- a group among the children prints
  pub has_non_empty_group : Bool

abbrev pub usage_flags : Bool → Bool → Bool → Bool → UsageFlags
usage_flags has_vars has_non_empty_vars has_used_macros has_non_empty_group = record {
  has_vars = has_vars;
  has_non_empty_vars = has_non_empty_vars;
  has_used_macros = has_used_macros;
  has_non_empty_group = has_non_empty_group;
}

abbrev pub no_usage_flags : UsageFlags
no_usage_flags = usage_flags false false false false

-- the flags of a parent and a child, joined by "or"; the group flag stays the parent's
abbrev pub merge_child : UsageFlags → UsageFlags → UsageFlags
merge_child parent child = usage_flags
    (parent.has_vars || child.has_vars)
    (parent.has_non_empty_vars || child.has_non_empty_vars)
    (parent.has_used_macros || child.has_used_macros)
    parent.has_non_empty_group

-- the group rule: it fails if variables are called and no other flag is set
abbrev pub should_render_group : UsageFlags → Bool
should_render_group f = not f.has_vars || (f.has_non_empty_vars || (f.has_used_macros || f.has_non_empty_group))

-- the result of a dry run: whether the node prints, and its flags
pub record Info : Type 0 where
  pub prints : Bool
  pub flags : UsageFlags

abbrev pub info_of : Bool → UsageFlags → Info
info_of prints fs = record { prints = prints; flags = fs }

abbrev pub no_info : Info
no_info = info_of false no_usage_flags

-- the dry run of two nodes together
unfoldable pub info_union : Info → Info → Info
info_union a b = info_of (a.prints || b.prints) (usage_flags
    (a.flags.has_vars || b.flags.has_vars)
    (a.flags.has_non_empty_vars || b.flags.has_non_empty_vars)
    (a.flags.has_used_macros || b.flags.has_used_macros)
    (a.flags.has_non_empty_group || b.flags.has_non_empty_group))

-- the dry run of a child as its parent counts it: its group flag is whether it is itself a group
-- that prints
abbrev pub as_child_info : Bool → Info → Info
as_child_info is_group i = info_of i.prints (usage_flags i.flags.has_vars i.flags.has_non_empty_vars i.flags.has_used_macros (is_group && i.prints))

-- a dry run without its group flag, for a macro, a layout, a choice and a substitute
abbrev pub without_group_flag : Info → Info
without_group_flag i = info_of i.prints (usage_flags i.flags.has_vars i.flags.has_non_empty_vars i.flags.has_used_macros false)

-- a group prints if a child does and the rule holds
abbrev pub group_info : Info → Info
group_info i = info_of (i.prints && should_render_group i.flags) i.flags

-- a text of a macro prints if one of the macro's nodes does and the rule holds, and its macro flag
-- is whether it prints
abbrev pub macro_info : Info → Info
macro_info i = info_of (should_render_group i.flags && i.prints) (usage_flags i.flags.has_vars i.flags.has_non_empty_vars (should_render_group i.flags && i.prints) false)

abbrev pub usage_flags_of : UsageInfo → UsageFlags
usage_flags_of u = usage_flags u.has_vars u.has_non_empty_vars u.has_used_macros u.has_non_empty_group

abbrev pub info_view : Bool × UsageInfo → Info
info_view answer = info_of answer.0 (usage_flags_of answer.1)
