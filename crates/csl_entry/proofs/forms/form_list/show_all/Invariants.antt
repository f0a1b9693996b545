use Rattle.std.proofs.Common.{◌≡◌, ◌++◌, take, drop}
use Rattle.csl_entry.specs.NameProperties.{all_shown}
use Rattle.csl_entry.proofs.forms.form_list.show_all.Given as goal

-- the names before this one are shown, and those from it on are unchanged
abbrev pub invariant-loop-shown : goal.invariant-loop-shown
invariant-loop-shown l = l.forms ≡ all_shown l.form (take l.shown-index l.initial.forms) ++ drop l.shown-index l.initial.forms
