-- A walk over a layout keeps the missing terms among those that are asked for. Only private contracts
-- cite these.
use Rattle.std.specs.Prelude.{◌≡◌, List, filter, find, Some, option_map, IfSome}
use Rattle.std.specs.List.{fold}
use Rattle.std.specs.Option.{option_or}
use Rattle.csl_elements.specs.declared.locale.Locale.{Locale}
use Rattle.csl_style.specs.declared.missing_term.Found.{Found}
use Rattle.csl_style.specs.MissingTerm.{AskedTerm, is_missing, with_asked}

-- a list, and after it those of the asked terms that are missing and not in it, each once
abbrev pub with_missing : List Locale → List AskedTerm → List AskedTerm → List AskedTerm
with_missing ls asked ts = fold with_asked ts (filter (is_missing ls) asked)

-- What was found, after these terms were asked for. The list is only kept if it was kept before, and if
-- memory did not run out.
pub record Finds (ls : List Locale) (asked : List AskedTerm) (old new : Found) : Type 0 where
  pub first : new.first ≡ option_or old.first (find (is_missing ls) asked)
  pub all : IfSome new.all (λ now. Some now.items ≡ option_map (λ before. with_missing ls asked before.items) old.all)
