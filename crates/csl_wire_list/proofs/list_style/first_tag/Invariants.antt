use Rattle.std.proofs.Common.{◌≡◌, drop, map}
use Rattle.serde_json.specs.View.{view}
use Rattle.csl_wire_list.specs.ListStyles.{first_tag}
use Rattle.csl_wire_list.proofs.list_style.first_tag.Given as goal

-- no locale so far is a tag
abbrev pub invariant-loop-locale : goal.invariant-loop-locale
invariant-loop-locale l = first_tag (map view (drop l.locale-index l.locales)) ≡ first_tag (map view l.locales)
