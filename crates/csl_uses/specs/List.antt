-- A reference list that keeps its lines: the line of a work as HTML, and lines that are kept by
-- snapshots (CSL 1.0.2, Bibliography; Layout). A kept line is the one that its snapshot renders.
use Rattle.std.specs.Prelude.{◌≡◌, ℕ, List, [], map, IfSome, is_some, String, string_bytes, option_map, unwrap_or, if◌then◌else◌}
use Rattle.std.specs.HashMap.{HashMap, get}
use Rattle.std.specs.Option.{ForSome}
use Rattle.std.specs.declared.alloc.Global.{Global}
use Rattle.csl.specs.Style.Expanded.{macro_env}
use Rattle.csl.specs.Style.Named.{named_in_nodes}
use Rattle.csl.specs.Style.NamedSet.{named_set}
use Rattle.csl.specs.Style.Node.{expand_layout}
use Rattle.csl.specs.Style.Style.{StyleParts}
use Rattle.csl.specs.Style.View.{view_layout}
use Rattle.csl.specs.Style.declared.named.Named.{Named}
use Rattle.csl.specs.Style.declared.style.settings.Scope.TheVariants.{Bibliography}
use Rattle.csl.specs.Tree.Write.{text_in_format}
use Rattle.csl.specs.Tree.declared.elem.BufWriteFormat.TheVariants.{Html}
use Rattle.csl.specs.Entry.Answers.{Answers}
use Rattle.csl.specs.Entry.Cite.{first_cite, no_disambiguation}
use Rattle.csl.specs.Entry.Snapshot.{snapshot_answers}
use Rattle.csl.specs.Entry.contracts.snapshot.SnapshotPartialEq.TheImpl.{eq-value}
use Rattle.csl.specs.Entry.declared.snapshot.Snapshot.{Snapshot}
use Rattle.csl.specs.Render.Cites.{whole_cite}

-- the line of an entry with these answers, empty if the style has no bibliography
abbrev pub line_html : StyleParts → Answers → List ℕ
line_html style answers =
    unwrap_or (option_map (λ layout. text_in_format Html (whole_cite style Bibliography (first_cite no_disambiguation) answers layout).content) style.bibliography) []

-- the lines of works, none if the style has no bibliography
abbrev pub lines_html : {T : Type 0} → (T → Answers) → StyleParts → List T → List (List ℕ)
lines_html answers style works = if is_some style.bibliography then map (λ work. line_html style (answers work)) works else []

-- the variables and kinds are those that the layout of the bibliography names
abbrev pub NamedByBibliography : StyleParts → Named → Type 0
NamedByBibliography style named =
    ForSome style.bibliography (λ layout. named_set named ≡ named_in_nodes (expand_layout (macro_env style) (view_layout layout)).elements)

-- each kept line is that of its snapshot
abbrev pub AreLines : {S : Type 0} → StyleParts → HashMap Snapshot (String Global) S → Type 0
AreLines style kept = (s : Snapshot) → IfSome (get eq-value.it kept s) (λ html. string_bytes html ≡ line_html style (snapshot_answers s))
