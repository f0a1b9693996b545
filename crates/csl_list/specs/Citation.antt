-- A citation before it is finished (CSL 1.0.2, Citation; Layout): its printed cites in a row, each that
-- prints anything between the texts of its author, with a delimiter before it if it is not the first. Each cite is an element
-- with the index of its work. The texts of the style stand around them, unless the first cite shows
-- its author, its year or its work alone. If its author stands in the text, this comes first.
use Rattle.std.specs.Prelude.{ℕ, Bool, true, false, ◌&&◌, ◌+◌, ◌∷◌, ◌++◌, List, [], Option, Some, None, codes, is_some, option_copied, option_map, slice_get, string_bytes, if◌then◌else◌}
use Rattle.csl_entry.specs.Answers.{Answers}
use Rattle.csl_entry.specs.Cite.{CiteState, first_cite, locator_view}
use Rattle.csl_entry.specs.Numbers.{citation_number, note_number}
use Rattle.csl_style.specs.Style.{StyleParts}
use Rattle.csl_tree.specs.Tokens.{Token, has_content, tokens}
use Rattle.csl_tree.specs.declared.elem.ElemChildren.{ElemChildren}
use Rattle.csl_tree.specs.Formatting.{default_formatting}
use Rattle.csl_tree.specs.declared.formatting.Formatting.{Formatting}
use Rattle.csl_entry.specs.declared.citation.cite.SpecialForm.TheVariants as forms
use Rattle.csl_list.specs.CiteContent.{citation_content, cite_content}
use Rattle.csl_list.specs.Collapse.{delimiter_text, joint_at}
use Rattle.csl_list.specs.Identity.{told_by, unmarked}
use Rattle.csl_list.specs.Pieces.{text_of, entry_around}
use Rattle.csl_list.specs.declared.citation.PositionedCite.{PositionedCite}
use Rattle.csl_list.specs.declared.collapse.CiteLink.{CiteLink}
use Rattle.csl_list.specs.declared.collapse.CitePart.{CitePart}
use Rattle.csl_list.specs.declared.collapse.CitePart.TheVariants as parts
use Rattle.csl_list.specs.declared.collapse.Joint.{Joint}
use Rattle.csl_list.specs.declared.identity.Identity.{Identity}
use Rattle.csl_list.specs.declared.options.CitationOptions.{CitationOptions}
use Rattle.csl_list.specs.declared.request.CitationItem.{CitationItem}
use Rattle.csl_list.specs.declared.request.CitePurpose.{CitePurpose}
use Rattle.csl_list.specs.declared.request.CitePurpose.TheVariants as purposes

-- the state of a cite of a work with this identity
abbrev pub state_by : {T : Type 0} → PositionedCite T → Identity → CiteState
state_by cite identity = record (first_cite (told_by identity (option_copied cite.forms))) {
  citation_number = citation_number identity.number;
  first_note = option_map note_number cite.position.first_note;
  is_first = cite.position.is_first;
  is_near_note = cite.position.is_near_note;
  initial_index = cite.index;
  locator = option_map locator_view cite.locator;
  ibid = cite.position.ibid;
}

abbrev pub state_of : {T : Type 0} → PositionedCite T → CiteState
state_of cite = state_by cite cite.identity

-- the part of a cite that its citation prints
abbrev pub content_of : {T : Type 0} → (T → Answers) → StyleParts → CitePart → PositionedCite T → List Token
content_of answers style parts.Whole cite = cite_content style (state_of cite) cite.item.now.purpose (answers cite.work.now)
content_of answers style parts.WithoutNames cite = citation_content style (state_of cite) (Some forms.SuppressAuthor) (answers cite.work.now)
content_of answers style parts.YearSuffix cite = citation_content style (state_of cite) (Some forms.OnlyYearSuffix) (answers cite.work.now)
content_of answers style parts.Nothing cite = []

abbrev pub affix_of : Option ElemChildren → List Token
affix_of None = []
affix_of (Some affix) = tokens affix

-- the delimiter after what is printed so far, if that is anything
abbrev pub delimiter_after : List ℕ → Formatting → List Token → List Token
delimiter_after delimiter formatting before = if has_content before then text_of delimiter formatting else []

-- what a cite adds to what is printed so far
abbrev pub added_cite : List ℕ → Formatting → List Token → CitationItem → List Token → List Token
added_cite delimiter formatting before item cite =
    if has_content cite then delimiter_after delimiter formatting before ++ (affix_of item.prefix ++ (entry_around item.work cite ++ affix_of item.suffix)) else []

-- a cite by its joint
abbrev pub joined_cite : {T : Type 0} → (T → Answers) → StyleParts → CitationOptions → Formatting → Joint → List Token → PositionedCite T → List Token
joined_cite answers style options formatting joint before cite =
    before ++ added_cite (delimiter_text options joint.delimiter) formatting before cite.item.now (content_of answers style joint.part cite)

-- what is printed so far, with the cites in a row after it, of which the first has an index
abbrev pub cites_after : {T : Type 0} → (T → Answers) → StyleParts → CitationOptions → Formatting → List CiteLink → ℕ → List Token → List (PositionedCite T) → List Token
cites_after answers style options formatting links i before [] = before
cites_after answers style options formatting links i before (cite ∷ cites) =
    cites_after answers style options formatting links (i + 1) (joined_cite answers style options formatting (joint_at links i) before cite) cites

abbrev pub has_affixes : Option CitePurpose → Bool
has_affixes None = true
has_affixes (Some purposes.Author) = false
has_affixes (Some purposes.Year) = false
has_affixes (Some purposes.Full) = false
has_affixes (Some purposes.Prose) = true
has_affixes (Some purposes.SuppressAuthor) = true

abbrev pub is_prose : Option CitePurpose → Bool
is_prose None = false
is_prose (Some purposes.Author) = false
is_prose (Some purposes.Year) = false
is_prose (Some purposes.Full) = false
is_prose (Some purposes.Prose) = true
is_prose (Some purposes.SuppressAuthor) = false

abbrev pub with_space : List Token → List Token
with_space author = if has_content author then author ++ text_of (codes " ") default_formatting else []

-- An author in the text is told apart by the forms of its names, if there are some.
abbrev pub author_identity : {T : Type 0} → PositionedCite T → Identity
author_identity cite = if is_some (option_copied cite.forms) then unmarked cite.identity else cite.identity

-- the author of a cite whose author stands in the text
abbrev pub author_of : {T : Type 0} → (T → Answers) → StyleParts → PositionedCite T → List Token
author_of answers style cite =
    if is_prose cite.item.now.purpose then with_space (cite_content style (state_by cite (author_identity cite)) (Some purposes.Author) (answers cite.work.now)) else []

-- the cites between the texts of the style, if the first of them wants these and they print anything
abbrev pub between_affixes : CitationOptions → Formatting → Option CitePurpose → List Token → List Token
between_affixes options formatting purpose inside =
    if has_affixes purpose && has_content inside then text_of (string_bytes options.prefix) formatting ++ (inside ++ text_of (string_bytes options.suffix) formatting) else inside

abbrev pub with_first : {T : Type 0} → (T → Answers) → StyleParts → CitationOptions → Formatting → List Token → Option (PositionedCite T) → List Token
with_first answers style options formatting inside None = inside
with_first answers style options formatting inside (Some first) =
    author_of answers style first ++ between_affixes options formatting first.item.now.purpose inside

abbrev pub unfinished_citation : {T : Type 0} → (T → Answers) → StyleParts → CitationOptions → Formatting → List CiteLink → List (PositionedCite T) → List Token
unfinished_citation answers style options formatting links cites =
    with_first answers style options formatting (cites_after answers style options formatting links 0 [] cites) (slice_get cites 0)
