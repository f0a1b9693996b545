-- Cites of the examples: with a page of the entry, and in the running text (CSL 1.0.2, Locators;
-- Citation). A cite in the running text, as `Kwan (2014)`, is the cite by its authors alone, and
-- the cite without them in parentheses.
use Rattle.std.specs.Prelude.{ℕ, List, Some, ◌++◌, codes}
use Rattle.csl.specs.Style.declared.taxonomy.Locator.TheVariants.{Page}
use Rattle.csl.specs.Entry.Cite.{CiteState, first_cite, no_disambiguation, payload_text}
use Rattle.csl.specs.Style.Style.{StyleParts}
use Rattle.csl.specs.Style.declared.taxonomy.NameVariable.TheVariants.{Author}
use Rattle.csl.specs.Style.declared.taxonomy.Variable.TheVariants.{Name}
use Rattle.csl.specs.Tree.Write.{plain_text}
use Rattle.csl.specs.Entry.Answers.{Answers}
use Rattle.csl.specs.Entry.declared.citation.cite.SpecialForm.{SpecialForm}
use Rattle.csl.specs.Entry.declared.citation.cite.SpecialForm.TheVariants.{VarOnly, SuppressAuthor}
use Rattle.csl.specs.Render.Cites.{special_cite}

-- the state of a first cite that points at this page
abbrev pub cite_of_page : List ℕ → CiteState
cite_of_page page = record (first_cite no_disambiguation) { locator = Some (record { kind = Page; payload = payload_text page }) }

-- the plain text of a first cite in a special form
abbrev pub part_of_cite : StyleParts → SpecialForm → Answers → List ℕ
part_of_cite style form answers = plain_text (special_cite style (first_cite no_disambiguation) form answers).content

-- the forms of its halves
abbrev pub by_authors : SpecialForm
by_authors = VarOnly (Name Author)

abbrev pub without_authors : SpecialForm
without_authors = SuppressAuthor

-- the cite in the running text
abbrev pub in_text : StyleParts → Answers → List ℕ
in_text style answers = part_of_cite style by_authors answers ++ codes " (" ++ part_of_cite style without_authors answers ++ codes ")"
