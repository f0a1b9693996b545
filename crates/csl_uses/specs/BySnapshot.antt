-- The first cite of a work as HTML, and the text of its sort key in the bibliography by a layout of
-- one variable (CSL 1.0.2, Citation; Sorting).
use Rattle.std.specs.Prelude.{ℕ, List}
use Rattle.csl.specs.Style.Style.{StyleParts}
use Rattle.csl.specs.Style.declared.element.Layout.{Layout}
use Rattle.csl.specs.Style.declared.style.settings.Scope.TheVariants.{Citation, Bibliography}
use Rattle.csl.specs.Tree.Write.{text_in_format}
use Rattle.csl.specs.Tree.declared.elem.BufWriteFormat.TheVariants.{Html}
use Rattle.csl.specs.Entry.Answers.{Answers}
use Rattle.csl.specs.Entry.Cite.{first_cite, no_disambiguation}
use Rattle.csl.specs.Entry.declared.citation.cite.Sorting.TheVariants.{Variable}
use Rattle.csl.specs.Render.Cites.{whole_cite, sort_key_text}

abbrev pub cite_html : StyleParts → Answers → List ℕ
cite_html style answers = text_in_format Html (whole_cite style Citation (first_cite no_disambiguation) answers style.citation).content

abbrev pub key_text : StyleParts → Layout → Answers → List ℕ
key_text style layout answers = sort_key_text style Bibliography (first_cite no_disambiguation) Variable answers layout
