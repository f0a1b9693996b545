-- The content of a cite by its purpose (CSL 1.0.2, Citation; Bibliography; Layout): whole, in a form of
-- the citation, or as the bibliography has the work. Without a bibliography that is the whole cite.
use Rattle.std.specs.Prelude.{List, Option, Some, None}
use Rattle.csl_elements.specs.declared.taxonomy.NameVariable.TheVariants.{Author}
use Rattle.csl_elements.specs.declared.taxonomy.Variable.TheVariants.{Name}
use Rattle.csl_entry.specs.Answers.{Answers}
use Rattle.csl_entry.specs.Cite.{CiteState}
use Rattle.csl_entry.specs.declared.citation.cite.SpecialForm.{SpecialForm}
use Rattle.csl_entry.specs.declared.citation.cite.SpecialForm.TheVariants as forms
use Rattle.csl_elements.specs.declared.element.Layout.{Layout}
use Rattle.csl_render.specs.Cites.{special_cite, whole_cite}
use Rattle.csl_style.specs.Style.{StyleParts}
use Rattle.csl_style.specs.declared.style.settings.Scope.TheVariants as scopes
use Rattle.csl_tree.specs.Tokens.{Token}
use Rattle.csl_list.specs.declared.request.CitePurpose.{CitePurpose}
use Rattle.csl_list.specs.declared.request.CitePurpose.TheVariants as purposes

abbrev pub form_of : CitePurpose → Option SpecialForm
form_of purposes.Author = Some (forms.VarOnly (Name Author))
form_of purposes.Year = Some forms.OnlyFirstDate
form_of purposes.Full = None
form_of purposes.Prose = Some forms.SuppressAuthor
form_of purposes.SuppressAuthor = Some forms.SuppressAuthor

-- a cite in a form, or whole
abbrev pub citation_content : StyleParts → CiteState → Option SpecialForm → Answers → List Token
citation_content style cite (Some form) answers = (special_cite style cite form answers).content
citation_content style cite None answers = (whole_cite style scopes.Citation cite answers style.citation).content

abbrev pub content_by : StyleParts → CiteState → Answers → Option Layout → List Token
content_by style cite answers (Some layout) = (whole_cite style scopes.Bibliography cite answers layout).content
content_by style cite answers None = citation_content style cite None answers

abbrev pub full_content : StyleParts → CiteState → Answers → List Token
full_content style cite answers = content_by style cite answers style.bibliography

abbrev pub cite_content : StyleParts → CiteState → Option CitePurpose → Answers → List Token
cite_content style cite None answers = citation_content style cite None answers
cite_content style cite (Some purposes.Full) answers = full_content style cite answers
cite_content style cite (Some purposes.Author) answers = citation_content style cite (form_of purposes.Author) answers
cite_content style cite (Some purposes.Year) answers = citation_content style cite (form_of purposes.Year) answers
cite_content style cite (Some purposes.Prose) answers = citation_content style cite (form_of purposes.Prose) answers
cite_content style cite (Some purposes.SuppressAuthor) answers = citation_content style cite (form_of purposes.SuppressAuthor) answers
