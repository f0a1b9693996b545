-- A work in the bibliography before it is finished: its content between the texts of the style (CSL
-- 1.0.2, Bibliography; Layout). Its first field may be apart from the others (second-field-align).
use Rattle.std.specs.Prelude.{Bool, ◌&&◌, List, ◌++◌, Option, Some, None, is_some, string_bytes}
use Rattle.csl_elements.specs.declared.element.Layout.{Layout}
use Rattle.csl_entry.specs.Answers.{Answers}
use Rattle.csl_entry.specs.declared.forms.name_properties.NameDisambiguationProperties.{NameDisambiguationProperties}
use Rattle.csl_style.specs.Style.{StyleParts}
use Rattle.csl_tree.specs.Formatting.{apply_formatting, default_formatting}
use Rattle.csl_tree.specs.Tokens.{Token, tokens}
use Rattle.csl_tree.specs.declared.elem.ElemChildren.{ElemChildren}
use Rattle.csl_tree.specs.declared.formatting.Formatting.{Formatting}
use Rattle.csl_list.specs.CiteContent.{full_content}
use Rattle.csl_list.specs.Identity.{first_cite_by, is_marked}
use Rattle.csl_list.specs.Pieces.{text_of}
use Rattle.csl_list.specs.declared.identity.Identity.{Identity}
use Rattle.csl_list.specs.declared.options.BibliographyOptions.{BibliographyOptions}

-- the first field and the others in a row
abbrev pub tokens_of_fields : Option ElemChildren → ElemChildren → List Token
tokens_of_fields None others = tokens others
tokens_of_fields (Some first) others = tokens first ++ tokens others

-- the content of a work, with these forms of its names, if there are some, unless it is marked
abbrev pub content_of : StyleParts → Identity → Option NameDisambiguationProperties → Answers → List Token
content_of style identity forms answers = full_content style (first_cite_by identity forms) answers

-- whether forms of its names tell a work apart beside a year suffix or branches
abbrev pub has_names_beside : Identity → Option NameDisambiguationProperties → Bool
has_names_beside identity forms = is_marked identity && is_some forms

abbrev pub between_affixes : BibliographyOptions → Formatting → List Token → List Token
between_affixes options formatting content = text_of (string_bytes options.prefix) formatting ++ (content ++ text_of (string_bytes options.suffix) formatting)

abbrev pub formatting_of : Option Layout → Formatting
formatting_of None = default_formatting
formatting_of (Some layout) = apply_formatting layout.formatting default_formatting

-- the formatting of the texts around a work
abbrev pub affix_formatting : StyleParts → Formatting
affix_formatting style = formatting_of style.bibliography
