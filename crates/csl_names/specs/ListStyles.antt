-- A style's settings for a list of names (CSL 1.0.2, Name; Et-al). The word before the last name is
-- `&`, or the long term `and`, or empty if the style lacks the term (`and_word`). `et al.` is the
-- long form of the term that the Et-al names. Delimiter, rules and order come from the options
-- (`list_style`, `list_style_in`).
use Rattle.std.specs.Prelude.{ℕ, Bool, false, List, [], Option, Some, None, codes, is_some, unwrap_or}
use Rattle.lit_model.specs.Person.{PersonView}
use Rattle.csl_elements.specs.declared.names.NameAnd.{NameAnd}
use Rattle.csl_elements.specs.declared.names.NameAnd.TheVariants.{Text, Symbol}
use Rattle.csl_elements.specs.declared.taxonomy.NameVariable.{NameVariable}
use Rattle.csl_elements.specs.declared.term.Term.TheVariants.{Other}
use Rattle.csl_elements.specs.declared.term.OtherTerm.TheVariants.{And}
use Rattle.csl_elements.specs.declared.term.TermForm.TheVariants.{Long}
use Rattle.csl_elements.specs.NamesOptions.{CompleteOptions}
use Rattle.csl_elements.specs.Names.{NameNode, EtAlNode}
use Rattle.csl_style.specs.Style.{StyleParts}
use Rattle.csl_entry.specs.NameProperties.{NameForms}
use Rattle.csl_context.specs.Context.{ContextView}
use Rattle.csl_context.specs.RenderInput.{term_in}
use Rattle.csl_names.specs.declared.list.ListStyle.{ListStyle}
use Rattle.csl_names.specs.Name.{name_style_view}
use Rattle.csl_names.specs.List.{ListStyleView, with_names}
use Rattle.csl_names.specs.NameStyles.{name_style}

-- the word before the last name, if there is an `and`: an ampersand, or the term, or an empty text
-- if the style lacks it
abbrev pub and_word : StyleParts → Option NameAnd → Option (List ℕ)
and_word style None = None
and_word style (Some Symbol) = Some (codes "&")
and_word style (Some Text) = Some (unwrap_or (term_in style (Other And) Long false) [])

-- the settings that the code holds, as data; the code borrows the texts, and looks a term up in the
-- style when it writes it
abbrev pub list_style_view : ListStyle → ListStyleView
list_style_view s = record {
  variable = s.variable;
  name = name_style_view s.name;
  delimiter = s.delimiter.now;
  and_word = and_word s.style.now s.and;
  before_last = s.before_last;
  before_et_al = s.before_et_al;
  use_last = s.use_last;
  order = s.order;
  et_al = term_in s.style.now (Other s.et_al) Long false;
  et_al_formatting = s.et_al_formatting;
}

-- the settings of a list of names, in a sort key or not
abbrev pub list_style : StyleParts → Bool → NameNode → CompleteOptions → EtAlNode → NameVariable → ListStyleView
list_style style sorting name o et_al variable = record {
  variable = variable;
  name = name_style style.settings sorting name o;
  delimiter = o.delimiter;
  and_word = and_word style o.and;
  before_last = o.delimiter_precedes_last;
  before_et_al = o.delimiter_precedes_et_al;
  use_last = o.et_al_use_last;
  order = o.name_as_sort_order;
  et_al = term_in style (Other et_al.term) Long false;
  et_al_formatting = et_al.formatting;
}

-- the settings of a list of names in a context
abbrev pub list_style_in : {T : Type 0} → ContextView T → NameNode → CompleteOptions → EtAlNode → NameVariable → ListStyleView
list_style_in now name o et_al variable = list_style now.style (is_some now.sorting) name o et_al variable

-- the context after a list of names
abbrev pub with_name_list : {T : Type 0} → NameNode → CompleteOptions → EtAlNode → NameVariable → List PersonView → NameForms → ContextView T → ContextView T
with_name_list name o et_al variable persons forms now = with_names (list_style_in now name o et_al variable) persons forms now
