-- The terms and the ordinals of a locale (CSL 1.0.2, Locale) as plain data: texts as bytes.
use Rattle.std.specs.Prelude.{ℕ, List, map, Option, option_map, string_bytes}
use Rattle.csl_common.specs.declared.ordinal.GrammarGender.{GrammarGender}
use Rattle.csl_elements.specs.declared.term.Term.{Term}
use Rattle.csl_elements.specs.declared.term.TermForm.{TermForm}
use Rattle.csl_elements.specs.declared.locale.TermEntry.{TermEntry}
use Rattle.csl_elements.specs.declared.locale.OrdinalSlot.{OrdinalSlot}
use Rattle.csl_elements.specs.declared.locale.OrdinalMatch.{OrdinalMatch}
use Rattle.csl_elements.specs.declared.locale.OrdinalTerm.{OrdinalTerm}
use Rattle.csl_elements.specs.declared.locale.Locale.{Locale}

-- a term in one form
pub record TermView : Type 0 where
  pub term : Term
  pub form : TermForm
  pub single : List ℕ
  pub multiple : Option (List ℕ)
  pub gender : Option GrammarGender

abbrev pub term_view : TermEntry → TermView
term_view e = record {
  term = e.term;
  form = e.form;
  single = string_bytes e.single;
  multiple = option_map string_bytes e.multiple;
  gender = e.gender;
}

-- an ordinal
pub record OrdinalView : Type 0 where
  pub slot : OrdinalSlot
  pub matching : Option OrdinalMatch
  pub gender : Option GrammarGender
  pub text : List ℕ

abbrev pub ordinal_view : OrdinalTerm → OrdinalView
ordinal_view o = record { slot = o.slot; matching = o.matching; gender = o.gender; text = string_bytes o.text }

-- the terms and the ordinals of a locale, in order
abbrev pub terms_of : Locale → List TermView
terms_of l = map term_view l.terms.items

abbrev pub ordinals_of : Locale → List OrdinalView
ordinals_of l = map ordinal_view l.ordinals.items
