-- The answer to a number or page variable, as it prints (CSL 1.0.2, Text, `variable`; Number;
-- Number Variables). A place that the caller fills stays unchanged.
-- - By a number node (`number_node_text`): a number in the node's form and gender, pages in the
--   format of the style, a text unchanged.
-- - By a text node (`text_node_text`): a number in decimal, pages in the format of the style, a
--   text unchanged, and a text in place of pages with an en dash for each hyphen.
use Rattle.std.specs.Prelude.{ℕ, List, Option, None, option_map, string_bytes}
use Rattle.csl_common.specs.declared.ordinal.GrammarGender.{GrammarGender}
use Rattle.csl_common.specs.declared.form.NumberForm.{NumberForm}
use Rattle.csl_common.specs.declared.form.NumberForm.TheVariants.{Numeric}
use Rattle.lit_model.specs.MaybeTyped.{typed, text}
use Rattle.csl_elements.specs.declared.taxonomy.NumberOrPageVariable.{NumberOrPageVariable}
use Rattle.csl_elements.specs.declared.taxonomy.NumberOrPageVariable.TheVariants as number_or_page
use Rattle.csl_style.specs.Style.{StyleParts}
use Rattle.csl_tree.specs.Tokens.{Token}
use Rattle.csl_entry.specs.NumberResult.{ResultView, regular, transparent, NumberOrPageView, number, page}
use Rattle.csl_context.specs.State.{State, Inherited}
use Rattle.csl_context.specs.Texts.{text_in, transparent_in}
use Rattle.csl_context.specs.RenderInput.{RenderInput, peek_number, peek_page, number_text}
use Rattle.csl_nodes.specs.declared.number_or_page.NumberText.{NumberText}
use Rattle.csl_nodes.specs.declared.number_or_page.NumberText.TheVariants as of_shown
use Rattle.csl_nodes.specs.Pages.{pages_in_style, with_dashes}

-- the lookup of a variable that holds a number or pages
abbrev pub peek_number_or_page : RenderInput → State → NumberOrPageVariable → Option NumberOrPageView
peek_number_or_page w s (number_or_page.Number v) = option_map number (peek_number w s v)
peek_number_or_page w s (number_or_page.Page v) = option_map page (peek_page w s v)

-- a text, or a place that the caller fills for the cite with the given index
pub data NumberTextView : Type 0 where
  number_words : List ℕ → NumberTextView
  number_transparent : ℕ → NumberTextView

abbrev pub number_text_view : NumberText → NumberTextView
number_text_view (of_shown.Text bytes) = number_words (string_bytes bytes)
number_text_view (of_shown.Transparent index) = number_transparent index

abbrev pub shown_in : Inherited → NumberTextView → List Token
shown_in inh (number_words bs) = text_in inh bs
shown_in inh (number_transparent index) = transparent_in inh index

-- an answer to a number variable: a number in a form, a text unchanged, or a place of the caller
abbrev pub number_result_text : StyleParts → NumberForm → Option GrammarGender → ResultView → NumberTextView
number_result_text style form gender (regular (typed n)) = number_words (number_text style form gender n)
number_result_text style form gender (regular (text bs)) = number_words bs
number_result_text style form gender (transparent index) = number_transparent index

-- an answer as a number node prints it: pages in the format of the style, and a text unchanged
abbrev pub number_node_text : StyleParts → NumberForm → Option GrammarGender → NumberOrPageView → NumberTextView
number_node_text style form gender (number r) = number_result_text style form gender r
number_node_text style form gender (page (typed parts)) = number_words (pages_in_style style parts)
number_node_text style form gender (page (text bs)) = number_words bs

-- an answer as a text node prints it: numbers in decimal, and a text in place of pages with an en
-- dash for each hyphen
abbrev pub text_node_text : StyleParts → NumberOrPageView → NumberTextView
text_node_text style (number r) = number_result_text style Numeric None r
text_node_text style (page (typed parts)) = number_words (pages_in_style style parts)
text_node_text style (page (text bs)) = number_words (with_dashes bs)
