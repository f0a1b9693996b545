use Rattle.std.proofs.Common.{◌≡◌, List, ℕ, refl, sym, ap, subst}
use Rattle.std.specs.Prelude.{Result, Err}
use Rattle.std.specs.Result.{IsErrAnd}
use Rattle.std.proofs.lemmas.Result.{err_from_is_err_and}
use Rattle.csl_tree.specs.declared.html_error.HtmlError.{HtmlError}
use Rattle.csl_tree.specs.declared.html_error.HtmlError.TheVariants as errors
use Rattle.csl_tree.specs.Html.{IsNotHtml}
use Rattle.csl_tree.specs.Tokens.{Token}
use Rattle.csl_tree.specs.Write.{text_in_format}
use Rattle.csl_tree.specs.declared.elem.BufWriteFormat.{BufWriteFormat}
use Rattle.csl_samples.specs.declared.entries.BuiltIn.{BuiltIn}
use Rattle.csl_samples.specs.declared.styles.BuiltInStyle.{BuiltInStyle}
use Rattle.csl_cli.specs.Answers.{IsAnswer, IsRefused}
use Rattle.csl_cli.specs.Content.{IsEntryContent}
use Rattle.csl_cli.specs.Command.{CommandView, cite_in, leaf_of, command_verdict}
use Rattle.csl_cli.proofs.answers.answer_to.Goals as goal

-- the content of a cite, in its format, answers the words for it
cite_answer : (v : CommandView) (entry : BuiltIn) (style : BuiltInStyle) (format : BufWriteFormat) (content : List Token) → v ≡ cite_in entry style format → IsEntryContent entry style content → IsAnswer v (text_in_format format content)
cite_answer v entry style format content is made = subst (λ (w : CommandView). IsAnswer w (text_in_format format content)) (sym is) (content, made, refl)

pub returns-in_ok-content-in-Cite-clause-ok : goal.returns-in_ok-content-in-Cite-clause-ok
returns-in_ok-content-in-Cite-clause-ok c =
    cite_answer _ c.in-Cite.entry c.in-Cite.style c.in-Cite.format _ (ap command_verdict c.in-Cite.is) c.in_ok-content-in-Cite.ensures

-- if reading returns `NotHtml`, the words ask for the leaf text of a text that is not HTML
refused_leaf : {T : Type 0} (v : CommandView) (why : HtmlError) (r : Result T HtmlError) (html : List ℕ) → v ≡ leaf_of html → (why ≡ errors.NotHtml → IsNotHtml html) → IsErrAnd r (λ e. e ≡ why) → r ≡ Err errors.NotHtml → IsRefused v
refused_leaf v errors.NotHtml r html is n h e = subst IsRefused (sym is) (n refl)
refused_leaf v errors.Memory r html is n h e = let p = err_from_is_err_and r h in absurd (cc (p.1, p.2, e))

pub returns-in_err-text-in-Leaf-clause-not_html : goal.returns-in_err-text-in-Leaf-clause-not_html
returns-in_err-text-in-Leaf-clause-not_html c e =
    refused_leaf _ c.in_err-text-in-Leaf.field-0.0 c.from_residual-in_err-text-in-Leaf.result c.in-Leaf.html.now (ap command_verdict c.in-Leaf.is)
    (λ h. c.in_err-text-in-Leaf.ensures.not_html (ap Err h)) c.from_residual-in_err-text-in-Leaf.ensures.1 e
