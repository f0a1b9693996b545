-- The laws of trees and contents, proved for every input.
use Rattle.csl_tree.specs.Laws.{TreesAreHtmlOfTheirText, ContentsAreHtmlOfTheirText, HtmlHasOneText, NormalFormsAreNormal, NormalFormsKeepStyledValues, NormalFormsTellStyledValues}
use Rattle.csl_tree.specs.Simplify.{node_count}
use Rattle.csl_tree.proofs.Nested.{tree_is_html, content_is_html}
use Rattle.csl_tree.proofs.NormalForms.{ends_normal, end_equal, rounds_kept}
use Rattle.csl_tree.proofs.ReadSoFar.{one_text}

pub trees_are_html_of_their_text : TreesAreHtmlOfTheirText
trees_are_html_of_their_text c = tree_is_html c

pub contents_are_html_of_their_text : ContentsAreHtmlOfTheirText
contents_are_html_of_their_text c is = content_is_html c is

pub html_has_one_text : HtmlHasOneText
html_has_one_text html x y h k = one_text html x y h k

pub normal_forms_are_normal : NormalFormsAreNormal
normal_forms_are_normal t = ends_normal t

pub normal_forms_keep_styled_values : NormalFormsKeepStyledValues
normal_forms_keep_styled_values t = rounds_kept (node_count t) t

pub normal_forms_tell_styled_values : NormalFormsTellStyledValues
normal_forms_tell_styled_values t u e i = end_equal t u e i
