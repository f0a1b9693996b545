-- `==` of terms is true exactly if they are equal.
use Rattle.std.proofs.Common.{◌≡◌, ℕ, true, false, nat_eq, rules}
use Rattle.std.proofs.lemmas.Bool.{false≢true}
use Rattle.std.specs.Bool.{Decides}
use denote.Enum.Bare.{sameb}
use Rattle.csl_common.specs.declared.season.Season.{Season}
use Rattle.csl_common.specs.contracts.season.Season.{the_type as season}
use Rattle.csl_elements.specs.declared.taxonomy.Locator.{Locator}
use Rattle.csl_elements.specs.contracts.taxonomy.Locator.{the_type as locators}
use Rattle.csl_elements.specs.contracts.taxonomy.NumberVariablePartialEq.TheImpl.{eq-value as eq_number}
use Rattle.csl_elements.specs.contracts.taxonomy.PageVariablePartialEq.TheImpl.{eq-value as eq_page}
use Rattle.csl_elements.specs.contracts.taxonomy.NameVariablePartialEq.TheImpl.{eq-value as eq_name}
use Rattle.csl_elements.specs.declared.term.Term.{Term}
use Rattle.csl_elements.specs.contracts.term.Term.{enum as terms}
use Rattle.csl_elements.specs.contracts.term.TermPartialEq.TheImpl.{eq-value as eq_term}
use Rattle.csl_elements.specs.declared.term.OtherTerm.{OtherTerm}
use Rattle.csl_elements.specs.contracts.term.OtherTerm.{enum as other_terms}
use Rattle.csl_elements.specs.contracts.term.OtherTermPartialEq.TheImpl.{eq-value as eq_other}
use Rattle.csl_elements.proofs.Alike.{values_tell, bare, alone}
use Rattle.csl_elements.proofs.Variables.{number_decides, page_decides, name_decides}

months_decide : (x y : ℕ) → Decides (nat_eq x y) (x ≡ y)
months_decide x y = search rules

seasons_decide : (x y : Season) → Decides (sameb season x y) (x ≡ y)
seasons_decide x y = search rules

pub other_decides : (a b : OtherTerm) → Decides (eq_other.it a b) (a ≡ b)
other_decides a b =
    let u = bare true false false in
    values_tell true false false false≢true false≢true other_terms _
    (u, (u, (u, (u, (u, (u, (u, (u, (u, (alone true false false nat_eq months_decide, (alone true false false (sameb season) seasons_decide, (u, (u, (u, (u, (u, (u, (u, (u, (u, (u, (u, (u, (u, (u, (u, (u, (u, (u, (u, (u, (u, (u, (u, tt)))))))))))))))))))))))))))))))))) a b

locator_decides : (a b : Locator) → Decides (sameb locators a b) (a ≡ b)
locator_decides a b = search rules

pub term_decides : (a b : Term) → Decides (eq_term.it a b) (a ≡ b)
term_decides a b =
    values_tell true false false false≢true false≢true terms _
    (alone true false false eq_name.it name_decides, (alone true false false eq_number.it number_decides, (alone true false false eq_page.it page_decides, (alone true false false (sameb locators) locator_decides, (alone true false false eq_other.it other_decides, tt))))) a b
