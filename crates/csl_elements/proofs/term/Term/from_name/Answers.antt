use Rattle.std.proofs.Common.{◌≡◌, None, rules}
use Rattle.csl_elements.proofs.FirstTerm.{name_first, number_first, page_first, locator_first}
use Rattle.csl_elements.proofs.term.Term.from_name.Goals as goal

pub returns-in-Some : goal.returns-in-Some
returns-in-Some c = name_first _ _ c.term_spelling-name.ensures _ _ c.in-Some.is c.role_of_name.ensures

pub returns-in-Some-from_name : goal.returns-in-Some-from_name
returns-in-Some-from_name c =
    let no_name : c.role_of_name.result ≡ None = search rules in
    number_first _ _ c.term_spelling-name.ensures _ no_name c.role_of_name.ensures _ _ c.in-Some-from_name.is c.from_name.ensures

pub returns-in-Some-from_name-2 : goal.returns-in-Some-from_name-2
returns-in-Some-from_name-2 c =
    let no_name : c.role_of_name.result ≡ None = search rules in
    let no_number : c.from_name.result ≡ None = search rules in
    page_first _ _ c.term_spelling-name.ensures _ no_name c.role_of_name.ensures _ no_number c.from_name.ensures _ _ c.in-Some-from_name-2.is c.from_name-2.ensures

pub returns-in-Some-from_name-3 : goal.returns-in-Some-from_name-3
returns-in-Some-from_name-3 c =
    let no_name : c.role_of_name.result ≡ None = search rules in
    let no_number : c.from_name.result ≡ None = search rules in
    let no_page : c.from_name-2.result ≡ None = search rules in
    locator_first _ _ c.term_spelling-name.ensures _ no_name c.role_of_name.ensures _ no_number c.from_name.ensures _ no_page c.from_name-2.ensures _ _ c.in-Some-from_name-3.is c.from_name-3.ensures
