use Rattle.csl_elements.proofs.OneName.{standard_given, number_given, page_given, date_given}
use Rattle.csl_elements.proofs.taxonomy.Variable.from_name.Goals as goal

pub returns-in-Some : goal.returns-in-Some
returns-in-Some c = standard_given _ _ c.variable_spelling-name.ensures _ _ c.in-Some.is c.from_name.ensures

pub returns-in-Some-from_name : goal.returns-in-Some-from_name
returns-in-Some-from_name c = number_given _ _ c.variable_spelling-name.ensures _ _ c.in-Some-from_name.is c.from_name-2.ensures

pub returns-in-Some-from_name-2 : goal.returns-in-Some-from_name-2
returns-in-Some-from_name-2 c = page_given _ _ c.variable_spelling-name.ensures _ _ c.in-Some-from_name-2.is c.from_name-3.ensures

pub returns-in-Some-from_name-3 : goal.returns-in-Some-from_name-3
returns-in-Some-from_name-3 c = date_given _ _ c.variable_spelling-name.ensures _ _ c.in-Some-from_name-3.is c.from_name-4.ensures
