-- `==` of variables, and the order of variables and of kinds, decide whether two are equal.
use Rattle.std.proofs.Common.{◌≡◌, ◌↔◌, true, false, rules}
use Rattle.std.proofs.lemmas.Bool.{false≢true}
use Rattle.std.specs.declared.cmp.Ordering.TheVariants.{Less, Equal, Greater}
use Rattle.std.specs.Bool.{Decides}
use Rattle.csl_elements.specs.declared.taxonomy.Variable.{Variable}
use Rattle.csl_elements.specs.contracts.taxonomy.Variable.{enum as variables}
use Rattle.csl_elements.specs.contracts.taxonomy.VariableOrd.TheImpl.{cmp-value as cmp_variable}
use Rattle.csl_elements.specs.declared.taxonomy.StandardVariable.{StandardVariable}
use Rattle.csl_elements.specs.declared.taxonomy.NumberVariable.{NumberVariable}
use Rattle.csl_elements.specs.declared.taxonomy.PageVariable.{PageVariable}
use Rattle.csl_elements.specs.declared.taxonomy.DateVariable.{DateVariable}
use Rattle.csl_elements.specs.declared.taxonomy.NameVariable.{NameVariable}
use Rattle.csl_elements.specs.contracts.taxonomy.VariablePartialEq.TheImpl.{eq-value as eq_variable}
use Rattle.csl_elements.specs.contracts.taxonomy.StandardVariable.{enum as standards}
use Rattle.csl_elements.specs.contracts.taxonomy.StandardVariableOrd.TheImpl.{cmp-value as cmp_standard}
use Rattle.csl_elements.specs.contracts.taxonomy.StandardVariablePartialEq.TheImpl.{eq-value as eq_standard}
use Rattle.csl_elements.specs.contracts.taxonomy.NumberVariable.{enum as numbers}
use Rattle.csl_elements.specs.contracts.taxonomy.NumberVariableOrd.TheImpl.{cmp-value as cmp_number}
use Rattle.csl_elements.specs.contracts.taxonomy.NumberVariablePartialEq.TheImpl.{eq-value as eq_number}
use Rattle.csl_elements.specs.contracts.taxonomy.PageVariableOrd.TheImpl.{cmp-value as cmp_page}
use Rattle.csl_elements.specs.contracts.taxonomy.PageVariablePartialEq.TheImpl.{eq-value as eq_page}
use Rattle.csl_elements.specs.contracts.taxonomy.DateVariable.{enum as dates}
use Rattle.csl_elements.specs.contracts.taxonomy.DateVariableOrd.TheImpl.{cmp-value as cmp_date}
use Rattle.csl_elements.specs.contracts.taxonomy.DateVariablePartialEq.TheImpl.{eq-value as eq_date}
use Rattle.csl_elements.specs.contracts.taxonomy.NameVariable.{enum as names}
use Rattle.csl_elements.specs.contracts.taxonomy.NameVariableOrd.TheImpl.{cmp-value as cmp_name}
use Rattle.csl_elements.specs.contracts.taxonomy.NameVariablePartialEq.TheImpl.{eq-value as eq_name}
use Rattle.csl_elements.specs.declared.taxonomy.Kind.{Kind}
use Rattle.csl_elements.specs.contracts.taxonomy.Kind.{enum as kinds}
use Rattle.csl_elements.specs.contracts.taxonomy.KindOrd.TheImpl.{cmp-value as cmp_kind}
use Rattle.csl_elements.proofs.Alike.{values_tell, bare, alone, copies}

pub standard_decides : (a b : StandardVariable) → Decides (eq_standard.it a b) (a ≡ b)
standard_decides a b = search rules

pub number_decides : (a b : NumberVariable) → Decides (eq_number.it a b) (a ≡ b)
number_decides a b = search rules

pub page_decides : (a b : PageVariable) → Decides (eq_page.it a b) (a ≡ b)
page_decides a b = search rules

pub date_decides : (a b : DateVariable) → Decides (eq_date.it a b) (a ≡ b)
date_decides a b = search rules

pub name_decides : (a b : NameVariable) → Decides (eq_name.it a b) (a ≡ b)
name_decides a b = search rules

pub variable_decides : (a b : Variable) → Decides (eq_variable.it a b) (a ≡ b)
variable_decides a b =
    values_tell true false false false≢true false≢true variables _
    (alone true false false eq_standard.it standard_decides, (alone true false false eq_number.it number_decides, (alone true false false eq_page.it page_decides, (alone true false false eq_date.it date_decides, (alone true false false eq_name.it name_decides, tt))))) a b

pub standard_ordered : (a b : StandardVariable) → (cmp_standard.it a b ≡ Equal) ↔ (a ≡ b)
standard_ordered a b = values_tell Equal Less Greater (λ e. cc) (λ e. cc) standards _ (copies (bare Equal Less Greater) 47) a b

pub number_ordered : (a b : NumberVariable) → (cmp_number.it a b ≡ Equal) ↔ (a ≡ b)
number_ordered a b = values_tell Equal Less Greater (λ e. cc) (λ e. cc) numbers _ (copies (bare Equal Less Greater) 17) a b

pub page_ordered : (a b : PageVariable) → (cmp_page.it a b ≡ Equal) ↔ (a ≡ b)
page_ordered a b = search rules

pub date_ordered : (a b : DateVariable) → (cmp_date.it a b ≡ Equal) ↔ (a ≡ b)
date_ordered a b = values_tell Equal Less Greater (λ e. cc) (λ e. cc) dates _ (copies (bare Equal Less Greater) 6) a b

pub name_ordered : (a b : NameVariable) → (cmp_name.it a b ≡ Equal) ↔ (a ≡ b)
name_ordered a b = values_tell Equal Less Greater (λ e. cc) (λ e. cc) names _ (copies (bare Equal Less Greater) 27) a b

pub variable_ordered : (a b : Variable) → (cmp_variable.it a b ≡ Equal) ↔ (a ≡ b)
variable_ordered a b =
    values_tell Equal Less Greater (λ e. cc) (λ e. cc) variables _
    (alone Equal Less Greater cmp_standard.it standard_ordered, (alone Equal Less Greater cmp_number.it number_ordered, (alone Equal Less Greater cmp_page.it page_ordered, (alone Equal Less Greater cmp_date.it date_ordered, (alone Equal Less Greater cmp_name.it name_ordered, tt))))) a b

pub kind_ordered : (a b : Kind) → (cmp_kind.it a b ≡ Equal) ↔ (a ≡ b)
kind_ordered a b = values_tell Equal Less Greater (λ e. cc) (λ e. cc) kinds _ (copies (bare Equal Less Greater) 45) a b
