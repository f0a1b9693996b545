-- Two entries, of one type or of two, *answer alike* on a set of variables and kinds (CSL 1.0.2,
-- Appendix III, Types; Appendix IV, Variables). They give the same answer to each variable in the
-- set: the same number or none, the same pages, the same chunks in the long form and in the short,
-- the same persons in order, the same date. Each kind in the set is a kind of both or of neither.
-- Variables and kinds outside of the set may differ, and so may key and language.
use Rattle.std.specs.Prelude.{◌≡◌, true, List, [], ◌∷◌}
use Rattle.csl_common.specs.declared.form.LongShortForm.{LongShortForm}
use Rattle.csl_elements.specs.NamedSet.{NamedItem, a_variable, a_kind, NamedSet}
use Rattle.csl_elements.specs.declared.taxonomy.Variable.TheVariants as variable
use Rattle.csl_entry.specs.Answers.{Answers}

-- both give the same answer to the variable, in both forms if it is a standard variable; both are
-- of the kind, or neither is
abbrev pub SameAnswer : Answers → Answers → NamedItem → Type 0
SameAnswer a b (a_variable (variable.Number v)) = a.numbers v ≡ b.numbers v
SameAnswer a b (a_variable (variable.Page v)) = a.pages v ≡ b.pages v
SameAnswer a b (a_variable (variable.Standard v)) = (form : LongShortForm) → a.standards form v ≡ b.standards form v
SameAnswer a b (a_variable (variable.Name v)) = a.names v ≡ b.names v
SameAnswer a b (a_variable (variable.Date v)) = a.dates v ≡ b.dates v
SameAnswer a b (a_kind k) = a.kinds k ≡ b.kinds k

abbrev pub SameNamedAnswers : NamedSet → Answers → Answers → Type 0
SameNamedAnswers ns a b = (q : NamedItem) → ns q ≡ true → SameAnswer a b q

abbrev pub Each : {A : Type 0} → (A → Type 0) → List A → Type 0
Each P [] = Unit {0}
Each P (x ∷ xs) = P x × Each P xs
