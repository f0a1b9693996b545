-- No two terms that are of no variable and no locator have the same name: the first of the name of one is
-- this one.
use Rattle.std.proofs.Common.{◌≡◌, ◌↔◌, ℕ, zero, suc, Bool, true, false, List, Option, Some, None, find, slice_get, bytes_eq, refl, sym, ap, ◌∙◌}
use Rattle.std.proofs.lemmas.Slice.Eq.{bytes_eq-Decides}
use Rattle.csl_common.specs.declared.season.Season.{Season}
use Rattle.csl_common.specs.declared.season.Season.TheVariants as seasons
use Rattle.csl_elements.specs.declared.term.OtherTerm.{OtherTerm}
use Rattle.csl_elements.specs.declared.term.OtherTerm.TheVariants as others
use Rattle.csl_elements.specs.declared.term.term_names.TheConstants.{OTHER_TERMS}
use Rattle.csl_elements.specs.TermNames.{months, season_name, other_name}
use Rattle.csl_elements.proofs.ByName.{passes}

-- whether a name, if there is one, is this one
abbrev pub is_name : List ℕ → Option (List ℕ) → Bool
is_name name None = false
is_name name (Some own) = bytes_eq own name

of_name : (name : List ℕ) (own : Option (List ℕ)) → is_name name own ≡ true → own ≡ Some name
of_name name None e = cc
of_name name (Some own) e = ap Some ((bytes_eq-Decides own name).0 e)

by_name : List ℕ → Option OtherTerm
by_name name = find (λ t. is_name name (other_name t)) OTHER_TERMS

by_option : Option (List ℕ) → Option OtherTerm
by_option None = None
by_option (Some name) = by_name name

month_by_name : (month : ℕ) (name : List ℕ) → slice_get months month ≡ Some name → by_name name ≡ Some (others.Month month)
unfolding by_name by_option
month_by_name zero name e = sym (ap by_option e)
month_by_name (suc zero) name e = sym (ap by_option e)
month_by_name (suc (suc zero)) name e = sym (ap by_option e)
month_by_name (suc (suc (suc zero))) name e = sym (ap by_option e)
month_by_name (suc (suc (suc (suc zero)))) name e = sym (ap by_option e)
month_by_name (suc (suc (suc (suc (suc zero))))) name e = sym (ap by_option e)
month_by_name (suc (suc (suc (suc (suc (suc zero)))))) name e = sym (ap by_option e)
month_by_name (suc (suc (suc (suc (suc (suc (suc zero))))))) name e = sym (ap by_option e)
month_by_name (suc (suc (suc (suc (suc (suc (suc (suc zero)))))))) name e = sym (ap by_option e)
month_by_name (suc (suc (suc (suc (suc (suc (suc (suc (suc zero))))))))) name e = sym (ap by_option e)
month_by_name (suc (suc (suc (suc (suc (suc (suc (suc (suc (suc zero)))))))))) name e = sym (ap by_option e)
month_by_name (suc (suc (suc (suc (suc (suc (suc (suc (suc (suc (suc zero))))))))))) name e = sym (ap by_option e)
month_by_name (suc (suc (suc (suc (suc (suc (suc (suc (suc (suc (suc (suc month)))))))))))) name e = cc

season_by_name : (season : Season) → by_name (season_name season) ≡ Some (others.Season season)
unfolding by_name
season_by_name seasons.Spring = refl
season_by_name _ = refl

by_its_name : (t : OtherTerm) (name : List ℕ) → other_name t ≡ Some name → by_name name ≡ Some t
unfolding by_name by_option
by_its_name others.And name e = sym (ap by_option e)
by_its_name (others.Month month) name e = month_by_name month name e
by_its_name (others.Season season) name e = sym (ap by_option e) ∙ season_by_name season
by_its_name _ name e = sym (ap by_option e)

-- the first term of a name is the one that has it
pub other_named : (name : List ℕ) (found : Option OtherTerm) → found ≡ find (λ t. is_name name (other_name t)) OTHER_TERMS → (t : OtherTerm) → (found ≡ Some t) ↔ (other_name t ≡ Some name)
unfolding by_name
other_named name found e t = (
  λ f. of_name name (other_name t) (passes (λ u. is_name name (other_name u)) OTHER_TERMS t (sym e ∙ f)),
  λ f. e ∙ by_its_name t name f,
)
