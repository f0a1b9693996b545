-- What names, choices and lists ask for: one child of names before others, and what is found after terms that are asked
-- for one after the other.
use Rattle.std.proofs.Common.{◌≡◌, ℕ, ◌+◌, ◌<◌, ◌≤◌, List, [], ◌∷◌, ◌++◌, length, get_or, slice_get, drop, subst, Bool, true, false, cond, Option, Some, None, filter, find, IfSome, Vec, Global, refl, sym, ap, ◌∙◌, arith, option_map, if◌then◌else◌, Result, Ok, Err, IfOk}
use Rattle.std.proofs.lemmas.Grind.{fold-append}
use Rattle.std.proofs.lemmas.List.{drop_more, drop_all}
use Rattle.std.proofs.lemmas.List.Elements.{filter-append}
use Rattle.std.proofs.lemmas.List.Folds.{find-append}
use Rattle.std.specs.List.{fold}
use Rattle.std.specs.Option.{option_or}
use Rattle.csl_elements.specs.declared.element.Choose.{Choose, out-Choose}
use Rattle.csl_elements.specs.declared.element.ChooseBranch.{out-ChooseBranch}
use Rattle.csl_elements.specs.declared.element.Names.{Names}
use Rattle.csl_elements.specs.declared.locale.Locale.{Locale}
use Rattle.csl_elements.specs.Names.{NamesNode}
use Rattle.csl_elements.specs.NamesParts.{names_node, names_substitutes}
use Rattle.csl_elements.specs.Node.{ExpandedNodes, expand, expand_nodes, expand_branches, expand_substitutes}
use Rattle.csl_elements.specs.View.{NamesChildView, a_substitute, view_names, view_nodes, view_choose, substitutes}
use Rattle.csl_elements.proofs.Rolled.{names_view}
use Rattle.csl_style.specs.declared.missing_term.TermScope.{TermScope}
use Rattle.csl_style.specs.declared.missing_term.Found.{Found}
use Rattle.csl_style.specs.FoundTerms.{Finds, with_missing}
use Rattle.csl_style.specs.MissingTerm.{AskedTerm, is_missing, has_asked, with_asked, each_once, asked_in_names, asked_in_child, asked_in_node, asked_in_nodes, asked_in_branches, asked_in_substitutes, in_substitutes}
use Rattle.csl_style.proofs.YearSuffixes.{behind, choose_out, nodes_out}

pub child_first : (ls : List Locale) (env : List ℕ → Option ExpandedNodes) (original : NamesNode) (a : TermScope) (c : NamesChildView) (cs : List NamesChildView)
    → asked_in_substitutes ls a (expand_substitutes env original (substitutes (c ∷ cs))) ≡ asked_in_child ls env original a c ++ asked_in_substitutes ls a (expand_substitutes env original (substitutes cs))
child_first ls env original a (a_substitute ns) cs = refl
child_first ls env original a other cs = refl

module _ (ls : List Locale) (a : TermScope) (env : List ℕ → Option ExpandedNodes) where
  pub names_asked : (x : Names) → asked_in_node ls a (expand env (view_names x)) ≡ asked_in_names a.and_is_a_word (names_node x) ++ asked_in_substitutes ls (in_substitutes (names_node x) a) (expand_substitutes env (names_node x) (names_substitutes x))
  names_asked x = ap (λ n. asked_in_node ls a (expand env n)) (names_view x)

  pub choose_asked : (x : Choose) → asked_in_node ls a (expand env (view_choose x)) ≡ asked_in_nodes ls a (expand_nodes env (view_nodes (out-ChooseBranch (out-Choose x).if_).children.items)) ++ asked_in_branches ls a (expand_branches env (behind x))
  choose_asked x =
      ap (λ n. asked_in_node ls a (expand env n)) (choose_out x)
      ∙ ap (λ ns. asked_in_nodes ls a (expand_nodes env ns) ++ asked_in_branches ls a (expand_branches env (behind x))) (nodes_out (out-Choose x).if_)

-- ---- the first and all missing terms of two lists

or_assoc : {X : Type 0} (a b c : Option X) → option_or (option_or a b) c ≡ option_or a (option_or b c)
or_assoc None b c = refl
or_assoc (Some x) b c = refl

pub or_none : {X : Type 0} (a : Option X) → option_or a None ≡ a
or_none None = refl
or_none (Some x) = refl

-- ---- what is found after two lists

both_lists : (ls : List Locale) (a b ts : List AskedTerm) → with_missing ls (a ++ b) ts ≡ with_missing ls b (with_missing ls a ts)
both_lists ls a b ts = ap (fold with_asked ts) (filter-append (is_missing ls) a b) ∙ fold-append with_asked ts (filter (is_missing ls) a) (filter (is_missing ls) b)

module _ (f g h : List AskedTerm → List AskedTerm) (joined : (ts : List AskedTerm) → h ts ≡ g (f ts)) where
  all_both : (x y z : Option (Vec AskedTerm Global)) → IfSome y (λ now. Some now.items ≡ option_map (λ v. f v.items) x) → IfSome z (λ now. Some now.items ≡ option_map (λ v. g v.items) y)
      → IfSome z (λ now. Some now.items ≡ option_map (λ v. h v.items) x)
  all_both x y None p q = tt
  all_both x None (Some w) p q = grind (arith, q)
  all_both None (Some v) (Some w) p q = grind (arith, p)
  all_both (Some u) (Some v) (Some w) p q = q ∙ ap (option_map g) p ∙ ap Some (sym (joined u.items))

pub finds_both : (ls : List Locale) (a b : List AskedTerm) (x y z : Found) → Finds ls a x y → Finds ls b y z → Finds ls (a ++ b) x z
finds_both ls a b x y z p q = record {
  first = q.first ∙ ap (λ o. option_or o (find (is_missing ls) b)) p.first ∙ or_assoc x.first (find (is_missing ls) a) (find (is_missing ls) b) ∙ ap (option_or x.first) (sym (find-append (is_missing ls) a b));
  all = all_both (with_missing ls a) (with_missing ls b) (with_missing ls (a ++ b)) (both_lists ls a b) x.all y.all z.all p.all q.all;
}

all_kept : (x : Option (Vec AskedTerm Global)) → IfSome x (λ now. Some now.items ≡ option_map (λ v. v.items) x)
all_kept None = tt
all_kept (Some v) = refl

pub finds_none : (ls : List Locale) (x : Found) → Finds ls [] x x
finds_none ls x = record { first = sym (or_none x.first); all = all_kept x.all }

-- ---- the first of the list is the first that is missing

either_list : (is : Bool) (P : List AskedTerm → Type 0) (x y : List AskedTerm) → P x → P y → P (if is then x else y)
either_list true P x y p q = p
either_list false P x y p q = q

first_kept : (t : AskedTerm) (ts us : List AskedTerm) → slice_get (fold with_asked (t ∷ ts) us) 0 ≡ Some t
first_kept t ts [] = refl
first_kept t ts (u ∷ us) =
    either_list (has_asked u (t ∷ ts)) (λ l. slice_get (fold with_asked l us) 0 ≡ Some t) (t ∷ ts) ((t ∷ ts) ++ u ∷ []) (first_kept t ts us) (first_kept t (ts ++ u ∷ []) us)

first_one : (is : Bool) (t : AskedTerm) (ts : List AskedTerm) (o : Option AskedTerm) → slice_get (each_once ts) 0 ≡ o → slice_get (each_once (cond is (t ∷ ts) ts)) 0 ≡ cond is (Some t) o
first_one true t ts o e = first_kept t [] ts
first_one false t ts o e = e

pub first_missing : (ls : List Locale) (asked : List AskedTerm) → slice_get (each_once (filter (is_missing ls) asked)) 0 ≡ find (is_missing ls) asked
first_missing ls [] = refl
first_missing ls (t ∷ ts) = first_one (is_missing ls t) t (filter (is_missing ls) ts) (find (is_missing ls) ts) (first_missing ls ts)

pub first_listed : {E : Type 0} (found : Result (Vec AskedTerm Global) E) (ts : List AskedTerm) (o : Option AskedTerm) → slice_get ts 0 ≡ o → IfOk found (λ v. v.items ≡ ts) → IfOk found (λ v. slice_get v.items 0 ≡ o)
first_listed (Ok v) ts o e h = ap (λ (us : List AskedTerm). slice_get us 0) h ∙ e
first_listed (Err x) ts o e h = tt

-- ---- loops over items that ask

module _ {X : Type 0} (ls : List Locale) (whole : List X → List AskedTerm) where
  pub next_found : (own : X → List AskedTerm) → ((x : X) (xs : List X) → whole (x ∷ xs) ≡ own x ++ whole xs) → (xs : List X) (i : ℕ) (x d : X) (a b end : Found) → i < length xs → x ≡ get_or xs i d
      → Finds ls (own x) a b → Finds ls (whole (drop (i + 1) xs)) b end → Finds ls (whole (drop i xs)) a end
  next_found own turn xs i x d a b end less is f g =
      subst (λ ts. Finds ls ts a end)
      (sym (ap whole (drop_more xs i d less) ∙ turn (get_or xs i d) (drop (i + 1) xs) ∙ ap (λ y. own y ++ whole (drop (i + 1) xs)) (sym is)))
      (finds_both ls (own x) (whole (drop (i + 1) xs)) a b end f g)

  pub last_found : (xs : List X) (i : ℕ) (a end : Found) → length xs ≤ i → Finds ls (whole []) a end → Finds ls (whole (drop i xs)) a end
  last_found xs i a end past f = subst (λ ts. Finds ls ts a end) (sym (ap whole (drop_all i xs past))) f
