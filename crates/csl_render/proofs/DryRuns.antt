-- The results that dry runs keep for macros stay right. Each is that of a text that calls the
-- macro.
use Rattle.std.proofs.Common.{◌≡◌, ℕ, zero, suc, ◌<◌, Bool, true, false, cond, List, [], ◌∷◌, ◌++◌, length, get_or, Option, Some, None, IfSome, option_map, refl, sym, ap, subst, ◌∙◌}
use Rattle.std.proofs.lemmas.List.Elements.{All-push}
use Rattle.std.proofs.lemmas.Map.Lookups.{exact_unsigned}
use Rattle.std.proofs.lemmas.Slice.Eq.{bytes_eq-Decides}
use Rattle.std.specs.BTreeMap.{BTreeMap, get, is_at, Updates}
use Rattle.std.specs.Map.{lookup}
use Rattle.std.specs.declared.cmp.Ordering.{Ordering}
use Rattle.std.specs.declared.cmp.Ordering.TheVariants.{Less, Equal, Greater}
use Rattle.std.specs.Ordering.{is_eq, nat_cmp}
use Rattle.std.specs.Str.{bytes_eq}
use Rattle.csl_elements.specs.declared.taxonomy.Variable.{Variable}
use Rattle.csl_elements.specs.Dressing.{TextDressing}
use Rattle.csl_elements.specs.Node.{ExpandedNodes, expand_call, expand_nodes}
use Rattle.csl_elements.specs.View.{Definition, definitions}
use Rattle.csl_style.proofs.Called.{place-is}
use Rattle.csl_style.proofs.Meanings.{body-none}
use Rattle.csl_style.specs.Expanded.{macro_env}
use Rattle.csl_style.specs.Expansion.{macro_index, macro_body, expansion_to_depth, macro_expansion}
use Rattle.csl_style.specs.Style.{StyleParts}
use Rattle.csl_context.specs.State.{State}
use Rattle.csl_context.specs.RenderInput.{RenderInput}
use Rattle.csl_render.specs.declared.dry_run.KeptCall.{KeptCall}
use Rattle.csl_render.specs.DryRun.{nodes_at, call_info, call_shows, IsCallInfo, HasListed}
use Rattle.csl_render.specs.Plan.{DryView, TakesBranch}
use Rattle.csl_render.specs.Tree.{info, shows}

-- a key that is equal to another in the order of numbers is that number
at_order : (k q : ℕ) (o : Ordering) → nat_cmp k q ≡ o → is_eq o ≡ true → k ≡ q
at_order k q Less e h = absurd (cc)
at_order k q Equal e h = exact_unsigned k q e
at_order k q Greater e h = absurd (cc)

module _ {X : Type 0} (Right : ℕ → X → Type 0) where
  -- each kept result is right
  abbrev pub Kept : BTreeMap ℕ X → Type 0
  Kept m = (place : ℕ) (a : X) → get nat_cmp m place ≡ Some a → Right place a

  kept_by : (k q : ℕ) (b : Bool) (x y : X) (o : Option X) → (b ≡ true → k ≡ q) → (o ≡ Some y → Right q y) → Right k x → cond b (Some x) o ≡ Some y → Right q y
  kept_by k q true x y o same old new e =
      let here : k ≡ q = same refl in
      let value : x ≡ y = cc in
      rw (← here, ← value) new
  kept_by k q false x y o same old new e = old e

  pub learned : (m n : BTreeMap ℕ X) (k : ℕ) (x : X) → Updates nat_cmp m n k (Some x) → Kept m → Right k x → Kept n
  learned m n k x up kept new q y e = kept_by k q (is_at (nat_cmp k) q) x y (get nat_cmp m q) (at_order k q (nat_cmp k q) refl) (kept q y) new (sym (up.0 q) ∙ e)

  pub unchanged : (m n : BTreeMap ℕ X) → n.entries ≡ m.entries → Kept m → Kept n
  unchanged m n same kept place a e = kept place a (ap (lookup (is_at (nat_cmp place))) (sym same) ∙ e)

-- a value that is found has a property that each such value has
pub recalled : {X : Type 0} (P : X → Type 0) (o : Option X) → ((a : X) → o ≡ Some a → P a) → IfSome o P
recalled P None h = tt
recalled P (Some a) h = h a refl

-- ---- results in a list

module _ (w : RenderInput) (d : DryView) where
  -- a result under a name of the same bytes
  pub listed_here : (calls listed : List KeptCall) (i : ℕ) (x : KeptCall) (name : List ℕ) → listed ≡ calls → i < length listed → HasListed w d calls → bytes_eq (get_or listed i x).name.now name ≡ true → IsCallInfo w d (macro_env w.style name) (get_or listed i x).info
  listed_here calls listed i x name same inside all equal = subst (λ n. IsCallInfo w d (macro_env w.style n) (get_or listed i x).info) ((bytes_eq-Decides (get_or listed i x).name.now name).0 equal) (subst (HasListed w d) (sym same) all i x inside)

  -- one more result
  pub listed_more : (calls room now : List KeptCall) (x : KeptCall) → now ≡ room ++ x ∷ [] → room ≡ calls → HasListed w d calls → IsCallInfo w d (macro_env w.style x.name.now) x.info → HasListed w d now
  listed_more calls room now x pushed same all new = subst (HasListed w d) (sym (pushed ∙ ap (λ l. l ++ x ∷ []) same)) (All-push (λ c. IsCallInfo w d (macro_env w.style c.name.now) c.info) calls x all new)

-- ---- texts that call a macro

not_expanded : (ds : List Definition) (n : ℕ) (name : List ℕ) → macro_body name ds ≡ None → expansion_to_depth ds n name ≡ None
unfolding expansion_to_depth
not_expanded ds zero name none = refl
not_expanded ds (suc n) name none = ap (option_map (expand_nodes (expansion_to_depth ds n))) none

called_by : (style : StyleParts) (name : List ℕ) (o : Option ℕ) → macro_index name (definitions style.macros) ≡ o → nodes_at style o ≡ macro_env style name
unfolding macro_expansion
called_by style name None h = sym (not_expanded (definitions style.macros) (length (definitions style.macros)) name (body-none name (definitions style.macros) h))
called_by style name (Some i) h = ap (macro_env style) (place-is name (definitions style.macros) i h).named

-- the nodes at the place of a name are those that the name stands for
pub nodes_called : (style : StyleParts) (name : List ℕ) → nodes_at style (macro_index name (definitions style.macros)) ≡ macro_env style name
nodes_called style name = called_by style name (macro_index name (definitions style.macros)) refl

pub info_of_call : (w : RenderInput) (s : State) (d : TextDressing) (o : Option ExpandedNodes) → info w s (expand_call d o) ≡ call_info w s o
info_of_call w s d None = refl
info_of_call w s d (Some fs) = refl

pub shows_of_call : (w : RenderInput) (s : State) (v : Variable) (d : TextDressing) (o : Option ExpandedNodes) → shows w s v (expand_call d o) ≡ call_shows w s v o
shows_of_call w s v d None = refl
shows_of_call w s v d (Some fs) = refl

pub no_branch_of_call : (w : RenderInput) (s : State) (d : TextDressing) (i : ℕ) (o : Option ExpandedNodes) → TakesBranch w s (expand_call d o) i
no_branch_of_call w s d i None = tt
no_branch_of_call w s d i (Some fs) = tt
