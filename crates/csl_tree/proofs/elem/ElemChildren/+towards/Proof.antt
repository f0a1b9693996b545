-- `items_mut_towards` returns a mutable reference to the children to which the walk leads, and the
-- tree follows it. The proof is by induction on the length of the path.
use Rattle.std.proofs.Common.{◌≡◌, ℕ, ◌<◌, Bool, true, false, List, [], ◌∷◌, length, refl, sym, ap, ◌∙◌, MutBor, IsTrue, is_some, Some}
use mathlib.Core.Path.{subst}
use seplogic.Ra.Ura.{Ura}
use base.Fraction.{full_share}
use base.Logic.{SProp, ent, id⊢, via, fst∗, emp}
use base.Fml.{Lft, Share, GName, ftrue, flft, fres}
use lib.WfN.{lt-wf_rel}
use lib.Dec.{T}
use mir.Syntax.{named, Place}
use mir.Val.{Val, vptr}
use prog.Memory.{Memory}
use prog.Routine.{Routine}
use prog.Wp.{WpFn, Calls, Loops, Env, Tables}
use sound.WpLaws.{FmC, fm_of, WpFn-mono}
use contract.Monad.{fact, fact_i, Fun}
use contract.Running.{tables, tables_of}
use types.Logic.{Logic}
use types.Kit.{Item, Post, Step, ‵, raw, ◌⊛◌, some, later, at_ret, settles, ◌$◌, ◌∵◌, !, qed, done, by, move, keep, drop, use0, use1, use2, use3, split, join, fsplit, fsplit3, fjoin, fjoin3, feq_i, feq_l, pick, await, rewrite, regoal, suffices, frame, ⋆}
use types.Run.{enter, of_opd, addr, stop, no_more, and_then, first, branches, exec, returns}
use types.ByLocal.{alloc_all, pass_all, free_all, look_at, get, through, sets, lands_as, lands_last, env}
use types.Tokens.{lft_new, lft_end}
use denote.Builtin.{RefMutOf}
use denote.Exit.{no, yes}
use denote.Follow.{follows, follows_then}
use denote.Laws.{Is, shows}
use denote.Model.Fixed.{row_Makes}
use denote.Lend.{lends_again, comes_back, LentAgain}
use denote.Plain.{Boolean}
use denote.RattleType.{RattleType, owns}
use denote.Ref.{MutRef, mut_vals, mut_Tells}
use denote.Signature.{plain}
use denote.Steps.{nothing, heard, facts, owned, only}
use denote.Triple.Call.{calls_at, calls_at_last, calls_from_last}
use denote.Triple.Clauses.{lasts}
use denote.Triple.Statement.{Contract, Triple}
use mathlib.Core.Bool.{not}
use denote.Triple.Cycle.{Stated, measured, at_on, mutual_elim}
use denote.Triple.Entry.{on_entry}
use denote.Triple.Spec.{triple_of}
use denote.Triple.Walked.{Stays, walk_of, says, stay_dropped, Goes-spent_ref, Goes-dropped, ends_at, walked_at, walk_meets_at}
use Rattle.csl_tree.specs.declared.elem.ElemChild.{ElemChild}
use Rattle.csl_tree.specs.declared.elem.ElemChildren.{ElemChildren}
use Rattle.std.specs.declared.vec.Vec.{Vec}
use Rattle.std.specs.declared.alloc.Global.{Global}
use Rattle.csl_tree.specs.contracts.elem.ElemChildren as children
use Rattle.csl_tree.specs.contracts.elem.ElemChild as child
use Rattle.csl_tree.specs.contracts.places.Target as target
use Rattle.csl_tree.specs.declared.places.Target.{Target}
use Rattle.csl_tree.specs.Places.{children_of, with_children, child_at, put_child, items_row}
use Rattle.csl_tree.specs.Walks.{path_towards, has_next, index_towards, items_towards, put_items_towards}
use Rattle.csl_tree.proofs.Walks.{made, has_children, reached_down, reached_here, put_items_here, put_items_further, items_with, shorter}
use Rattle.csl_tree.proofs.places.Target.TheLaws.{lowers, the_row_laws, the_row_plain}
use Rattle.csl_tree.specs.contracts.elem.ElemChildren.items_mut_towards as f
use Rattle.csl_tree.specs.contracts.elem.ElemChildren.items_mut_towards.Key.{name as #self}
use Rattle.csl_tree.specs.contracts.elem.ElemChildren.has_next as goes
use Rattle.csl_tree.specs.contracts.elem.ElemChildren.child_mut_towards as next
use Rattle.csl_tree.specs.contracts.elem.ElemChild.children_mut as inside
use Rattle.csl_tree.specs.contracts.elem.ElemChildren.items_mut as items
use Rattle.csl_tree.specs.contracts.elem.ElemChildren.items_mut.Key.{name as #items}
use Rattle.csl_tree.proofs.elem.ElemChildren.items_mut.Met.{met as items_met}
use Rattle.csl_tree.proofs.elem.ElemChildren.has_next.Met.{met as goes_met}
use Rattle.csl_tree.proofs.elem.ElemChildren.child_mut_towards.Met.{met as child_met}
use Rattle.csl_tree.proofs.elem.ElemChild.children_mut.Met.{met as inside_met}
use Rattle.csl_tree.proofs.elem.ElemChildren.+towards.{statement, functions}
use Rattle.csl_tree.proofs.elem.ElemChildren.+towards.Code as code
use Rattle.csl_tree.proofs.elem.ElemChildren.+towards.Code.+items_mut_towards as body
use Rattle.csl_tree.specs.contracts.elem.ElemChildren.has_next.Key.{name as #goes}
use Rattle.csl_tree.specs.contracts.elem.ElemChildren.child_mut_towards.Key.{name as #next}
use Rattle.csl_tree.specs.contracts.elem.ElemChild.children_mut.Key.{name as #inside}

abbrev R : RattleType
R = children.the_row

abbrev K : RattleType
K = child.the_row

abbrev V : RattleType
V = items_row

abbrev W : RattleType
W = target.the_row

abbrev stayed : Stays f.ended.signature.params f.ended.kept
stayed = (stay_dropped (RefMutOf (0 ∷ []) tt (plain (λ _. R)) (λ _. tt)) no, (stay_dropped (plain (λ _. W)) yes, tt))

abbrev stored : Target → List Val
stored to = lowers.lowered to ∷ []

-- a result v that is known to be v' may be stored as v', in a call that ends its part
settles_as : {M : Type 1} {𝓤 : Ura M} {𝓛 : Logic 𝓤} {G : Type 0} {Γ : List (Item 𝓤)} → G → {E : Env 𝓤 𝓛.H} {d : Place} {v v' : Val} {q : Post 𝓤 𝓛.H} → v ≡ v' → Step G 𝓛 Γ (settles E d v' q) Γ (settles E d v q)
settles_as t {E} {d} {v} {v'} {q} e = regoal t (λ (p : Val). settles E d p q) e refl

is_true : (u : Bool) → T u → u ≡ true
is_true true t = refl
is_true false t = absurd t

is_false : (u : Bool) → T (not u) → u ≡ false
is_false true t = absurd t
is_false false t = refl

module _ {M : Type 1} {𝓤 : Ura M} (𝓛 : Logic 𝓤) (mem : Memory → SProp 𝓤) (ret : Routine → Fun 𝓤) (κ : Lft) (q : Share) (b o : ℕ) (γ : GName) (h : ElemChildren) (to : Target) where
  open 𝓛 use {H}

  abbrev at : (x : MutBor ElemChildren) → Val
  at x = vptr x.ref_ptr.0 x.ref_ptr.1

  abbrev self : MutBor ElemChildren
  self = record { ref_ptr = (b, o); ghost_name = γ; now = h }

  abbrev Ref : Lft → MutBor ElemChildren → Item 𝓤
  Ref κ' x = ‵ ((MutRef (named 0) κ' R).own_val x (at x ∷ []))

  abbrev bound : (walk_of 𝓛 f.ended stayed (f.clauses 𝓛 mem ret)).Ghost
  bound = (((κ, tt), (q, tt), tt, (self, (to, tt)), (vptr b o ∷ [], (stored to, tt))), tt)

  abbrev Done : Val → SProp 𝓤
  Done = (walk_of 𝓛 f.ended stayed (f.clauses 𝓛 mem ret)).post bound

  abbrev Out : MutBor (Vec ElemChild Global) → Item 𝓤
  Out x = ‵ ((MutRef (named 0) κ V).own_val x (vptr x.ref_ptr.0 x.ref_ptr.1 ∷ []))

  -- the result, the token, and how the tree follows it
  exits : (x : MutBor (Vec ElemChild Global)) → x.now ≡ items_towards to h → ent 𝓤 (⋆ 𝓛 (Out x ∷ ‵ (flft κ q) ∷ ‵ (follows R V γ x.ghost_name (put_items_towards to h)) ∷ [])) (Done (vptr x.ref_ptr.0 x.ref_ptr.1))
  exits x is =
      qed 𝓛 (Out x ∷ ‵ (flft κ q) ∷ ‵ (follows R V γ x.ghost_name (put_items_towards to h)) ∷ []) ∵
      suffices ! _ (ends_at 𝓛 f.ended stayed (f.clauses 𝓛 mem ret) bound (vptr x.ref_ptr.0 x.ref_ptr.1) x (tt, (tt, tt)) (tt, (tt, tt))) $
      nothing ! $ nothing ! $ fjoin ! $ nothing ! $ fjoin ! $ join ! $ nothing ! $ move ! (2 ∷ 0 ∷ []) $ join ! $ join ! $ frame ! $ says ! is $ done !

  -- the contract of each call, as a triple
  abbrev F : Contract 𝓤
  F = triple_of 𝓛 f.signature (f.spec 𝓛 mem ret)

  abbrev GoesOn : Contract 𝓤
  GoesOn = triple_of 𝓛 goes.signature (goes.spec 𝓛 mem ret)

  abbrev ChildOf : Contract 𝓤
  ChildOf = triple_of 𝓛 next.signature (next.spec 𝓛 mem ret)

  abbrev Inside : Contract 𝓤
  Inside = triple_of 𝓛 inside.signature (inside.spec 𝓛 mem ret)

  abbrev Items : Contract 𝓤
  Items = triple_of 𝓛 items.signature (items.spec 𝓛 mem ret)

  abbrev called : MutBor ElemChildren → F.Ghost
  called x = (((κ, tt), (q, tt), tt, (x, (to, tt)), (at x ∷ [], (stored to, tt))), tt)

  module _ (𝓣 : Tables 𝓤 H) (goes_known : Triple 𝓤 (𝓣.C #goes) GoesOn) (child_known : Triple 𝓤 (𝓣.C #next) ChildOf) (inside_known : Triple 𝓤 (𝓣.C #inside) Inside) (items_known : Triple 𝓤 (𝓣.C #items) Items)
      (is_to : Is W to (stored to)) (known : (x : MutBor ElemChildren) → length (path_towards to x.now) < length (path_towards to h) → ent 𝓤 (F.pre (called x)) (𝓣.C #self (at x ∷ stored to) (F.post (called x)))) where
    abbrev C : Calls 𝓤 H
    C = 𝓣.C

    abbrev Λ : Loops 𝓤 H
    Λ = 𝓣.Λ

    fm : FmC 𝓤 H 𝓛.laws C
    fm = fm_of 𝓤 H 𝓛.laws 𝓣

    walk : ent 𝓤 (on_entry 𝓛 f.signature (κ, tt) (q, tt) (self, (to, tt)) (vptr b o ∷ [], (stored to, tt))) (WpFn 𝓤 H C Λ code.items_mut_towards-function (vptr b o ∷ stored to) Done)
    walk =
        qed 𝓛 ((‵ (flft κ q) ⊛ ‵ ftrue) ∷ ‵ (owns (MutRef (named 0) κ R ∷ W ∷ []) (self, (to, tt)) (vptr b o ∷ [], (stored to, tt))) ∷ []) ∵ split ! $ move ! (2 ∷ []) $ fsplit ! $ keep ! (0 ∷ 2 ∷ []) $
        enter ! C Λ code.items_mut_towards-function (vptr b o ∷ stored to) _ $ alloc_all ! (λ l. pass_all ! refl ((tt, tt), (the_row_laws.lawful 𝓛).typed to (stored to) is_to) $
        let En : Env 𝓤 H = env code.items_mut_towards-function.locals l in
        -- the test borrows the reference and returns it unchanged
        sets ! (addr ! (through ! refl (stop !))) refl (tt, tt) $
        lft_new ! tt (λ α. move ! (1 ∷ 2 ∷ []) $
        use2 𝓛 (later (some (λ (δ : GName). Ref (α ∷ []) (record self { ghost_name = δ }) ⊛ ‵ (LentAgain R κ (α ∷ []) q γ b o δ h))))
        (lends_again 𝓛 R (named 0) κ (α ∷ []) q γ b o (named 0) h) $ await ! tt $ pick ! (λ δ. split ! $
        let z : GoesOn.Ghost = (((α ∷ [], tt), (full_share, tt), tt, (record self { ghost_name = δ }, (to, tt)), (vptr b o ∷ [], (stored to, tt))), tt) in
        nothing ! $ owned ! W (Is W) (row_Makes W the_row_plain 𝓛) to (stored to) is_to $ join ! $ move ! (1 ∷ 0 ∷ []) $ join ! $ nothing ! $ move ! (3 ∷ 0 ∷ []) $ join ! $ join ! $
        nothing ! $ move ! (1 ∷ 0 ∷ []) $ use2 𝓛 (raw (GoesOn.pre z)) (id⊢ 𝓤 _) $
        calls_at ! fm GoesOn goes_known z (and_then ! (get ! refl) (and_then ! (get ! refl) (no_more !))) (λ v.
        use1 𝓛 (later (some (λ (u : Bool). ((‵ (flft (α ∷ []) full_share) ⊛ ‵ ftrue) ⊛ ‵ (Boolean.own_val u (v ∷ []))) ⊛
        some (λ (ws : ElemChildren × (Unit {0} × Unit {0})). ‵ (lasts goes.ended z.0.0 z.0.3 ws) ⊛ (raw (fact 𝓤 (u ≡ has_next to h)) ⊛ raw (fact 𝓤 (ws.0 ≡ h))))))) (id⊢ 𝓤 _) $
        await ! tt $ pick ! (λ u. split ! $ split ! $ split ! $ lft_end ! tt $ move ! (2 ∷ []) $ facts ! Boolean (Is Boolean) (shows 𝓛 Boolean) u (v ∷ []) (λ is.
        lands_as ! (ap only is) refl (tt, tt) $
        move ! (2 ∷ []) $ pick ! (λ ws. split ! $ move ! (1 ∷ []) $ split ! $ heard ! _ (λ u_is. heard ! _ (λ same. fsplit ! $ fsplit ! $
        rewrite ! 0 (λ (x : ElemChildren). ‵ (fres δ (R.coded.code x))) same refl $
        move ! (3 ∷ 5 ∷ 0 ∷ []) $ use3 𝓛 (later (Ref κ self ⊛ ‵ (flft κ q))) (comes_back 𝓛 R (named 0) κ (α ∷ []) q γ b o δ h h) $ await ! tt $ split ! $
        -- [the reference; its token]
        first ! $ branches ! (get ! refl)
        (λ t. let e : has_next to h ≡ true = sym u_is ∙ is_true u t in
        sets ! (addr ! (through ! refl (stop !))) refl (tt, tt) $
        nothing ! $ owned ! W (Is W) (row_Makes W the_row_plain 𝓛) to (stored to) is_to $ join ! $ move ! (1 ∷ 0 ∷ []) $ join ! $ nothing ! $ move ! (2 ∷ 0 ∷ []) $ join ! $ join ! $
        use0 𝓛 (raw (fact 𝓤 (IsTrue (has_next to h)))) (fact_i 𝓤 (IsTrue (has_next to h)) (emp 𝓤) e) $ move ! (1 ∷ 0 ∷ []) $
        let z₁ : ChildOf.Ghost = (((κ, tt), (q, tt), tt, (self, (to, tt)), (vptr b o ∷ [], (stored to, tt))), tt) in
        use2 𝓛 (raw (ChildOf.pre z₁)) (id⊢ 𝓤 _) $
        calls_at ! fm ChildOf child_known z₁ (and_then ! (get ! refl) (and_then ! (get ! refl) (no_more !))) (λ v₁.
        use1 𝓛 (later (some (λ (x : MutBor ElemChild). ((‵ (flft κ q) ⊛ ‵ ftrue) ⊛ ‵ ((MutRef (named 0) κ K).own_val x (v₁ ∷ []))) ⊛
        some (λ (ws₁ : Unit {0} × (Unit {0} × Unit {0})). ‵ (lasts next.ended z₁.0.0 z₁.0.3 ws₁) ⊛ (‵ (follows R K γ x.ghost_name (put_child h (index_towards to h))) ⊛ raw (fact 𝓤 (x.now ≡ child_at h (index_towards to h)))))))) (id⊢ 𝓤 _) $
        await ! tt $ pick ! (λ x. split ! $ split ! $ move ! (2 ∷ []) $ pick ! (λ ws₁. split ! $ drop ! $ split ! $ move ! (1 ∷ []) $ heard ! _ (λ x_is.
        -- [how the tree follows the child; the token; the child]
        move ! (2 ∷ []) $ fsplit3 ! $ feq_l ! (λ at_x. feq_i ! (List Val) (vptr x.ref_ptr.0 x.ref_ptr.1 ∷ []) (vptr x.ref_ptr.0 x.ref_ptr.1 ∷ []) refl $ fjoin3 ! $
        lands_as ! (ap only at_x) refl (tt, tt) $
        nothing ! $ move ! (1 ∷ 0 ∷ []) $ join ! $ move ! (2 ∷ 0 ∷ []) $ join ! $
        use0 𝓛 (raw (fact 𝓤 (IsTrue (is_some (children_of x.now))))) (fact_i 𝓤 (IsTrue (is_some (children_of x.now))) (emp 𝓤) (has_children to h x.now x_is e)) $ move ! (1 ∷ 0 ∷ []) $
        let z₂ : Inside.Ghost = (((κ, tt), (q, tt), tt, (x, tt), (vptr x.ref_ptr.0 x.ref_ptr.1 ∷ [], tt)), tt) in
        use2 𝓛 (raw (Inside.pre z₂)) (id⊢ 𝓤 _) $
        calls_at ! fm Inside inside_known z₂ (and_then ! (get ! refl) (no_more !)) (λ v₂.
        use1 𝓛 (later (some (λ (y : MutBor ElemChildren). ((‵ (flft κ q) ⊛ ‵ ftrue) ⊛ ‵ ((MutRef (named 0) κ R).own_val y (v₂ ∷ []))) ⊛
        some (λ (ws₂ : Unit {0} × Unit {0}). ‵ (lasts inside.ended z₂.0.0 z₂.0.3 ws₂) ⊛ (‵ (follows K R x.ghost_name y.ghost_name (with_children x.now)) ⊛ raw (fact 𝓤 (Some y.now ≡ children_of x.now))))))) (id⊢ 𝓤 _) $
        await ! tt $ pick ! (λ y. split ! $ split ! $ move ! (2 ∷ []) $ pick ! (λ ws₂. split ! $ drop ! $ split ! $ move ! (1 ∷ []) $ heard ! _ (λ y_is.
        move ! (2 ∷ []) $ fsplit3 ! $ feq_l ! (λ at_y. feq_i ! (List Val) (at y ∷ []) (at y ∷ []) refl $ fjoin3 ! $
        lands_as ! (ap only at_y) refl (tt, tt) $
        nothing ! $ owned ! W (Is W) (row_Makes W the_row_plain 𝓛) to (stored to) is_to $ join ! $ move ! (1 ∷ 0 ∷ []) $ join ! $ move ! (2 ∷ 0 ∷ []) $ join ! $ nothing ! $ move ! (1 ∷ 0 ∷ []) $ use2 𝓛 (raw (F.pre (called y))) (id⊢ 𝓤 _) $
        calls_from_last ! fm (raw (F.pre (called y))) (at y ∷ stored to) (F.post (called y)) (known y (shorter to h y.now x.now x_is y_is e)) (and_then ! (get ! refl) (and_then ! (get ! refl) (no_more !))) (λ v₃.
        use1 𝓛 (later (some (λ (w : MutBor (Vec ElemChild Global)). ((‵ (flft κ q) ⊛ ‵ ftrue) ⊛ ‵ ((MutRef (named 0) κ V).own_val w (v₃ ∷ []))) ⊛
        some (λ (ws₃ : Unit {0} × (Unit {0} × Unit {0})). ‵ (lasts f.ended (called y).0.0 (called y).0.3 ws₃) ⊛ (‵ (follows R V y.ghost_name w.ghost_name (put_items_towards to y.now)) ⊛ raw (fact 𝓤 (w.now ≡ items_towards to y.now))))))) (id⊢ 𝓤 _) $
        await ! tt $ pick ! (λ w. split ! $ split ! $ move ! (2 ∷ []) $ pick ! (λ ws₃. split ! $ drop ! $ split ! $ move ! (1 ∷ []) $ heard ! _ (λ w_is.
        move ! (2 ∷ []) $ fsplit3 ! $ feq_l ! (λ at_w. feq_i ! (List Val) (vptr w.ref_ptr.0 w.ref_ptr.1 ∷ []) (vptr w.ref_ptr.0 w.ref_ptr.1 ∷ []) refl $ fjoin3 ! $
        settles_as ! (ap only at_w) $ lands_last ! refl (tt, tt) $
        exec ! C Λ En body.t-4 (at_ret En Done) $ sets ! (of_opd ! (get ! refl)) refl (tt, tt) $
        returns ! (look_at ! 0 refl) $ free_all ! refl $
        -- [the result; how the inner children follow it; the token; how the child follows them; how
        -- the tree follows the child]
        move ! (4 ∷ 3 ∷ []) $ use2 𝓛 (‵ (follows R R γ y.ghost_name (λ c. put_child h (index_towards to h) (with_children x.now c)))) (follows_then 𝓛 R K R (put_child h (index_towards to h)) (with_children x.now) γ x.ghost_name y.ghost_name) $
        move ! (0 ∷ 2 ∷ []) $ use2 𝓛 (‵ (follows R V γ w.ghost_name (items_with to h x.now y.now)))
        (follows_then 𝓛 R R V (λ c. put_child h (index_towards to h) (with_children x.now c)) (put_items_towards to y.now) γ y.ghost_name w.ghost_name) $
        rewrite ! 0 (λ (G : Vec ElemChild Global → ElemChildren). ‵ (follows R V γ w.ghost_name G)) (put_items_further to h y.now x.now x_is y_is e) refl $
        move ! (2 ∷ []) $ split ! $ keep ! (3 ∷ 0 ∷ 2 ∷ []) $ by ! (exits w (w_is ∙ ap (λ c. c.0) (reached_down to h y.now x.now x_is y_is e)))))))))))))))))))
        (λ t. let e : has_next to h ≡ false = sym u_is ∙ is_false u t in
        sets ! (addr ! (through ! refl (stop !))) refl (tt, tt) $
        nothing ! $ move ! (1 ∷ 0 ∷ []) $ join ! $ nothing ! $ move ! (2 ∷ 0 ∷ []) $ join ! $ join ! $ nothing ! $ move ! (1 ∷ 0 ∷ []) $
        let z₁ : Items.Ghost = (((κ, tt), (q, tt), tt, (self, tt), (vptr b o ∷ [], tt)), tt) in
        use2 𝓛 (raw (Items.pre z₁)) (id⊢ 𝓤 _) $
        calls_at_last ! fm Items items_known z₁ (and_then ! (get ! refl) (no_more !)) (λ v₁.
        use1 𝓛 (later (some (λ (x : MutBor (Vec ElemChild Global)). ((‵ (flft κ q) ⊛ ‵ ftrue) ⊛ ‵ ((MutRef (named 0) κ V).own_val x (v₁ ∷ []))) ⊛
        some (λ (ws₁ : Unit {0} × Unit {0}). ‵ (lasts items.ended z₁.0.0 z₁.0.3 ws₁) ⊛ (‵ (follows R V γ x.ghost_name made) ⊛ raw (fact 𝓤 (x.now ≡ h.0))))))) (id⊢ 𝓤 _) $
        await ! tt $ pick ! (λ x. split ! $ split ! $ move ! (2 ∷ []) $ pick ! (λ ws₁. split ! $ drop ! $ split ! $ move ! (1 ∷ []) $ heard ! _ (λ x_is.
        move ! (2 ∷ []) $ fsplit3 ! $ feq_l ! (λ at_x. feq_i ! (List Val) (vptr x.ref_ptr.0 x.ref_ptr.1 ∷ []) (vptr x.ref_ptr.0 x.ref_ptr.1 ∷ []) refl $ fjoin3 ! $
        settles_as ! (ap only at_x) $ lands_last ! refl (tt, tt) $
        exec ! C Λ En body.t-4 (at_ret En Done) $ sets ! (of_opd ! (get ! refl)) refl (tt, tt) $
        returns ! (look_at ! 0 refl) $ free_all ! refl $
        -- [the result; how the tree follows it; the token]
        move ! (1 ∷ []) $ rewrite ! 0 (λ (G : Vec ElemChild Global → ElemChildren). ‵ (follows R V γ x.ghost_name G)) (put_items_here to h e) refl $
        move ! (2 ∷ []) $ split ! $ keep ! (3 ∷ 0 ∷ 2 ∷ []) $ by ! (exits x (x_is ∙ ap (λ c. c.0) (reached_here to h e))))))))))))))))))

pub +towards_spec : {M : Type 1} → statement M
unfolding tables_of
+towards_spec {M} 𝓤 𝓛 𝓜 𝓡 wired =
    let 𝓣 : Tables 𝓤 𝓛.H = tables_of 𝓤 𝓛.H 𝓜 (tables 𝓤 𝓛.H 𝓜 𝓡 𝓡.env) in
    let mem = 𝓜.mem in let ret = 𝓡.returns in let fn = code.items_mut_towards-function in
    let run : Fun 𝓤 = 𝓡.run (𝓡.env #self) in
    let S : Stated 𝓤 = record { signature = f.signature; run = run; spec = f.spec 𝓛 mem ret } in
    let μ : (triple_of 𝓛 f.signature (f.spec 𝓛 mem ret)).Ghost → ℕ = λ y. length (path_towards y.0.3.1.0 y.0.3.0.now) in
    mutual_elim 𝓛 (functions 𝓛 mem 𝓡.run ret 𝓡.env) ◌<◌ lt-wf_rel.wf (measured 𝓛 S μ) (λ t below.
    at_on 𝓛 f.signature (f.spec 𝓛 mem ret) (WpFn 𝓤 𝓛.H 𝓣.C 𝓣.Λ fn) run (code.items_mut_towards-unfolded 𝓤 𝓛.H 𝓜 𝓡 wired) μ t (λ y e.
    walk_meets_at 𝓛 f.ended stayed (Goes-spent_ref 𝓛 1 (0 ∷ []) tt (plain (λ _. R)), (Goes-dropped 𝓛 1 (plain (λ _. W)) yes (λ κs x w. refl), tt)) (f.clauses 𝓛 mem ret) (WpFn 𝓤 𝓛.H 𝓣.C 𝓣.Λ fn) (WpFn-mono 𝓤 𝓛.H 𝓛.laws 𝓣 fn) y
    (walked_at 𝓛 f.ended stayed (f.clauses 𝓛 mem ret) (WpFn 𝓤 𝓛.H 𝓣.C 𝓣.Λ fn) y (mut_vals, (stored, tt)) (mut_Tells (named 0) y.0.0.0 R, (lowers.val_is, tt))
    (λ are. via 𝓤 (on_entry 𝓛 f.signature y.0.0 y.0.1 y.0.3 (mut_vals y.0.3.0, (stored y.0.3.1.0, tt))) (fst∗ 𝓤 _ (emp 𝓤))
    (walk 𝓛 mem ret y.0.0.0 y.0.1.0 y.0.3.0.ref_ptr.0 y.0.3.0.ref_ptr.1 y.0.3.0.ghost_name y.0.3.0.now y.0.3.1.0 𝓣
    (goes_met 𝓤 𝓛 𝓜 𝓡 (code.calls-csl_tree::elem::ElemChildren::has_next 𝓡.env wired))
    (child_met 𝓤 𝓛 𝓜 𝓡 (code.calls-csl_tree::elem::ElemChildren::child_mut_towards 𝓡.env wired))
    (inside_met 𝓤 𝓛 𝓜 𝓡 (code.calls-csl_tree::elem::ElemChild::children_mut 𝓡.env wired))
    (items_met 𝓤 𝓛 𝓜 𝓡 (code.calls-csl_tree::elem::ElemChildren::items_mut 𝓡.env wired))
    are.1.0
    (λ x lt. below (length (path_towards y.0.3.1.0 x.now)) (subst (λ (k : ℕ). length (path_towards y.0.3.1.0 x.now) < k) e lt) (called 𝓛 mem ret y.0.0.0 y.0.1.0 y.0.3.0.ref_ptr.0 y.0.3.0.ref_ptr.1 y.0.3.0.ghost_name y.0.3.0.now y.0.3.1.0 x) refl))))))
