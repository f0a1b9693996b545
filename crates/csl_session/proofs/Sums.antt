-- The bytes of all entries, as one of them comes or goes.
use Rattle.std.proofs.Common.{refl, suc, ◌+◌, ◌≡◌, ◌≤◌, ◌∷◌, [], Bool, true, false, List, length, sym, ap, ◌∙◌, arith}
use Rattle.std.specs.Prelude.{Option, Some, None, IsSome, is_some, String, cond, if◌then◌else◌}
use Rattle.std.specs.Ordering.{match_ordering, is_eq}
use Rattle.std.specs.declared.cmp.Ordering.{Ordering}
use Rattle.std.specs.declared.cmp.Ordering.TheVariants.{Less, Equal, Greater}
use Rattle.std.specs.declared.alloc.Global.{Global}
use Rattle.std.specs.Map.{lookup, remove_entry}
use Rattle.std.specs.BTreeMap.{BTreeMap, get, btree_map_len, insert_entry, is_at}
use Rattle.csl_session.specs.declared.kept.Kept.{Kept}
use Rattle.csl_session.specs.Kept.{bytes_if, entries_bytes}

abbrev pub Entry : Type 0 → Type 0
Entry T = String Global × Kept T

drop_step : {T : Type 0} (e : Entry T) (es rest : List (Entry T)) (o : Option (Kept T)) (b : Bool) → entries_bytes rest + bytes_if o ≡ entries_bytes es → entries_bytes (cond b es (e ∷ rest)) + bytes_if (cond b (Some e.1) o) ≡ entries_bytes (e ∷ es)
drop_step e es rest o true h = omega arith
drop_step e es rest o false h = omega arith

pub bytes_without : {T : Type 0} (test : String Global → Bool) (es : List (Entry T)) → entries_bytes (remove_entry test es) + bytes_if (lookup test es) ≡ entries_bytes es
bytes_without test [] = refl
bytes_without test (e ∷ es) = drop_step e es (remove_entry test es) (lookup test es) (test e.0) (bytes_without test es)

put_step : {T : Type 0} (k : String Global) (v : Kept T) (e : Entry T) (es more : List (Entry T)) (o : Option (Kept T)) (r : Ordering) → ((IsSome o → length more ≡ length es) → entries_bytes more + bytes_if o ≡ entries_bytes es + v.bytes) → (IsSome (cond (is_eq r) (Some e.1) o) → length (match_ordering r ((k, v) ∷ e ∷ es) ((e.0, v) ∷ es) (e ∷ more)) ≡ length (e ∷ es)) → entries_bytes (match_ordering r ((k, v) ∷ e ∷ es) ((e.0, v) ∷ es) (e ∷ more)) + bytes_if (cond (is_eq r) (Some e.1) o) ≡ entries_bytes (e ∷ es) + v.bytes
put_step k v e es more None Less h l = omega arith
put_step k v e es more (Some w) Less h l = let p : suc (suc (length es)) ≡ suc (length es) = l refl in let no : ⊥ = omega arith in absurd no
put_step k v e es more o Equal h l = omega arith
put_step k v e es more o Greater h l = let q : entries_bytes more + bytes_if o ≡ entries_bytes es + v.bytes = h (λ s. let p : suc (length more) ≡ suc (length es) = l s in let r : length more ≡ length es = omega arith in r) in omega arith

pub bytes_with : {T : Type 0} (cmp : String Global → String Global → Ordering) (k : String Global) (v : Kept T) (es : List (Entry T)) → (IsSome (lookup (is_at (cmp k)) es) → length (insert_entry cmp es k v) ≡ length es) → entries_bytes (insert_entry cmp es k v) + bytes_if (lookup (is_at (cmp k)) es) ≡ entries_bytes es + v.bytes
bytes_with cmp k v [] l = omega arith
bytes_with cmp k v (e ∷ es) l = put_step k v e es (insert_entry cmp es k v) (lookup (is_at (cmp k)) es) (cmp k e.0) (bytes_with cmp k v es) l

-- a value that is kept counts, and the one whose place it takes no longer does
pub bytes_put : {T : Type 0} (cmp : String Global → String Global → Ordering) (m n : BTreeMap (String Global) (Kept T)) (k : String Global) (v : Kept T) (o : Option (Kept T)) → n.entries ≡ insert_entry cmp m.entries k v → o ≡ get cmp m k → btree_map_len n ≡ btree_map_len m + (if is_some o then 0 else 1) → entries_bytes n.entries + bytes_if o ≡ entries_bytes m.entries + v.bytes
bytes_put cmp m n k v o e h l = rw (e, h) (bytes_with cmp k v m.entries (λ s. let some : is_some o ≡ true = (ap is_some h) ∙ s in ap length (sym e) ∙ (let p : btree_map_len n ≡ btree_map_len m + (if true then 0 else 1) = l ∙ ap (λ b. btree_map_len m + (if b then 0 else 1)) some in let q : btree_map_len n ≡ btree_map_len m = omega arith in q)))

pub bytes_below : {T : Type 0} (test : String Global → Bool) (m : BTreeMap (String Global) (Kept T)) → bytes_if (lookup test m.entries) ≤ entries_bytes m.entries
bytes_below test m = let e : entries_bytes (remove_entry test m.entries) + bytes_if (lookup test m.entries) ≡ entries_bytes m.entries = bytes_without test m.entries in omega arith

pub bytes_gone : {T : Type 0} (test : String Global → Bool) (m n : BTreeMap (String Global) (Kept T)) (o : Option (Kept T)) → n.entries ≡ remove_entry test m.entries → o ≡ lookup test m.entries → entries_bytes n.entries + bytes_if o ≡ entries_bytes m.entries
bytes_gone test m n o e h = rw (e, h) (bytes_without test m.entries)
