-- What calls leave, by what an engine keeps before and after.
use Rattle.std.proofs.Common.{◌≡◌, ℕ, ℤ, pos, List, sym, subst}
use Rattle.std.specs.declared.option.Option.{Option}
use Rattle.std.specs.declared.option.Option.TheVariants.{None, Some}
use Rattle.csl_session.specs.Conversation.{IsTaken}
use Rattle.csl_session.specs.declared.conversation.Conversation.{Conversation}
use Rattle.csl_session.specs.declared.conversation.Taken.{Taken}
use Rattle.csl_c.specs.Exports.{Answer, out_of_memory, IsOpened, IsAnswered, IsGiven, taken_status}

pub opened : (kept : Option Conversation) (made : Conversation) (status : ℤ)
    → kept ≡ Some made → made.waiting ≡ None → status ≡ pos 0 → IsOpened kept status
opened kept made status k w s = subst (λ o. IsOpened o status) (sym k) (s, w)

pub not_opened : (kept : Option Conversation) (status : ℤ) → kept ≡ None → status ≡ pos 1 → IsOpened kept status
not_opened kept status k s = subst (λ o. IsOpened o status) (sym k) s

pub closed_answer : (old new : Option Conversation) (request : List ℕ) (length : ℕ) (status : ℤ)
    → old ≡ None → new ≡ None → length ≡ 0 → status ≡ pos 4 → IsAnswered old new request length status
closed_answer old new request length status o n l s = subst (λ k. IsAnswered k new request length status) (sym o) (n, l, s)

pub open_answer : (old new : Option Conversation) (before after : Conversation) (request : List ℕ) (length : ℕ) (status : ℤ)
    → old ≡ Some before → new ≡ Some after → Answer before after request length status → IsAnswered old new request length status
open_answer old new before after request length status o n a =
    subst (λ k. IsAnswered k new request length status) (sym o) (subst (λ k. IsAnswered (Some before) k request length status) (sym n) a)

pub no_answer : (old new : Option Conversation) (before after : Conversation) (request : List ℕ) (length : ℕ) (status : ℤ)
    → old ≡ Some before → new ≡ Some after → status ≡ pos 1 → after.waiting ≡ None → length ≡ 0 → IsAnswered old new request length status
no_answer old new before after request length status o n s w l = open_answer old new before after request length status o n (out_of_memory s w l)

pub closed_take : (kept after : Option Conversation) (old new : List ℕ) (status : ℤ)
    → kept ≡ None → after ≡ None → new ≡ old → status ≡ pos 4 → IsGiven kept after old new status
closed_take kept after old new status k a n s = subst (λ o. IsGiven o after old new status) (sym k) (a, n, s)

pub open_take : (kept left : Option Conversation) (before after : Conversation) (old new : List ℕ) (status : ℤ) (taken : Taken)
    → kept ≡ Some before → left ≡ Some after → after.session ≡ before.session → IsTaken before.waiting after.waiting old new taken
    → status ≡ taken_status taken → IsGiven kept left old new status
open_take kept left before after old new status taken k l same is says =
    subst (λ o. IsGiven o left old new status) (sym k) (subst (λ o. IsGiven (Some before) o old new status) (sym l)
    (record { taken = taken; session = same; is = is; says = says }))
