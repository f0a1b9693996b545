-- What the calls of C leave (hosts/c/sulleqti.h): what an engine keeps before and after, nothing if
-- it is closed, and the status.
use Rattle.std.specs.Prelude.{ℕ, ◌≡◌, ℤ, pos, List, Option, Some, None}
use Rattle.std.specs.Str.{IsUtf8}
use Rattle.serde_json.specs.Data.{Data, null}
use Rattle.serde_json.specs.Read.{read}
use Rattle.csl_session.specs.Conversation.{Waits, IsTaken}
use Rattle.csl_session.specs.Limits.{IsWithin}
use Rattle.csl_session.specs.Replies.{id_of, IsReplyText}
use Rattle.csl_session.specs.declared.conversation.Conversation.{Conversation}
use Rattle.csl_session.specs.declared.conversation.Taken.{Taken}
use Rattle.csl_session.specs.declared.conversation.Taken.TheVariants.{Whole, TooSmall, NoReply}

-- after `sulleqti_open`
abbrev pub IsOpened : Option Conversation → ℤ → Type 0
IsOpened None status = status ≡ pos 1
IsOpened (Some kept) status = (status ≡ pos 0) × (kept.waiting ≡ None)

-- the reply to a request waits, and has this length
pub record HasAnswered (before after : Conversation) (request : List ℕ) (length : ℕ) : Type 0 where
  pub json : (d : Data) → IsWithin before.session.limits request → IsUtf8 request → read request ≡ Some d → Waits after.waiting length (IsReplyText (id_of d))
  pub other : (IsWithin before.session.limits request → IsUtf8 request → read request ≡ None) → Waits after.waiting length (IsReplyText null)

-- how `sulleqti_answer` ends on an engine that is open
pub data Answer (before after : Conversation) (request : List ℕ) (length : ℕ) (status : ℤ) : Type 0 where
  answered : status ≡ pos 0 → HasAnswered before after request length → Answer before after request length status
  out_of_memory : status ≡ pos 1 → after.waiting ≡ None → length ≡ 0 → Answer before after request length status

-- after `sulleqti_answer`
abbrev pub IsAnswered : Option Conversation → Option Conversation → List ℕ → ℕ → ℤ → Type 0
IsAnswered None after request length status = (after ≡ None) × (length ≡ 0) × (status ≡ pos 4)
IsAnswered (Some before) None request length status = ⊥
IsAnswered (Some before) (Some after) request length status = Answer before after request length status

-- the status that says whether a reply was taken
abbrev pub taken_status : Taken → ℤ
taken_status Whole = pos 0
taken_status TooSmall = pos 2
taken_status NoReply = pos 3

-- a reply is taken, or not
pub record HasTaken (before after : Conversation) (old new : List ℕ) (status : ℤ) : Type 0 where
  pub taken : Taken
  pub session : after.session ≡ before.session
  pub is : IsTaken before.waiting after.waiting old new taken
  pub says : status ≡ taken_status taken

-- after `sulleqti_take`, of an engine and a room
abbrev pub IsGiven : Option Conversation → Option Conversation → List ℕ → List ℕ → ℤ → Type 0
IsGiven None after old new status = (after ≡ None) × (new ≡ old) × (status ≡ pos 4)
IsGiven (Some before) None old new status = ⊥
IsGiven (Some before) (Some after) old new status = HasTaken before after old new status
