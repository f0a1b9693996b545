-- Replies, by what they have.
use Rattle.std.proofs.Common.{ℕ, List, ◌≡◌, ◌≤◌, inl, inr, Some}
use Rattle.serde_json.specs.Data.{Data, depth}
use Rattle.serde_json.specs.Read.{read, max_depth}
use Rattle.csl_session.specs.Replies.{answer_reply, error_reply, IsReply, IsReplyText}

pub answered : (id answer reply : Data) → reply ≡ answer_reply id answer → IsReply id reply
answered id answer reply e = record { has = answer; is = inl e }

pub failed : (id error reply : Data) → reply ≡ error_reply id error → IsReply id reply
failed id error reply e = record { has = error; is = inr e }

pub text_made : (id reply : Data) (text : List ℕ) → IsReply id reply → (depth reply ≤ max_depth → read text ≡ Some reply) → IsReplyText id text
text_made id reply text is r = record { reply = reply; is = is; is_read = r }
