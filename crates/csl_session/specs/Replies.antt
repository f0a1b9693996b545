-- Replies to requests (docs/HOSTS.md, Requests and replies): a reply has the id of its request, and
-- beside it an answer or an error.
use Rattle.std.specs.Prelude.{ℕ, List, ◌≡◌, ◌≤◌, ◌⊎◌, Some, codes, unwrap_or}
use Rattle.serde_json.specs.Data.{Data, null, object, member, no_members, depth}
use Rattle.serde_json.specs.Find.{get}
use Rattle.serde_json.specs.Read.{read, max_depth}

-- the id of a request, `null` if it has none
abbrev pub id_of : Data → Data
id_of request = unwrap_or (get (codes "id") request) null

abbrev pub answer_reply : Data → Data → Data
answer_reply id answer = object (member (codes "id") id (member (codes "ok") answer no_members))

abbrev pub error_reply : Data → Data → Data
error_reply id error = object (member (codes "error") error (member (codes "id") id no_members))

-- a reply with this id: one of an answer and an error
pub record IsReply (id reply : Data) : Type 0 where
  pub has : Data
  pub is : (reply ≡ answer_reply id has) ⊎ (reply ≡ error_reply id has)

-- the text of a reply with this id, which is read as such if it has at most 127 levels
pub record IsReplyText (id : Data) (text : List ℕ) : Type 0 where
  pub reply : Data
  pub is : IsReply id reply
  pub is_read : depth reply ≤ max_depth → read text ≡ Some reply
