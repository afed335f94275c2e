-- The lines of answers. The status and the objects are exactly those of the replies.
use Rattle.std.specs.Prelude.{◌≡◌, ◌⊎◌, ◌≤◌, ◌++◌, ℕ, false, List, [], codes, decimal, IsUtf8, Option, Some, None}
use Rattle.ref_tiles.specs.declared.rulebook.Rules.{Rules}
use Rattle.json.specs.Json.{Json, string}
use Rattle.json_trees.specs.Texts.{json_text}
use Rattle.json_trees.specs.Values as values
use Rattle.json_base.specs.Refusals.{trouble_object}
use Rattle.serde_json.specs.Data.{Data, depth}
use Rattle.serde_json.specs.Read.{read, max_depth}
use Rattle.serde_json.specs.Written.{has_float, compact_text}
use Rattle.game_exits.specs.declared.exits.Exit.{Exit}
use Rattle.game_exits.specs.Exits.{status_of}
use Rattle.page_answers.specs.declared.makers.Maker.{Maker}
use Rattle.cli_serve.specs.Responses.{IsAnswerTo}
use Rattle.reply_requests.specs.declared.refusals.Refusal.{Refusal}
use Rattle.reply_requests.specs.declared.requests.Request.{Request}
use Rattle.reply_requests.specs.Asked.{IsRequestIn}
use Rattle.reply_requests.specs.Reasons.{IsReason, IsReasonOfId}
use Rattle.reply_requests.specs.Said.{value_at}

-- the beginning of the line of an answer: the id, and the status by which the program would end
abbrev pub head : (id : List ℕ) → (status : ℕ) → List ℕ
head id status = codes "{\"id\":" ++ (id ++ (codes ",\"status\":" ++ decimal status))

-- The text of an id: null without one; otherwise that of its value, and if that is a float, one that is read as the same.
abbrev pub IsIdText : Option Data → (id : List ℕ) → Type 0
IsIdText None id = id ≡ codes "null"
IsIdText (Some v) id = (has_float v ≡ false → id ≡ compact_text v) × (depth v ≤ max_depth → read id ≡ Some v)

-- what an answer has in addition: an object, a text, or both
abbrev pub object_part : Option Json → List ℕ
object_part None = []
object_part (Some tree) = codes ",\"answer\":" ++ json_text tree

abbrev pub text_part : Option (List ℕ) → List ℕ
text_part None = []
text_part (Some bytes) = codes ",\"text\":" ++ json_text (values.text bytes)

-- the line of an answer with this id and this status
abbrev pub answer_line : (id : List ℕ) → (status : ℕ) → (object : Option Json) → (said : Option (List ℕ)) → List ℕ
answer_line id status object said = head id status ++ (object_part object ++ (text_part said ++ codes "}\n"))

-- the line that says that a line is not a request, and why: 64 is the status of a request that is none
abbrev pub refused_line : (id error : List ℕ) → List ℕ
refused_line id error = head id 64 ++ (codes ",\"error\":" ++ (json_text (string error) ++ codes "}\n"))

-- the line that says that there is no memory for an answer
abbrev pub no_memory_line : (id : List ℕ) → List ℕ
no_memory_line id = answer_line id 4 (Some (trouble_object (codes "no memory") None)) None

-- the line of the answer to a request, with this id, with the status of the reply, and with the object and the text of the reply
pub record IsAnswerLine (maker : Maker) (rules : Rules) (list : List (List ℕ)) (asked : Request) (id : List ℕ) (old new : List ℕ) : Type 0 where
  pub exit : Exit
  pub object : Option Json
  pub said : Option (List ℕ)
  pub answer : IsAnswerTo maker rules list asked exit object said
  pub line : new ≡ old ++ answer_line id (status_of exit) object said

-- a line that says that a line is not a request, with this id
pub record IsRefusedWith (id : List ℕ) (old new : List ℕ) : Type 0 where
  pub error : List ℕ
  pub line : new ≡ old ++ refused_line id error

pub record IsRefusedLine (old new : List ℕ) : Type 0 where
  pub id : List ℕ
  pub refused : IsRefusedWith id old new

-- the answer to the request of an object, which has the id of the object
pub record IsAnswered (maker : Maker) (rules : Rules) (list : List (List ℕ)) (d : Data) (old new : List ℕ) : Type 0 where
  pub id : List ℕ
  pub id_is : IsIdText (value_at (codes "id") d) id
  pub asked : Request
  pub request : IsRequestIn d asked
  pub answered : IsAnswerLine maker rules list asked id old new

-- or that there is no memory for one
pub record HasNoMemory (d : Data) (old new : List ℕ) : Type 0 where
  pub id : List ℕ
  pub id_is : IsIdText (value_at (codes "id") d) id
  pub line : new ≡ old ++ no_memory_line id

-- or that the object is not a request, for a reason that is true of it
pub record IsNoRequest (d : Data) (old new : List ℕ) : Type 0 where
  pub why : Refusal
  pub reason : IsReason d why ⊎ IsReasonOfId d why
  pub refused : IsRefusedLine old new

-- the line of what is answered to an object
abbrev pub IsLineOf : Maker → Rules → (list : List (List ℕ)) → Data → (old new : List ℕ) → Type 0
IsLineOf maker rules list d old new = IsAnswered maker rules list d old new ⊎ (HasNoMemory d old new ⊎ IsNoRequest d old new)

-- the line of what is answered to a text: to the object that it is, or that it is none
abbrev pub IsLineBy : Maker → Rules → (list : List (List ℕ)) → Option Data → (new : List ℕ) → Type 0
IsLineBy maker rules list (Some d) new = IsLineOf maker rules list d [] new
IsLineBy maker rules list None new = IsRefusedLine [] new

abbrev pub IsLineOfText : Maker → Rules → (list : List (List ℕ)) → (text : List ℕ) → (new : List ℕ) → Type 0
IsLineOfText maker rules list text new = IsUtf8 text → IsLineBy maker rules list (read text) new
