-- The replies to what a command asks.
use Rattle.std.specs.Prelude.{◌≡◌, ℕ, Bool, List, [], ◌∷◌, length, Option}
use Rattle.std.specs.Borrow.{Bor}
use Rattle.ref_tiles.specs.declared.rulebook.Rules.{Rules}
use Rattle.page_answers.specs.declared.makers.Maker.{Maker}
use Rattle.reply_requests.specs.declared.tasks.Task.{Task}
use Rattle.reply_requests.specs.declared.requests.Request.{Request}
use Rattle.reply_requests.specs.declared.requests.Request.TheVariants as request
use Rattle.reply_requests.specs.Tasks.{request_of}
use Rattle.reply_answers.specs.declared.replies.Reply.{Reply}
use Rattle.reply_answers.specs.Replies.{IsReplyTo, IsReplyByRules}

-- the first and the second of the sheets that are read; one that is not there has no bytes
abbrev pub first_of : (texts : List (List ℕ)) → List ℕ
first_of [] = []
first_of (text ∷ texts) = text

abbrev pub second_of : (texts : List (List ℕ)) → List ℕ
second_of [] = []
second_of (text ∷ texts) = first_of texts

-- What pages are made by says how many words the list has.
abbrev pub IsMakerOf : (list : List (List ℕ)) → Maker → Type 0
IsMakerOf list maker = maker.words ≡ length list

-- the reply to a request, with pages that are made by such a maker
pub record IsReplyBy (rules : Rules) (list : List (List ℕ)) (asked : Request) (reply : Reply) : Type 0 where
  pub maker : Maker
  pub made : IsMakerOf list maker
  pub is_reply : IsReplyTo maker rules list asked reply

-- the reply to the request that asks this of the first of the sheets with these bytes
pub record IsReplyOn (rules : Rules) (list : List (List ℕ)) (asked : Task) (texts : List (List ℕ)) (reply : Reply) : Type 0 where
  pub sheet : Bor (List ℕ)
  pub bytes : sheet.now ≡ first_of texts
  pub is_reply : IsReplyBy rules list (request_of asked sheet) reply

-- the reply to the request to compare the sheets with these bytes
pub record IsReplyOnBoth (rules : Rules) (list : List (List ℕ)) (merged draft : Bool) (texts : List (List ℕ)) (reply : Reply) : Type 0 where
  pub first : Bor (List ℕ)
  pub second : Bor (List ℕ)
  pub first_bytes : first.now ≡ first_of texts
  pub second_bytes : second.now ≡ second_of texts
  pub is_reply : IsReplyBy rules list (request.Compare first second merged draft) reply

-- the reply to the request for the board of the sheet, or of the draft, with these bytes, before a line if one is named
pub record IsBoardOn (rules : Rules) (line : Option ℕ) (draft : Bool) (text : List ℕ) (reply : Reply) : Type 0 where
  pub sheet : Bor (List ℕ)
  pub bytes : sheet.now ≡ text
  pub is_reply : IsReplyByRules rules (request.Board sheet line draft) reply
