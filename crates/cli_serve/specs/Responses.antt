-- The answer to a request.
use Rattle.std.specs.Prelude.{◌≡◌, ℕ, List, Option}
use Rattle.json.specs.Json.{Json}
use Rattle.ref_tiles.specs.declared.rulebook.Rules.{Rules}
use Rattle.game_exits.specs.declared.exits.Exit.{Exit}
use Rattle.game_exits.specs.Exits.{status_of}
use Rattle.page_answers.specs.declared.makers.Maker.{Maker}
use Rattle.reply_requests.specs.declared.requests.Request.{Request}
use Rattle.reply_answers.specs.declared.replies.Reply.{Reply}
use Rattle.reply_answers.specs.Exits.{status_of_reply}
use Rattle.reply_answers.specs.Replies.{IsReplyTo}
use Rattle.reply_texts.specs.Objects.{object_of, IsText}

-- its status, its object and its text are those of the reply to the request
pub record IsAnswerTo (maker : Maker) (rules : Rules) (list : List (List ℕ)) (asked : Request) (exit : Exit) (object : Option Json) (said : Option (List ℕ)) : Type 0 where
  pub reply : Reply
  pub is_reply : IsReplyTo maker rules list asked reply
  pub status : status_of exit ≡ status_of_reply reply
  pub object_is : object ≡ object_of reply
  pub said_is : IsText reply said
