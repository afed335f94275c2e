-- An answer is one to the request whose reply it gives.
use Rattle.std.proofs.Common.{◌≡◌, ℕ, List, Result, Ok, Err, IfOk}
use Rattle.ref_tiles.specs.declared.rulebook.Rules.{Rules}
use Rattle.game_exits.specs.Exits.{status_of}
use Rattle.page_answers.specs.declared.makers.Maker.{Maker}
use Rattle.reply_requests.specs.declared.requests.Request.{Request}
use Rattle.reply_answers.specs.declared.replies.Reply.{Reply}
use Rattle.reply_answers.specs.Exits.{status_of_reply}
use Rattle.reply_answers.specs.Replies.{IsReplyTo}
use Rattle.reply_texts.specs.Bodies.{object_in, text_in}
use Rattle.reply_texts.specs.Objects.{object_of, IsText}
use Rattle.cli_serve.specs.declared.answering.Response.{Response}
use Rattle.cli_serve.specs.Responses.{IsAnswerTo}

pub answered : {E : Type 0} (maker : Maker) (rules : Rules) (list : List (List ℕ)) (asked : Request) (reply : Reply) (result : Result Response E) → IsReplyTo maker rules list asked reply
    → IfOk result (λ response. status_of response.exit ≡ status_of_reply reply) → IfOk result (λ response. object_in response.body ≡ object_of reply) → IfOk result (λ response. IsText reply (text_in response.body))
    → IfOk result (λ response. IsAnswerTo maker rules list asked response.exit (object_in response.body) (text_in response.body))
answered maker rules list asked reply (Ok response) is status object said = record { reply = reply; is_reply = is; status = status; object_is = object; said_is = said }
answered maker rules list asked reply (Err why) is status object said = tt
