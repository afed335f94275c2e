-- The board of a text.
use Rattle.std.specs.Prelude.{ℕ, Bool, List, Option, Result, Ok, Err, IfOk}
use Rattle.std.specs.Borrow.{Bor}
use Rattle.ref_tiles.specs.declared.rulebook.Rules.{Rules}
use Rattle.reply_requests.specs.declared.requests.Request.TheVariants as request
use Rattle.reply_answers.specs.declared.replies.Reply.{Reply}
use Rattle.reply_answers.specs.Replies.{IsBoardReply, IsReplyByRules}

-- it is found by the rules alone
pub by_rules : {E : Type 0} (rules : Rules) (game : Bor (List ℕ)) (line : Option ℕ) (draft : Bool) (result : Result Reply E) → IfOk result (IsBoardReply draft rules line game.now)
    → IfOk result (IsReplyByRules rules (request.Board game line draft))
by_rules rules game line draft (Ok reported) is = record { is_reply = λ maker list. is }
by_rules rules game line draft (Err fault) is = tt
