-- A report for programs.
use Rattle.std.proofs.Common.{◌≡◌, Result, Ok, Err, IfOk, Option, subst}
use Rattle.json.specs.Json.{Json}
use Rattle.reply_calls.specs.declared.printed.Printed.{Printed}
use Rattle.reply_answers.specs.declared.replies.Reply.{Reply}
use Rattle.reply_texts.specs.declared.bodies.Body.{Body}
use Rattle.reply_texts.specs.Bodies.{object_in, text_in}
use Rattle.reply_texts.specs.Objects.{object_of, IsInObject, IsShownAs, IsText}

-- what is written of the answer with the object and the text of a reply
pub shown : {E : Type 0} (reported : Reply) (body : Body) (result : Result Printed E) → object_in body ≡ object_of reported → IsText reported (text_in body)
    → IfOk result (IsShownAs (object_in body) (text_in body)) → IfOk result (IsInObject reported)
shown reported body (Ok printed) object text is =
    record { text = text_in body; is_text = text; shown = subst (λ (o : Option Json). IsShownAs o (text_in body) printed) object is }
shown reported body (Err why) object text is = tt
