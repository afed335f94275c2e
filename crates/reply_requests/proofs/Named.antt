-- The request of an object that names a command.
use Rattle.std.proofs.Common.{◌≡◌, inr, ℕ, List, codes, Some, Result, Ok, Err, IfOk, IfErr, sym, ap, ◌∙◌, subst}
use Rattle.serde_json.specs.Data.{Data}
use Rattle.reply_requests.specs.declared.commands.Command.{Command}
use Rattle.reply_requests.specs.declared.refusals.Refusal.{Refusal}
use Rattle.reply_requests.specs.declared.requests.Request.{Request}
use Rattle.reply_requests.specs.Said.{text_said}
use Rattle.reply_requests.specs.Asked.{name_of, HasOnlyKeysOf, IsRequestFor, IsRequestIn}
use Rattle.reply_requests.specs.Reasons.{IsBadFor, IsReason}

pub asks : (d : Data) (name : List ℕ) (asked : Command) (result : Result Request Refusal) → text_said (codes "do") d ≡ Some (Some name) → name_of asked ≡ name
    → HasOnlyKeysOf asked d → IfOk result (IsRequestFor asked d) → IfOk result (IsRequestIn d)
asks d name asked (Ok r) said is keys says = record {
  named = said ∙ ap (λ n. Some (Some n)) (sym is ∙ ap name_of (sym says.0));
  keys = subst (λ c. HasOnlyKeysOf c d) (sym says.0) keys;
  says = says.1;
}
asks d name asked (Err why) said is keys says = tt

pub is_refused : (d : Data) (name : List ℕ) (asked : Command) (result : Result Request Refusal) → text_said (codes "do") d ≡ Some (Some name) → name_of asked ≡ name
    → IfErr result (IsBadFor asked d) → IfErr result (IsReason d)
is_refused d name asked (Ok r) said is bad = tt
is_refused d name asked (Err why) said is bad = inr (inr (asked, said ∙ ap (λ n. Some (Some n)) (sym is), inr bad))
