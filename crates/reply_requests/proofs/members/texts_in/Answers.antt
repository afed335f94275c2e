use Rattle.std.proofs.Common.{rules, map, refl}
use Rattle.serde_json.specs.View.{view}
use Rattle.reply_requests.proofs.NoTexts.{no_texts}
use Rattle.reply_requests.proofs.members.texts_in.Goals as goal

-- src/members.rt:143:1
pub returns-in-Err-clause-reason : goal.returns-in-Err-clause-reason
returns-in-Err-clause-reason c =
    search (rules, no_texts c.args.key c.args.key.now (view c.args.object.now) (view c.in-Some.value.now) (map view c.as_slice.result.now) c.in-Err.why refl)
