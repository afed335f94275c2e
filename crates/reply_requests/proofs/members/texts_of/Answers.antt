use Rattle.std.proofs.Common.{arith, inr, length, refl}
use Rattle.std.proofs.lemmas.Option.{slice_get_read}
use Rattle.serde_json.specs.View.{view}
use Rattle.reply_requests.proofs.NoTexts.{not_texts}
use Rattle.reply_requests.proofs.members.texts_of.Goals as goal

-- src/members.rt:134:13
pub returns-in_default-clause-reason : goal.returns-in_default-clause-reason
returns-in_default-clause-reason c =
    let values = c.args.values.now
    in let found = slice_get_read values (length values) c.loop-value.value-index c.value-item.result refl (omega arith) c.value-item.is
    in inr (refl, not_texts view values c.loop-value.value-index c.value-item.result found c.in_default.ensures)
