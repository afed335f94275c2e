use Rattle.std.proofs.Common.{subst}
use Rattle.reply_calls.proofs.SheetLaws.{on_one}
use Rattle.reply_calls.proofs.finding.find_one.Goals as goal

pub returns-in-Ok-reply : goal.returns-in-Ok-reply
returns-in-Ok-reply g c =
    let rules = c.args.rules.now in
    on_one (λ b. b.items) (g.G.Input.device c.args.sheet.now) (g.G.Input.device c.read_sheet.new.sheet) (g.Q.AskingByRules.is_reply c.args.asking.now rules) c.in-Ok.text c.in-Ok-reply.reply c.in-Ok.ensures
    (subst (λ t. g.Q.AskingByRules.is_reply c.args.asking.now rules t c.in-Ok-reply.reply) c.as_slice.ensures.value c.in-Ok-reply.ensures.reply)
