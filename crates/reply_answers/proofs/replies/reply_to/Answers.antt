use Rattle.std.proofs.Common.{sym, subst}
use Rattle.lex_check.specs.Pairs.{list_in}
use Rattle.reply_answers.specs.Replies.{IsReplyTo}
use Rattle.reply_answers.specs.declared.replies.Reply.TheVariants as reply
use Rattle.reply_answers.proofs.replies.reply_to.Goals as goal

pub returns-in_ok-compared-in-Compare-clause-reply : goal.returns-in_ok-compared-in-Compare-clause-reply
returns-in_ok-compared-in-Compare-clause-reply c =
    subst (λ r. IsReplyTo c.args.judges.now.maker.now c.args.judges.now.rules.now (list_in c.args.judges.now.pair.now) r (reply.Compared c.in_ok-compared-in-Compare.field-0)) (sym c.in-Compare.is)
    c.in_ok-compared-in-Compare.ensures.compared
