use Rattle.lex_check.specs.Pairs.{list_in}
use Rattle.cli_replies.proofs.asked.reply_by.Goals as goal

pub reply_to-requires : goal.reply_to-requires
reply_to-requires g c = c.none-known.ensures c.args.given.now.rules.now (list_in c.args.given.now.pair.now)
