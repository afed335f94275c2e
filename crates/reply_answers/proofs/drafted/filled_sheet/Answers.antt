use Rattle.lex_check.specs.Pairs.{list_in}
use Rattle.reply_answers.proofs.Drafting.{only_kept}
use Rattle.reply_answers.proofs.drafted.filled_sheet.Goals as goal

pub returns-clause-filled : goal.returns-clause-filled
returns-clause-filled c =
    record {
      found = c.in_ok-found.ensures;
      asked = c.in_ok-kept.ensures.asked;
      text = c.in_ok-kept.ensures.kept;
      only =
          only_kept _ c.args.rules.now (list_in c.args.pair.now) c.args.draft.now c.in_ok-found.found c.in_ok-kept.kept c.in_ok-found.ensures
          c.in_ok-kept.ensures.kept;
      lines = c.in_ok-unread.ensures;
    }
