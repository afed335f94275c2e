use Rattle.std.proofs.Common.{◌∙◌, ap}
use Rattle.game_turns.specs.Unlisted.{letters_in, unlisted_of}
use Rattle.repair_single.proofs.Audits.{rows_more, no_rows}
use Rattle.repair_answers.proofs.no_change.unlisted_words.Goals as goal

pub loop-row-init : goal.loop-row-init
loop-row-init c = record { so_far = no_rows c.args.list.now c.new-words.result.items c.new-words.ensures.items }

pub loop-row-preserved : goal.loop-row-preserved
loop-row-preserved c =
    record {
      so_far = rows_more c.args.list.now c.args.rows.now c.loop-row.row-index c.row-item.result (letters_in c.loop-row.words.items) (letters_in c.in_ok-more.more.items) (letters_in c.push_words.new.words.items)
          c.loop-row-test.true c.row-item.is c.loop-row.invariant.so_far (c.in_ok-more.ensures ∙ ap (unlisted_of c.args.list.now) c.standing_words.ensures) c.in_ok-push_words.ensures;
    }
