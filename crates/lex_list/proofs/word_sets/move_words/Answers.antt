use Rattle.lex_list.proofs.Rows.{moved_one, remaining_sorted}
use Rattle.lex_list.proofs.word_sets.move_words.Goals as goal

pub loop-word-preserved : goal.loop-word-preserved
loop-word-preserved c =
    let row = c.loop-word.row.items in
    let rest = c.pop.new.self.items in
    record {
      rising = remaining_sorted row rest c.in-Some.word c.loop-word.invariant.rising c.in-Some.ensures.items;
      whole = moved_one c.args.row.now.items row rest c.loop-word.tree.keys c.insert.new.self.keys c.in-Some.word c.requires.rising c.in-Some.ensures.items
          c.loop-word.invariant.whole c.in_ok-insert.ensures.keys;
    }

pub returns-in_err-insert-clause-rising : goal.returns-in_err-insert-clause-rising
returns-in_err-insert-clause-rising c = remaining_sorted c.loop-word.row.items c.pop.new.self.items c.in-Some.word c.loop-word.invariant.rising c.in-Some.ensures.items
