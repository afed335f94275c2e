use Rattle.lex_list.proofs.Rows.{put_last}
use Rattle.lex_list.proofs.word_sets.WordSet.insert.Goals as goal

pub invariant_of-self-then-is_after : goal.invariant_of-self-then-is_after
invariant_of-self-then-is_after c =
    put_last c.self.inside.row.items c.deref.result.now c.push.new.self.items c.args.word c.self.invariant c.deref.ensures.value c.if-is_after.ensures
    c.in_ok-push.ensures.items
