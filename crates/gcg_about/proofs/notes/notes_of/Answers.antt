use Rattle.std.proofs.Common.{rules, length, map}
use Rattle.text_lines.specs.Lines.{lines_in, lines_remaining}
use Rattle.gcg_about.specs.Notes.{note_in, notes_from}
use Rattle.gcg_about.proofs.Steps.{notes_more, notes_counted, notes_done}
use Rattle.gcg_about.proofs.notes.notes_of.Goals as goal

pub loop-line-preserved : goal.loop-line-preserved
loop-line-preserved c =
    record {
      so_far =
          notes_more c.loop-line.after c.following-after.result (lines_remaining c.loop-line.line-iterator) c.in-Some.line.now (lines_remaining c.next.new.self) (map note_in c.loop-line.notes.items)
          (map note_in c.push_note.new.notes.items) (notes_from 0 (lines_in c.args.text.now)) (search rules) (search rules) c.following-after.ensures.count c.loop-line.invariant.so_far;
      counted =
          notes_counted c.loop-line.after c.following-after.result (length (lines_in c.args.text.now)) (lines_remaining c.loop-line.line-iterator) c.in-Some.line.now (lines_remaining c.next.new.self) (search rules)
          c.following-after.ensures.step c.loop-line.invariant.counted;
    }

pub returns : goal.returns
returns c =
    notes_done c.loop-line.after (lines_remaining c.loop-line.line-iterator) (map note_in c.loop-line.notes.items) (notes_from 0 (lines_in c.args.text.now)) (search rules) c.loop-line.invariant.so_far
