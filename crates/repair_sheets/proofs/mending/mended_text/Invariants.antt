use Rattle.std.proofs.Common.{◌≡◌, ◌+◌, ◌++◌, ◌∷◌, length}
use Rattle.std.specs.List.{slice_split, join_with_byte}
use Rattle.text_lines.specs.Lines.{is_feed, without_mark}
use Rattle.gcg_numbers.specs.Lines.{parts_after}
use Rattle.gcg_numbers.specs.Numbers.{mark_of}
use Rattle.repair_sheets.specs.Mending.{mended_lines}
use Rattle.repair_sheets.proofs.mending.mended_text.Given as goal

abbrev pub invariant-loop-cut : goal.invariant-loop-cut
invariant-loop-cut l =
    record {
      counted : l.number + length (parts_after l.cut.after) ≡ length (slice_split is_feed (without_mark l.text));
      so_far : l.out.items ++ join_with_byte 10 (mended_lines l.slip l.number (l.cut.line.now ∷ parts_after l.cut.after))
          ≡ mark_of l.text ++ join_with_byte 10 (mended_lines l.slip 1 (slice_split is_feed (without_mark l.text)));
    }

abbrev pub decreases-loop-cut : goal.decreases-loop-cut
decreases-loop-cut l = length (parts_after l.cut.after)
