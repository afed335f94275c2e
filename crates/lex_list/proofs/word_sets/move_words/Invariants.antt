use Rattle.std.proofs.Common.{◌≡◌, ◌++◌, length}
use Rattle.std.specs.List.Sorted.{IsStrictlySortedBy}
use Rattle.lex_list.specs.Words.{word_order}
use Rattle.lex_list.proofs.word_sets.move_words.Given as goal

abbrev pub invariant-loop-word : goal.invariant-loop-word
invariant-loop-word l =
    record {
      rising : IsStrictlySortedBy word_order l.row.items;
      whole : l.row.items ++ l.tree.keys ≡ l.initial.row.items;
    }

abbrev pub decreases-loop-word : goal.decreases-loop-word
decreases-loop-word l = length l.row.items
