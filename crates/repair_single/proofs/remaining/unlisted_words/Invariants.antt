use Rattle.std.proofs.Common.{◌≡◌}
use Rattle.std.specs.List.{flat_map, range_with_len}
use Rattle.game_turns.specs.Machines.{rules_of, state_of}
use Rattle.game_turns.specs.Tallies.{tally_at}
use Rattle.game_turns.specs.Unlisted.{letters_in}
use Rattle.repair_single.specs.Remaining.{unlisted_at}
use Rattle.repair_single.proofs.remaining.unlisted_words.Given as goal

abbrev pub invariant-loop-place : goal.invariant-loop-place
invariant-loop-place l =
    record {
      by : rules_of l.machine ≡ l.rules;
      state : state_of l.machine ≡ tally_at l.rules l.right l.place;
      so_far : letters_in l.words.items ≡ flat_map (unlisted_at l.rules l.list l.right) (range_with_len 0 l.place);
    }
