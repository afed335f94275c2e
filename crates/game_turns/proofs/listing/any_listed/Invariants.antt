use Rattle.std.proofs.Common.{◌≡◌, drop}
use Rattle.std.specs.List.{list_any}
use Rattle.lex_list.specs.Words.{is_listed}
use Rattle.ref_play.specs.Words.{items_of}
use Rattle.game_turns.proofs.listing.any_listed.Given as goal

abbrev pub invariant-loop-word : goal.invariant-loop-word
invariant-loop-word l = list_any (is_listed l.list) (items_of (drop l.word-index l.words)) ≡ list_any (is_listed l.list) (items_of l.words)
