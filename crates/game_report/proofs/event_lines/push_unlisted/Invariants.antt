use Rattle.std.proofs.Common.{◌≡◌, ◌++◌, take}
use Rattle.std.specs.List.{flat_map}
use Rattle.ref_play.specs.Words.{items_of}
use Rattle.game_report.specs.EventLines.{unlisted_word}
use Rattle.game_report.proofs.event_lines.push_unlisted.Given as goal

abbrev pub invariant-loop-word : goal.invariant-loop-word
invariant-loop-word l = l.text.items ≡ l.initial.text.items ++ flat_map (unlisted_word l.list) (items_of (take l.word-index l.words))
