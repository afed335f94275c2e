use Rattle.std.proofs.Common.{rules, ◌≡◌, Some, arith}
use Rattle.ref_tiles.specs.Letters.{letter_at}
use Rattle.gen_line.specs.Entries.{letter_of_entry}
use Rattle.gen_moves.proofs.Writing.{entry_blank}
use Rattle.gen_moves.proofs.entries.tile_of.Goals as goal

pub returns-then-entry-eq1 : goal.returns-then-entry-eq1
returns-then-entry-eq1 c =
    let letter : letter_at (letter_of_entry c.args.entry) ≡ Some c.in_ok-letter.letter = search rules in
    entry_blank c.args.entry c.in_ok-letter.letter c.of_blank.result c.if-entry-eq0.false (omega arith) letter c.of_blank.ensures
