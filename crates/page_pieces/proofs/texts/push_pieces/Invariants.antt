use Rattle.std.proofs.Common.{◌≡◌, ◌++◌, take}
use Rattle.page_pieces.specs.Pieces.{text_of}
use Rattle.page_pieces.proofs.texts.push_pieces.Given as goal

abbrev pub invariant-loop-piece : goal.invariant-loop-piece
invariant-loop-piece l = l.bytes.items ≡ l.initial.bytes.items ++ text_of (take l.piece-index l.pieces)
