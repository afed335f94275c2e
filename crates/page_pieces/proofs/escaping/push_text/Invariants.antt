use Rattle.std.proofs.Common.{◌≡◌, ◌++◌, take}
use Rattle.std.specs.List.{flat_map}
use Rattle.page_pieces.specs.Escaping.{written}
use Rattle.page_pieces.proofs.escaping.push_text.Given as goal

-- the text of the page is what it was, and the bytes so far as they are written
abbrev pub invariant-loop-byte : goal.invariant-loop-byte
invariant-loop-byte l = l.out.items ≡ l.fn.out.items ++ flat_map written (take l.byte-index l.byte-items)
