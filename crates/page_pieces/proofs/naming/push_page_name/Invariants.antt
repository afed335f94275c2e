use Rattle.std.proofs.Common.{◌≡◌, ◌++◌, ◌∷◌, length}
use Rattle.page_pieces.specs.Names.{parts_of, parts_after, page_path}
use Rattle.page_pieces.proofs.naming.push_page_name.Given as goal

abbrev pub invariant-loop-cut : goal.invariant-loop-cut
invariant-loop-cut l = l.out.items ++ page_path (l.cut.part.now ∷ parts_after l.cut.after) ≡ l.fn.out.items ++ page_path (parts_of l.name)

abbrev pub decreases-loop-cut : goal.decreases-loop-cut
decreases-loop-cut l = length (parts_after l.cut.after)
