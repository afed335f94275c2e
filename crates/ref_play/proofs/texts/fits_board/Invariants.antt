use Rattle.std.proofs.Common.{◌≡◌, drop}
use Rattle.std.specs.List.{list_all}
use Rattle.ref_play.specs.Texts.{fits_board, text_cells}
use Rattle.ref_play.proofs.TextLemmas.{cells_from}
use Rattle.ref_play.proofs.texts.fits_board.Given as goal

abbrev pub invariant-loop-k : goal.invariant-loop-k
invariant-loop-k l =
    list_all (fits_board l.board) (cells_from l.dir l.at l.k (drop l.k l.word)) ≡ list_all (fits_board l.board) (text_cells l.dir l.at l.word)
