use Rattle.std.proofs.Common.{◌≡◌, ◌-◌, ◌<◌, ℤ, false, length, slice_index_or, sym, subst, ◌∙◌, arith, to_z, of_z, w32, to_z-of_z}
use Rattle.ref_play.specs.declared.plays.Play.{Play}
use Rattle.ref_play.specs.Legality.{IsLegal}
use Rattle.gen_sinks.specs.Sinks.{seen, seen_pair}
use Rattle.gen_sinks.specs.Ranks.{ranks_before}
use Rattle.gen_sinks.proofs.Keeping.{legal_at}
use Rattle.gen_sinks.proofs.Turns.{after_last, not_so}
use Rattle.gen_sinks.proofs.placing.comes_last.Goals as goal

pub ranks_before-requires-clause-other : goal.ranks_before-requires-clause-other
ranks_before-requires-clause-other c =
    let kept = c.args.kept.now in
    let last = c.index-kept-many.result in
    let inside : length kept - 1 < length kept = omega arith in
    subst (λ (p : Play × ℤ). IsLegal c.args.board.now p.0.tiles.items) (sym c.index-kept-many.is)
    (legal_at c.args.board.now kept (length kept - 1) last c.law_of_squares.ensures c.requires.kept inside)

pub returns : goal.returns
returns c reported place d inside =
    let board = c.args.board.now in
    let kept = c.args.kept.now in
    let play = c.args.play.now in
    let last = c.index-kept-many.result in
    let score = to_z w32 (of_z w32 c.args.score) in
    subst (λ (s : ℤ). ranks_before board (seen play s) (seen_pair (slice_index_or kept place d)) ≡ false) (to_z-of_z c.ranges.score)
    (after_last board (seen play score) kept last c.requires.turn c.index-kept-many.is (sym c.ranks_before.ensures ∙ not_so c.ranks_before.result reported) place d inside)
