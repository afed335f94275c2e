use Rattle.std.proofs.Common.{◌≡◌, ℕ, ℤ, map, insert, length, sym, ap, subst, ◌∙◌, ⊎_elim, arith, slice_index_or, to_z, of_z, w32, to_z-of_z}
use Rattle.std.proofs.lemmas.Bool.{cases_eq}
use Rattle.std.proofs.lemmas.List.{get_or_default}
use Rattle.ref_play.specs.declared.plays.Play.{Play}
use Rattle.ref_play.specs.Legality.{IsLegal}
use Rattle.gen_sinks.specs.Sinks.{seen, seen_pair}
use Rattle.gen_sinks.specs.Ranks.{ranks_before, put_in}
use Rattle.gen_sinks.proofs.Keeping.{legal_at, put_there}
use Rattle.gen_sinks.proofs.placing.place_of.Goals as goal

pub ranks_before-requires-clause-other : goal.ranks_before-requires-clause-other
ranks_before-requires-clause-other c =
    let scored = c.index-kept-place.result in
    subst (λ (p : Play × ℤ). IsLegal c.args.board.now p.0.tiles.items) (sym c.index-kept-place.is)
    (legal_at c.args.board.now c.args.kept.now c.loop-place.place scored c.law_of_squares.ensures c.requires.kept c.loop-place-test.true)

pub returns-then-comes_last-clause-place : goal.returns-then-comes_last-clause-place
returns-then-comes_last-clause-place c =
    let board = c.args.board.now in
    let kept = c.args.kept.now in
    let play = c.args.play.now in
    let score = to_z w32 (of_z w32 c.args.score) in
    subst (λ (s : ℤ). put_in (ranks_before board) (seen play s) (map seen_pair kept) ≡ insert (map seen_pair kept) (length kept) (seen play s))
    (to_z-of_z c.ranges.score)
    (put_there (ranks_before board) seen_pair (seen play score) kept (length kept) (omega arith) (c.comes_last.ensures c.if-comes_last.true)
    (λ d lt. absurd (omega arith)))

pub returns-then-ranks_before-clause-place : goal.returns-then-ranks_before-clause-place
returns-then-ranks_before-clause-place c =
    let board = c.args.board.now in
    let kept = c.args.kept.now in
    let play = c.args.play.now in
    let place = c.loop-place.place in
    let scored = c.index-kept-place.result in
    let score = to_z w32 (of_z w32 c.args.score) in
    let lt = c.loop-place-test.true in
    subst (λ (s : ℤ). put_in (ranks_before board) (seen play s) (map seen_pair kept) ≡ insert (map seen_pair kept) place (seen play s))
    (to_z-of_z c.ranges.score)
    (put_there (ranks_before board) seen_pair (seen play score) kept place (omega arith) c.loop-place.invariant
    (λ d inside. ap (λ (p : Play × ℤ). ranks_before board (seen play score) (seen_pair p)) (get_or_default kept place d scored lt ∙ sym c.index-kept-place.is)
    ∙ sym c.ranks_before.ensures ∙ c.if-ranks_before.true))

pub loop-place-preserved : goal.loop-place-preserved
loop-place-preserved c k d lt =
    let kept = c.args.kept.now in
    let place = c.loop-place.place in
    let scored = c.index-kept-place.result in
    ⊎_elim
    (λ (same : k ≡ place).
    ap (λ (p : Play × ℤ). ranks_before c.args.board.now (seen c.args.play.now (to_z w32 (of_z w32 c.args.score))) (seen_pair p))
    (ap (λ (j : ℕ). slice_index_or kept j d) same ∙ get_or_default kept place d scored c.loop-place-test.true ∙ sym c.index-kept-place.is)
    ∙ sym c.ranks_before.ensures ∙ c.if-ranks_before.false)
    (λ (other : k ≡ place → ⊥). c.loop-place.invariant k d (omega arith))
    (cases_eq k place)

pub returns-clause-place : goal.returns-clause-place
returns-clause-place c =
    let board = c.args.board.now in
    let kept = c.args.kept.now in
    let play = c.args.play.now in
    let score = to_z w32 (of_z w32 c.args.score) in
    let past = c.loop-place-test.false in
    subst (λ (s : ℤ). put_in (ranks_before board) (seen play s) (map seen_pair kept) ≡ insert (map seen_pair kept) (length kept) (seen play s))
    (to_z-of_z c.ranges.score)
    (put_there (ranks_before board) seen_pair (seen play score) kept (length kept) (omega arith) (λ k d lt. c.loop-place.invariant k d (omega arith))
    (λ d lt. absurd (omega arith)))
