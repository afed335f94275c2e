use Rattle.std.proofs.Common.{◌≡◌, arith}
use Rattle.sheet_scores.proofs.WalkRows.{before_row, before_none}
use Rattle.sheet_scores.proofs.rows.game_before.Goals as goal

pub returns-in-Some : goal.returns-in-Some
returns-in-Some c =
    λ rules list written right is within.
    let later : c.args.place ≡ 0 → ⊥ = λ first. omega (arith, first, c.if-place-eq0.false) in
    before_row rules list written right c.args.walk.now c.args.place c.in-Some.row.now is later c.in-Some.ensures

pub returns-in-None : goal.returns-in-None
returns-in-None c =
    λ rules list written right is within.
    let later : c.args.place ≡ 0 → ⊥ = λ first. omega (arith, first, c.if-place-eq0.false) in
    before_none rules list written right c.args.walk.now c.args.place is later c.in-None.ensures within
