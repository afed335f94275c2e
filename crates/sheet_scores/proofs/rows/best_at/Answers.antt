use Rattle.std.proofs.Common.{rules, ℤ, ◌≡◌, ap, subst, ◌∙◌, w32, to_z, of_z, to_z-of_z}
use Rattle.std.proofs.lemmas.Int.{ints}
use Rattle.lex_check.specs.Pairs.{list_in}
use Rattle.game_turns.specs.Machines.{state_of}
use Rattle.game_turns.specs.Tallies.{State}
use Rattle.game_bests.specs.Bests.{IsTurnBest}
use Rattle.sheet_scores.specs.Unders.{cells_under}
use Rattle.sheet_scores.proofs.rows.best_at.Goals as goal

pub returns-in_ok-under-in-Some-clause-best : goal.returns-in_ok-under-in-Some-clause-best
returns-in_ok-under-in-Some-clause-best c =
    λ written right is within.
    let own = c.args.rules.now in
    let list = list_in c.args.pair.now in
    let before = c.in-Some.ensures own list written right is within in
    let best = c.best_at-best.result in
    let same : to_z w32 (of_z w32 c.args.gave) ≡ c.args.gave = to_z-of_z {w = w32} (search (rules, ints)) in
    let found = subst (λ (gave : ℤ). IsTurnBest own list (state_of c.in-Some.machine.now) c.args.event.now gave best) same c.best_at-best.ensures.best in (
      (before.0, subst (λ (s : State). IsTurnBest own list s c.args.event.now c.args.gave best) before.1 found),
      c.in_ok-under-in-Some.ensures ∙ ap (λ board. cells_under board best) c.board.ensures ∙ ap (λ (s : State). cells_under s.board best) before.1,
    )

pub returns-in-None-clause-best : goal.returns-in-None-clause-best
returns-in-None-clause-best c = λ written right is within. (c.in-None.ensures c.args.rules.now (list_in c.args.pair.now) written right is within, c.new.ensures.items)
