use Rattle.std.proofs.lemmas.Int.{ints}
use Rattle.std.proofs.Common.{ℤ, rules, w32, to_z-of_z, subst}
use Rattle.game_turns.specs.Machines.{state_of}
use Rattle.lex_check.specs.Pairs.{list_in}
use Rattle.game_bests.specs.Bests.{IsTurnBest}
use Rattle.game_known.proofs.besides.Beside.best_at.Goals as goal

pub returns-in-Some-clause-best : goal.returns-in-Some-clause-best
returns-in-Some-clause-best c =
    subst (λ (g : ℤ). IsTurnBest c.args.rules.now (list_in c.args.pair.now) (state_of c.args.machine.now) c.args.event.now g c.in-Some.best) (to_z-of_z {w = w32} (search (rules, ints)))
    (c.in-Some.ensures c.args.rules.now (list_in c.args.pair.now) c.requires.known)
