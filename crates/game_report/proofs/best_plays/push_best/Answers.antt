use Rattle.std.proofs.Common.{rules, ◌≡◌, false, [], refl, sym, ◌∙◌}
use Rattle.std.proofs.lemmas.Bool.{false≢true}
use Rattle.std.proofs.lemmas.List.{append-nil}
use Rattle.game_turns.specs.Machines.{state_of}
use Rattle.game_report.specs.BestPlays.{is_judged}
use Rattle.game_report.proofs.best_plays.push_best.Goals as goal

pub returns-then-not-is_judged-clause-best : goal.returns-then-not-is_judged-clause-best
returns-then-not-is_judged-clause-best c =
    let silent : is_judged (state_of c.args.machine.now).out c.args.event.now.kind ≡ false = search rules in
    record {
      reported = [];
      is_reported = record { judged = λ is. absurd (false≢true (sym silent ∙ is)); silent = λ none. refl };
      following = sym (append-nil c.args.text.now.items);
    }

pub returns-in-Some-clause-best : goal.returns-in-Some-clause-best
returns-in-Some-clause-best c = search rules
