use Rattle.std.proofs.Common.{sym, ◌∙◌}
use Rattle.deal_steps.proofs.KnownLaws.{room_taken, bound_taken, known_taken}
use Rattle.deal_steps.proofs.known.Known.take.Goals as goal

pub settle-requires : goal.settle-requires
settle-requires c = room_taken c.args.rules.now c.args.step.now c.args.self.now c.show.new.self c.law_of_numbers.ensures.kinds c.show.ensures (sym c.in-None.ensures)

pub returns-in-Some-clause-reported : goal.returns-in-Some-clause-reported
returns-in-Some-clause-reported c past is = c.in-Some.ensures ∙ bound_taken c.args.rules.now c.args.step.now c.args.self.now c.show.new.self past is c.show.ensures

pub returns-in-None-clause-reported : goal.returns-in-None-clause-reported
returns-in-None-clause-reported c past is = c.in-None.ensures ∙ bound_taken c.args.rules.now c.args.step.now c.args.self.now c.show.new.self past is c.show.ensures

pub returns-in-None-clause-known : goal.returns-in-None-clause-known
returns-in-None-clause-known c past is none = known_taken c.args.step.now c.args.self.now c.show.new.self c.settle.new.self past is c.show.ensures c.settle.ensures
