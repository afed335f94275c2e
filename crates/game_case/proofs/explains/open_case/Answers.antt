use Rattle.std.proofs.Common.{ap, sym, ◌∙◌}
use Rattle.gcg_read.specs.Records.{most_bytes}
use Rattle.lex_check.specs.Pairs.{list_in}
use Rattle.game_case.specs.Explaining.{IsCaseOf}
use Rattle.engine_stages.proofs.Readings.{taken}
use Rattle.game_case.proofs.WalkedRecords.{case_is}
use Rattle.game_case.proofs.explains.open_case.Goals as goal

pub returns : goal.returns
returns g c =
    taken most_bytes (g.G.Input.device c.args.game.now) (g.G.Input.device c.read_text.new.input) (IsCaseOf c.args.rules.now (list_in c.args.pair.now)) c.in_ok-text.text.items c.deref.result.now
    c.case_of.result c.in_ok-text.ensures.whole c.deref.ensures.value
    (case_is c.args.rules.now (list_in c.args.pair.now) c.deref.result.now c.in_ok-walked.walked c.case_of.result c.in_ok-walked.ensures
    (ap (λ t. t.items) c.case_of.ensures.text ∙ sym c.deref.ensures.value) c.case_of.ensures.read c.case_of.ensures.walk)
    c.in_ok-text.ensures.worked c.in_ok-text.ensures.taken
