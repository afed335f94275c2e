use Rattle.std.proofs.Common.{refl}
use Rattle.gcg_read.specs.Records.{most_bytes}
use Rattle.lex_check.specs.Pairs.{list_in}
use Rattle.game_case.specs.Auditing.{IsAuditOf}
use Rattle.engine_stages.proofs.Readings.{taken}
use Rattle.game_case.proofs.audits.audit_sheet.Goals as goal

pub returns : goal.returns
returns g c =
    taken most_bytes (g.G.Input.device c.args.game.now) (g.G.Input.device c.read_text.new.input) (IsAuditOf c.args.rules.now (list_in c.args.pair.now)) c.in_ok-text.text.items c.in_ok-text.text.items
    c.in_ok-audit_from.field-0 c.in_ok-text.ensures.whole refl c.in_ok-audit_from.ensures c.in_ok-text.ensures.worked c.in_ok-text.ensures.taken
