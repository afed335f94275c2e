use Rattle.std.proofs.Common.{ap}
use Rattle.lex_check.specs.Pairs.{list_in}
use Rattle.io_devices.specs.Devices.{Device}
use Rattle.sheet_audit.proofs.WrongAudits.{of_sheet}
use Rattle.sheet_audit.proofs.wrong.audited.Goals as goal

pub returns-in-Ok : goal.returns-in-Ok
returns-in-Ok c =
    λ short.
    of_sheet c.args.rules.now (list_in c.args.pair.now) c.args.sheet.now _ _ c.audit_sheet.result c.in-Ok.audit (ap (λ (d : Device). d.bytes) c.new-input.ensures) c.in-Ok.is c.audit_sheet.ensures short
