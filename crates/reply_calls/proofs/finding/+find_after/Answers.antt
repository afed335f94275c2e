use Rattle.std.proofs.Common.{◌≡◌, ◌∷◌, List, map, Err, ap, subst, sym}
use Rattle.io_devices.specs.Devices.{Device}
use Rattle.lex_check.specs.Pairs.{list_in}
use Rattle.engine_stages.specs.declared.faults.RunFault.TheVariants.{NoMemory}
use Rattle.engine_stages.specs.Runs.{Gives, outcomes}
use Rattle.reply_calls.specs.Found.{IsFoundAfter}
use Rattle.reply_calls.specs.Sheets.{sheet_sources}
use Rattle.reply_calls.proofs.SheetLaws.{no_memory, no_sheet}
use Rattle.reply_calls.proofs.finding.+find_after.Goals as goal

pub returns-in-Err-push : goal.returns-in-Err-push
returns-in-Err-push g t c =
    let device = g.G.Input.device in
    let rest = map device c.in-Some.rest.now in
    let read = device c.read_sheet.new.sheet in
    let is_reply = g.Q.Asking.is_reply c.args.asking.now c.args.given.now.rules.now (list_in c.args.given.now.pair.now) in
    let before = map (λ text. text.items) c.args.texts.items in
    subst (λ (olds : List Device). Gives outcomes (sheet_sources olds (read ∷ rest)) (IsFoundAfter is_reply before) (Err NoMemory)) (sym (ap (map device) c.in-Some.ensures.cases.0))
    (no_memory (λ text. text.items) (device c.in-Some.first.now) read rest is_reply before c.in-Ok.text c.in-Ok.ensures)

pub returns-in-Err : goal.returns-in-Err
returns-in-Err g t c =
    let device = g.G.Input.device in
    let rest = map device c.in-Some.rest.now in
    let read = device c.read_sheet.new.sheet in
    let is_reply = g.Q.Asking.is_reply c.args.asking.now c.args.given.now.rules.now (list_in c.args.given.now.pair.now) in
    let before = map (λ text. text.items) c.args.texts.items in
    subst (λ (olds : List Device). Gives outcomes (sheet_sources olds (read ∷ rest)) (IsFoundAfter is_reply before) (Err c.in-Err.fault)) (sym (ap (map device) c.in-Some.ensures.cases.0))
    (no_sheet (λ text. text.items) (device c.in-Some.first.now) read rest is_reply before c.in-Err.fault c.in-Err.ensures)
