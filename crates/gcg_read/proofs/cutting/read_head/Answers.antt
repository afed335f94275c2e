use Rattle.std.proofs.Common.{sym}
use Rattle.gcg_read.proofs.Cuts.{head_no_colon, head_no_field, head_fields, head_one}
use Rattle.gcg_read.proofs.cutting.read_head.Goals as goal

pub returns-in_err-colon : goal.returns-in_err-colon
returns-in_err-colon c = rw c.from_residual.ensures (head_no_colon c.args.text.now c.in_err-colon.ensures)

pub returns-in_err-field : goal.returns-in_err-field
returns-in_err-field c =
    rw c.from_residual-in_err-field.ensures (head_no_field c.args.text.now c.in_ok-colon.colon c.in_ok-colon.ensures c.in_err-field.ensures)

pub returns-then-is_some : goal.returns-then-is_some
returns-then-is_some c =
    head_fields c.args.text.now c.in_ok-field.field.bytes.now c.in_ok-field.field.after.now c.in_ok-colon.colon c.next_field-2.result
    c.in_ok-colon.ensures c.in_ok-field.ensures c.next_field-2.ensures (sym c.if-is_some.ensures)

pub returns : goal.returns
returns c =
    head_one c.args.text.now c.in_ok-field.field.bytes.now c.in_ok-field.field.after.now c.in_ok-colon.colon c.next_field-2.result
    c.in_ok-colon.ensures c.in_ok-field.ensures c.next_field-2.ensures (sym c.if-is_some.ensures)
