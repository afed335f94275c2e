use Rattle.std.proofs.Common.{refl}
use Rattle.archive_lines.proofs.json_lines.line_fields.Goals as goal

pub returns : goal.returns
returns c =
    rw (c.in_ok-all-4.ensures, c.in_ok-all-3.ensures, c.in_ok-all-2.ensures, c.in_ok-all.ensures, c.in_ok-fault_name.ensures, c.integer_or_null.ensures, c.size_or_null.ensures) refl
