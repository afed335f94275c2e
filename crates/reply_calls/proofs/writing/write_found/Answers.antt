use Rattle.reply_calls.proofs.Replying.{output_failed}
use Rattle.reply_calls.proofs.writing.write_found.Goals as goal

pub returns-in-Err-write_printed : goal.returns-in-Err-write_printed
returns-in-Err-write_printed g c =
    output_failed (g.T.Rendering.shows c.args.rendering.now) g.T.Rendering.status (g.K.Outlet.holds c.write_printed.new.kept) (g.K.Outlet.has_failed c.write_printed.new.kept) c.args.found
    (g.O.Output.device c.args.out.now) (g.O.Output.device c.write_printed.new.out) c.in-Ok.printed c.in-Err-write_printed.fault c.in-Err-write_printed.ensures.fault c.in-Ok.ensures
    c.in-Err-write_printed.ensures.stopped
