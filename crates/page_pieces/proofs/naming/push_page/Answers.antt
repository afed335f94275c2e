use Rattle.std.proofs.Common.{sym, ◌∙◌}
use Rattle.page_pieces.proofs.Pages.{has_four}
use Rattle.page_pieces.proofs.naming.push_page.Goals as goal

pub slice_bounds-push_escaped-count : goal.slice_bounds-push_escaped-count
slice_bounds-push_escaped-count c = has_four c.args.part.now (sym c.has_ending.ensures ∙ c.if-has_ending.true)
