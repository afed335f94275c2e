use Rattle.std.proofs.Common.{◌≡◌, List, ◌-◌, ◌<◌, ◌∙◌, Some, length, slice_get, refl, sym, ap, arith}
use Rattle.std.proofs.lemmas.Bool.{ltb-true}
use Rattle.std.proofs.lemmas.Option.{slice_get_read}
use Rattle.game_walk.specs.declared.rows.Row.{Row}
use Rattle.repair_single.proofs.Walked.{next_game}
use Rattle.repair_single.proofs.standing.game_before.Goals as goal

pub returns-in-Some-clause-game : goal.returns-in-Some-clause-game
returns-in-Some-clause-game c =
    λ rules list events walked.
    let rows = c.as_slice.result.now in
    let place = c.args.place in
    let within : place - 1 < length rows = ltb-true (place - 1) (length rows) (sym c.in-Some.ensures.lookup.0) in
    let there : slice_get c.args.walk.now.rows.items (place - 1) ≡ Some c.in-Some.row.now =
    ap (λ (rs : List Row). slice_get rs (place - 1)) (sym c.as_slice.ensures.value) ∙ slice_get_read rows (length rows) (place - 1) c.in-Some.row.now refl within c.in-Some.ensures.lookup.1 in
    next_game rules list events c.args.walk.now place c.in-Some.row.now walked (omega arith) there
