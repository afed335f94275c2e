use Rattle.std.proofs.Common.{◌≡◌, List, ◌+◌, ◌-◌, ◌<◌, ◌∙◌, Some, length, slice_get, refl, sym, ap, arith}
use Rattle.std.proofs.lemmas.Option.{slice_get_read}
use Rattle.game_turns.specs.Machines.{state_of}
use Rattle.game_walk.specs.declared.rows.Row.{Row}
use Rattle.game_walk.proofs.WalkLaws.{end_of_rows}
use Rattle.game_walk.proofs.walking.Walk.end.Goals as goal

pub returns : goal.returns
returns c =
    λ rules list events goes.
    let rows = c.as_slice-rows.result.now in
    let last = length rows - 1 in
    let row = c.index-rows-many.result in
    let same = ap (λ (rs : List Row). length rs) c.as_slice-rows.ensures.value in
    let within : last < length rows = omega arith in
    let there : slice_get c.args.self.now.rows.items last ≡ Some row =
    ap (λ (rs : List Row). slice_get rs last) (sym c.as_slice-rows.ensures.value) ∙ slice_get_read rows (length rows) last row refl within c.index-rows-many.is in
    let next : last + 1 ≡ length c.args.self.now.rows.items = omega arith in
    ap (λ (r : Row). state_of r.following) (sym c.index-rows-many.is) ∙ end_of_rows rules list events c.args.self.now last row goes there next
