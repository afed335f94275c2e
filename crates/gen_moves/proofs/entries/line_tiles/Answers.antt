use Rattle.std.proofs.Common.{rules, ◌≡◌, get_or, map, sym, ◌∙◌, arith, None}
use Rattle.std.proofs.lemmas.List.{ext_get_or, get_or-map, length-map}
use Rattle.gen_cross.proofs.Filling.{values_more}
use Rattle.gen_moves.specs.LineTiles.{tile_of_entry, line_tiles}
use Rattle.gen_moves.proofs.entries.line_tiles.Goals as goal

pub loop-place-preserved : goal.loop-place-preserved
loop-place-preserved c = record {
  size = search rules;
  passed =
      values_more (λ k o. o ≡ tile_of_entry (get_or c.args.entries.now k 0)) c.loop-place.tiles None c.tile_of.result c.loop-place.place (omega arith)
      c.loop-place.invariant.passed c.tile_of.ensures;
}

pub returns : goal.returns
unfolding line_tiles
returns c =
    let entries = c.args.entries.now in
    ext_get_or None c.loop-place.tiles (map tile_of_entry entries) (omega (arith, c.loop-place.invariant.size, length-map entries tile_of_entry))
    (λ k below. c.loop-place.invariant.passed k (omega (arith, c.loop-place.invariant.size, below)) ∙ sym (get_or-map tile_of_entry entries k 0 None (omega (arith, c.loop-place.invariant.size, below))))
