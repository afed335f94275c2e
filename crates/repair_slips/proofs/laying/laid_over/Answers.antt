use Rattle.std.proofs.Common.{rules, ◌≡◌, true, false, arith}
use Rattle.ref_board.specs.Cells.{occupied_on}
use Rattle.repair_slips.specs.Laying.{occupied_from, laid_over}
use Rattle.repair_slips.proofs.Layings.{dot_laid, tile_laid, all_laid, line_laid}
use Rattle.repair_slips.proofs.laying.laid_over.Goals as goal

pub loop-place-preserved-then-is_some : goal.loop-place-preserved-then-is_some
loop-place-preserved-then-is_some c =
    let l = c.loop-place in
    let holds : occupied_on c.args.dir c.args.board.now c.args.line l.place ≡ true = search rules in
    record {
      so_far = dot_laid c.args.board.now c.args.dir c.args.line l.place l.used c.args.tiles.now l.laid.items c.push.new.self.items (laid_over (occupied_from c.args.board.now c.args.dir c.args.line c.args.first) c.args.tiles.now) (omega arith) holds c.push.ensures.items l.invariant.so_far;
      many = search rules;
      used = l.invariant.used;
    }

pub returns-then-used-tiles : goal.returns-then-used-tiles
returns-then-used-tiles c =
    let l = c.loop-place in
    let free : occupied_on c.args.dir c.args.board.now c.args.line l.place ≡ false = search rules in
    all_laid c.args.board.now c.args.dir c.args.line l.place l.used c.args.tiles.now l.laid.items (laid_over (occupied_from c.args.board.now c.args.dir c.args.line c.args.first) c.args.tiles.now) (omega arith) free (omega arith) l.invariant.so_far

pub loop-place-preserved : goal.loop-place-preserved
loop-place-preserved c =
    let l = c.loop-place in
    let free : occupied_on c.args.dir c.args.board.now c.args.line l.place ≡ false = search rules in
    record {
      so_far = tile_laid c.args.board.now c.args.dir c.args.line l.place l.used c.index-tiles-used.result c.args.tiles.now l.laid.items c.push-in-loop-place.new.self.items (laid_over (occupied_from c.args.board.now c.args.dir c.args.line c.args.first) c.args.tiles.now) (omega arith) free (omega arith) c.index-tiles-used.is c.push-in-loop-place.ensures.items l.invariant.so_far;
      many = search rules;
      used = omega arith;
    }

pub returns : goal.returns
returns c =
    let l = c.loop-place in
    line_laid c.args.board.now c.args.dir c.args.line l.place l.used c.args.tiles.now l.laid.items (laid_over (occupied_from c.args.board.now c.args.dir c.args.line c.args.first) c.args.tiles.now) (omega arith) l.invariant.so_far
