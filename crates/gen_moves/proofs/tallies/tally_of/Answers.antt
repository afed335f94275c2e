use Rattle.std.proofs.Common.{◌≡◌, ◌<◌, ◌+◌, ◌*◌, ◌||◌, not, true, false, get_or, sym, ap, ◌∙◌, subst, arith, Option, None, is_some}
use Rattle.std.proofs.lemmas.List.{get_or_default}
use Rattle.ref_tiles.specs.declared.tiles.Tile.{Tile}
use Rattle.ref_play.specs.Scores.{points_on}
use Rattle.gen_moves.specs.LineTiles.{new_tile}
use Rattle.gen_moves.specs.Bounds.{place_in}
use Rattle.gen_moves.specs.Tallies.{points_at, is_laid, IsSmallTally}
use Rattle.gen_moves.proofs.Tallying.{tally_up, TallyAt, small_none, small_more, tally_start, tally_gap, tally_lay, tally_stop, tally_end, tally_is}
use Rattle.gen_moves.proofs.tallies.tally_of.Goals as goal
use Rattle.gen_moves.proofs.tallies.tally_of.Goals.{then-is_laid, else-is_laid+else-tally-gt0}

pub loop-place-init : goal.loop-place-init
loop-place-init c =
    let e = c.none-tally.ensures in
    let t = c.none-tally.result in
    record {
      small = small_none 0 t e.letters e.word e.crosses e.free;
      known = λ first len lies. tally_start c.args.rules.now (place_in c.args.places.now) (new_tile c.args.tiles.now) first len t e.letters e.word e.crosses e.free;
    }

pub with-tally-requires-clause-small : goal.with-tally-requires-clause-small
with-tally-requires-clause-small c = tally_up c.loop-place.place 14 c.loop-place.tally (omega arith) c.loop-place.invariant.small

pub score-requires : goal.score-requires
score-requires c = tally_up c.loop-place.place 15 c.loop-place.tally (omega arith) c.loop-place.invariant.small

pub score-requires-2 : goal.score-requires-2
score-requires-2 c = tally_up c.loop-place.place 15 c.loop-place.tally (omega arith) c.loop-place.invariant.small

pub returns-then-tally-gt0 : goal.returns-then-tally-gt0
returns-then-tally-gt0 c first len lies =
    let rules = c.args.rules.now in
    let places = place_in c.args.places.now in
    let tiles = new_tile c.args.tiles.now in
    let here : (d : Option Tile) → get_or c.args.tiles.now c.loop-place.place d ≡ tiles c.loop-place.place = λ d. get_or_default c.args.tiles.now c.loop-place.place d None (omega arith) in
    let gap : is_laid places tiles c.loop-place.place ≡ false = ap (λ (o : Option Tile). not (places c.loop-place.place).free || is_some o) (sym (here _)) ∙ sym c.is_laid.ensures ∙ c.if-is_laid.false in
    tally_is rules places tiles first len c.score.result c.loop-place.tally
    (tally_stop rules places tiles first len c.loop-place.place c.loop-place.tally lies gap c.if-tally-gt0.true (c.loop-place.invariant.known first len lies)) c.score.ensures

pub loop-place-preserved : goal.loop-place-preserved
loop-place-preserved c =
    let rules = c.args.rules.now in
    let places = place_in c.args.places.now in
    let tiles = new_tile c.args.tiles.now in
    let at = c.loop-place.place in
    let t = c.loop-place.tally in
    let below : at < 15 = omega arith in
    let here : (d : Option Tile) → get_or c.args.tiles.now at d ≡ tiles at = λ d. get_or_default c.args.tiles.now at d None (omega arith) in
    let laid_is : c.is_laid.result ≡ is_laid places tiles at = c.is_laid.ensures ∙ ap (λ (o : Option Tile). not (places at).free || is_some o) (here _) in
    elim c.if-is_laid.branch [
      | then-is_laid w ↦ (let e = w.with-tally.ensures in
          let more = w.with-tally.result in
          let points : w.points_of_tile.result ≡ points_at rules tiles at = w.points_of_tile.ensures.points ∙ ap (points_on rules) (here _) in
          let laid : is_laid places tiles at ≡ true = sym laid_is ∙ w.if-is_laid.true in
          let letters = e.letters ∙ ap (λ n. t.letters + ((places at).old + (places at).letter * n)) points in
          let crosses = e.crosses ∙ ap (λ n. t.crosses + ((places at).side + (places at).cross * n)) points in
          record {
            small = subst (IsSmallTally (at + 1)) (sym w.tally-is)
                (small_more at w.points_of_tile.result t more (places at) c.loop-place.invariant.small (c.requires at below) w.points_of_tile.ensures.limit e.letters e.word e.crosses e.free);
            known = λ first len lies.
                subst (TallyAt rules places tiles first len (at + 1)) (sym w.tally-is)
                (tally_lay rules places tiles first len at t more below lies laid letters e.word crosses e.free (c.loop-place.invariant.known first len lies));
          })
      | else-is_laid+else-tally-gt0 w ↦ (let e = w.none-tally-else-is_laid.ensures in
          let none = w.none-tally-else-is_laid.result in
          let gap : is_laid places tiles at ≡ false = sym laid_is ∙ w.if-is_laid.false in
          let nothing : t.free ≡ 0 = let few = w.if-tally-gt0.false in omega arith in
          record {
            small = subst (IsSmallTally (at + 1)) (sym w.tally-is) (small_none (at + 1) none e.letters e.word e.crosses e.free);
            known = λ first len lies.
                subst (TallyAt rules places tiles first len (at + 1)) (sym w.tally-is)
                (tally_gap rules places tiles first len at t none below lies gap nothing e.letters e.word e.crosses e.free (c.loop-place.invariant.known first len lies));
          })
    ]

pub returns : goal.returns
returns c first len lies =
    let rules = c.args.rules.now in
    let places = place_in c.args.places.now in
    let tiles = new_tile c.args.tiles.now in
    let whole : c.loop-place.place ≡ 15 = omega arith in
    tally_is rules places tiles first len c.score-2.result c.loop-place.tally
    (tally_end rules places tiles first len c.loop-place.place c.loop-place.tally lies whole (c.loop-place.invariant.known first len lies)) c.score-2.ensures
