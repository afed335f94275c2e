-- A tile with no tile beside it along a line makes no run there, and scores nothing.
use Rattle.std.proofs.Common.{◌≡◌, ℕ, ◌+◌, ◌-◌, ◌*◌, ◌<◌, Bool, true, false, ◌&&◌, nat_lt, List, length, sum_by, refl, ap, arith, Option, Some}
use Rattle.std.proofs.lemmas.Bool.{lt-ltb}
use Rattle.ref_tiles.specs.declared.tiles.Tile.{Tile}
use Rattle.ref_tiles.specs.declared.rulebook.Rules.{Rules}
use Rattle.ref_tiles.specs.Rulebook.{points_of, premium_at, letter_factor, word_factor}
use Rattle.ref_board.specs.declared.directions.Dir.{Dir}
use Rattle.ref_board.specs.Lines.{line_of, place_of, square_at}
use Rattle.ref_board.specs.Cells.{with_tile, occupied_on}
use Rattle.ref_board.specs.Runs.{IsFirstBack, IsEndOn}
use Rattle.ref_board.specs.Anchors.{follows_tile, precedes_tile}
use Rattle.ref_play.specs.declared.runs.Run.{Run}
use Rattle.ref_play.specs.Crosses.{cross_score, old_points}
use Rattle.ref_play.proofs.LineLaws.{place_below}
use Rattle.ref_play.proofs.FormedRuns.{no_run_through}
use Rattle.gen_cross.proofs.RunsWith.{run_with_is}

second : (a b : Bool) → a ≡ true → (a && b) ≡ false → b ≡ false
second true b e none = none
second false b e none = absurd (cc)

pub alone_scores_none : (board : List (Option Tile)) (e : Dir) (square : ℕ) → length board ≡ 225 → square < 225
    → follows_tile e board square ≡ false → precedes_tile e board square 1 ≡ false
    → (rules : Rules) (t : Tile) → cross_score rules e board square t ≡ 0
alone_scores_none board e square size on before following rules t =
    let line = line_of e square in
    let place = place_of e square in
    let low = place_below e square on in
    let back : IsFirstBack (occupied_on e board line) place place =
    record {
      not_after = omega arith;
      filled = λ k from upto. absurd (omega arith);
      before = λ some. second (nat_lt 0 place) (occupied_on e board line (place - 1)) (lt-ltb 0 place some) before;
    } in
    let ahead : IsEndOn (occupied_on e board line) place (place + 1) =
    record {
      following = omega arith;
      inside = omega arith;
      filled = λ k from upto. absurd (omega arith);
      after = λ short. second (nat_lt (place + 1) 15) (occupied_on e board line (place + 1)) (lt-ltb (place + 1) 15 short) following;
    } in
    let run : Run = record { start = square_at e line place; dir = e; len = place + 1 - place } in
    let there = run_with_is board e square place (place + 1) size on back ahead run refl refl refl in
    ap
    (sum_by (λ (r : Run). (old_points rules board r + points_of rules t.kind * letter_factor (premium_at rules square)) * word_factor (premium_at rules square)))
    (no_run_through e (with_tile board square (Some t)) square run.start run.len (there.through t) (omega arith))
