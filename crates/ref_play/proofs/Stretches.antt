-- The whole stretch of a line through a place that has a tile, and the one in which a play without a gap lies.
use Rattle.std.proofs.Common.{◌≡◌, ℕ, zero, suc, ◌+◌, ◌-◌, ◌<◌, ◌≤◌, Bool, true, false, List, ◌∷◌, length, sym, ap, ◌∙◌, arith, ◌⊎◌, ⊎_elim, Option}
use Rattle.std.specs.Prelude.{Contains}
use Rattle.std.proofs.lemmas.Bool.{cases_Bool, cases_eq, cases_order}
use Rattle.ref_tiles.specs.declared.tiles.Tile.{Tile}
use Rattle.ref_board.specs.declared.directions.Dir.{Dir}
use Rattle.ref_board.specs.Lines.{line_of, place_of, square_at}
use Rattle.ref_board.specs.Cells.{holds, occupied_on}
use Rattle.ref_board.specs.Runs.{IsWhole, IsFirstBack, IsEndOn}
use Rattle.ref_play.specs.declared.placed.Placed.{Placed}
use Rattle.ref_play.specs.Placements.{is_play, with_tiles, fresh_on}
use Rattle.ref_play.specs.Formed.{run_of, MeetsRun}
use Rattle.ref_play.specs.Legality.{HasNoGap}
use Rattle.ref_play.specs.Directions.{LiesIn}
use Rattle.ref_play.proofs.RangeLaws.{Contains-here}
use Rattle.ref_play.proofs.LineLaws.{square_at-of, line_below, place_below, is_formed-from}
use Rattle.ref_play.proofs.RunLaws.{stretch_meets}
use Rattle.ref_play.proofs.PlaceLaws.{is_play-parts, on_board, on_one_line, with_tiles-holds}
use Rattle.ref_play.proofs.FormedRuns.{reach, covered}

-- the first of the tiles directly before a place, and the place after the tiles directly after it
pub first_back : (occupied : ℕ → Bool) (place : ℕ) → (first : ℕ) × IsFirstBack occupied place first
first_back occupied zero = (0, record { not_after = omega arith; filled = λ k low high. absurd (omega arith); before = λ some. absurd (omega arith) })
first_back occupied (suc n) =
    ⊎_elim
    (λ (e : occupied n ≡ true).
    let rest = first_back occupied n in
    let back = rest.1 in
    let not_after = back.not_after in (
      rest.0,
      record {
        not_after = omega arith;
        filled = λ k low high. ⊎_elim (λ (s : k ≡ n). ap occupied s ∙ e) (λ (ne : k ≡ n → ⊥). back.filled k low (omega arith)) (cases_eq k n);
        before = back.before;
      },
    ))
    (λ (e : occupied n ≡ false).
    let here : suc n - 1 ≡ n = omega arith in
    (suc n, record { not_after = omega arith; filled = λ k low high. absurd (omega arith); before = λ some. ap occupied here ∙ e }))
    (cases_Bool (occupied n))

pub end_on : (occupied : ℕ → Bool) (place room : ℕ) → place + suc room ≡ 15 → (end : ℕ) × IsEndOn occupied place end
end_on occupied place zero e =
    (15, record { following = omega arith; inside = omega arith; filled = λ k low high. absurd (omega arith); after = λ more. absurd (omega arith) })
end_on occupied place (suc room) e =
    ⊎_elim
    (λ (here : occupied (place + 1) ≡ true).
    let rest = end_on occupied (place + 1) room (omega arith) in
    let on = rest.1 in
    let following = on.following in (
      rest.0,
      record {
        following = omega arith;
        inside = on.inside;
        filled = λ k low high. ⊎_elim (λ (s : k ≡ place + 1). ap occupied s ∙ here) (λ (ne : k ≡ place + 1 → ⊥). on.filled k (omega arith) high) (cases_eq k (place + 1));
        after = on.after;
      },
    ))
    (λ (none : occupied (place + 1) ≡ false).
    (place + 1, record { following = omega arith; inside = omega arith; filled = λ k low high. absurd (omega arith); after = λ more. none }))
    (cases_Bool (occupied (place + 1)))

-- the whole stretch through a place that has a tile
pub record Stretch (occupied : ℕ → Bool) (place : ℕ) : Type 0 where
  pub first : ℕ
  pub len : ℕ
  pub whole : IsWhole occupied first len
  pub low : first ≤ place
  pub high : place < first + len

pub stretch_through : (occupied : ℕ → Bool) (place : ℕ) → place < 15 → occupied place ≡ true → Stretch occupied place
stretch_through occupied place below here =
    let back = first_back occupied place in
    let on = end_on occupied place (14 - place) (omega arith) in
    let first = back.0 in
    let end = on.0 in
    let low = back.1.not_after in
    let high = on.1.following in
    let inside = on.1.inside in
    let reaches : first + (end - first) ≡ end = omega arith in
    record {
      first = first;
      len = end - first;
      whole = record {
        inside = omega arith;
        filled = λ k from upto. ⊎_elim
            (λ (s : k ≡ place). ap occupied s ∙ here)
            (λ (o : (k < place) ⊎ (place < k)). ⊎_elim (λ (s : k < place). back.1.filled k from s) (λ (s : place < k). on.1.filled k s (omega arith)) o)
            (cases_order k place);
        before = back.1.before;
        after = λ more. ap occupied reaches ∙ on.1.after (omega arith);
      };
      low = low;
      high = omega arith;
    }

-- a play without a gap lies in the stretch through its first tile
pub lies_in : (d : Dir) (board : List (Option Tile)) (p : Placed) (ps : List Placed) → length board ≡ 225 → is_play d (p ∷ ps) ≡ true → HasNoGap (with_tiles board (p ∷ ps)) (p ∷ ps)
    → (first : ℕ) × (len : ℕ) × LiesIn d (with_tiles board (p ∷ ps)) (p ∷ ps) (line_of d p.square) first len
lies_in d board p ps size play no_gap =
    let after = with_tiles board (p ∷ ps) in
    let line = line_of d p.square in
    let occupied = occupied_on d after line in
    let parts = is_play-parts d (p ∷ ps) play in
    let filled : (q : Placed) → Contains (p ∷ ps) q → occupied (place_of d q.square) ≡ true =
    λ q c.
    let on = on_board (p ∷ ps) q parts.1 c in
    ap (λ (l : ℕ). holds after (square_at d l (place_of d q.square))) (sym (on_one_line d p ps q parts.3 c)) ∙ ap (holds after) (square_at-of d q.square)
    ∙ with_tiles-holds (p ∷ ps) board q (omega arith) c in
    let at_first = Contains-here p ps in
    let through = stretch_through occupied (place_of d p.square) (place_below d p.square (on_board (p ∷ ps) p parts.1 at_first)) (filled p at_first) in
    let reached : (q : Placed) → Contains (p ∷ ps) q → (through.first ≤ place_of d q.square) × (place_of d q.square < through.first + through.len) =
    λ q c.
    reach occupied through.first through.len (place_of d p.square) (place_of d q.square) through.whole through.low through.high
    (place_below d q.square (on_board (p ∷ ps) q parts.1 c)) (filled q c)
    (λ x low high. no_gap d p q x parts.3 at_first c low high)
    (λ x low high. ap (λ (l : ℕ). holds after (square_at d l x)) (sym (on_one_line d p ps q parts.3 c)) ∙ no_gap d q p x parts.3 c at_first low high) in (
      through.first,
      through.len,
      record {
        whole = through.whole;
        lines = λ q c. on_one_line d p ps q parts.3 c;
        low = λ q c. (reached q c).0;
        high = λ q c. (reached q c).1;
      },
    )

-- a stretch of two tiles or more in which a placement lies is a run that meets it
pub meets_stretch : (d : Dir) (after : List (Option Tile)) (p : Placed) (ps : List Placed) (line first len : ℕ) → p.square < 225 → LiesIn d after (p ∷ ps) line first len → 2 ≤ len
    → MeetsRun after (p ∷ ps) (run_of d line (first, len))
meets_stretch d after p ps line first len on lies long =
    let here = Contains-here p ps in
    let place = place_of d p.square in
    let line_is = lies.lines p here in
    let below = line_below d p.square on in
    let square_is : p.square ≡ square_at d line place = sym (square_at-of d p.square) ∙ ap (λ (l : ℕ). square_at d l place) line_is in
    stretch_meets d after (p ∷ ps) line first len (omega arith) long
    (is_formed-from (occupied_on d after line) (fresh_on d (p ∷ ps) line) first len place lies.whole (lies.low p here) (lies.high p here)
    (covered (p ∷ ps) (square_at d line place) p here square_is))
