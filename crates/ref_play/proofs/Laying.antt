-- A play is legal exactly when it is sound: its tiles lie on empty squares, in one whole stretch of their line, form a run and
-- cover an anchor.
use Rattle.std.proofs.Common.{◌≡◌, ℕ, ◌<◌, true, List, [], ◌∷◌, length, sym, ap, ◌∙◌, subst, arith, inl, inr, ⊎_elim, Option, None}
use Rattle.std.specs.Prelude.{Contains, ◌↔◌}
use Rattle.std.proofs.lemmas.List.Elements.{All-contains}
use Rattle.ref_tiles.specs.declared.tiles.Tile.{Tile}
use Rattle.ref_board.specs.declared.directions.Dir.{Dir}
use Rattle.ref_board.specs.Lines.{line_of, place_of, square_at, other_dir}
use Rattle.ref_board.specs.Cells.{tile_at, holds, HasNoTile}
use Rattle.ref_board.specs.Anchors.{centre, AreBeside}
use Rattle.ref_play.specs.declared.placed.Placed.{Placed}
use Rattle.ref_play.specs.Placements.{are_in_line, is_play, with_tiles, covers}
use Rattle.ref_play.specs.Legality.{HasNoGap, IsLegal}
use Rattle.ref_play.specs.Directions.{LiesIn}
use Rattle.ref_play.specs.Soundness.{IsSound}
use Rattle.ref_play.proofs.PlaceLaws.{is_play-parts, on_one_line}
use Rattle.ref_play.proofs.FormedRuns.{same_by_lines, covering, covered, none_contained}
use Rattle.ref_play.proofs.LegalLaws.{dir_cases, in_line_of}
use Rattle.ref_play.proofs.Stretches.{lies_in}

-- two tiles of a placement that is in line lie on one line
pub on_same_line : (d : Dir) (ps : List Placed) (p q : Placed) → are_in_line d ps ≡ true → Contains ps p → Contains ps q → line_of d p.square ≡ line_of d q.square
on_same_line d [] p q line has_p has_q = absurd (none_contained p has_p)
on_same_line d (first ∷ ps) p q line has_p has_q = on_one_line d first ps p line has_p ∙ sym (on_one_line d first ps q line has_q)

-- what lies in a whole stretch has no gap
pub no_gap_in : (d : Dir) (after : List (Option Tile)) (ps : List Placed) (line first len : ℕ) → LiesIn d after ps line first len → HasNoGap after ps
no_gap_in d after ps line first len lies =
    λ e p q place in_line has_p has_q low high.
    ⊎_elim
    (λ (s : e ≡ d).
    subst (λ (x : Dir). place_of x p.square < place → place < place_of x q.square → holds after (square_at x (line_of x p.square) place) ≡ true) (sym s)
    (λ a b.
    let from = lies.low p has_p in
    let upto = lies.high q has_q in
    ap (λ (l : ℕ). holds after (square_at d l place)) (lies.lines p has_p) ∙ lies.whole.filled place (omega arith) (omega arith))
    low high)
    (λ (s : e ≡ other_dir d).
    let turned = subst (λ (x : Dir). are_in_line x ps ≡ true) s in_line in
    let one_line = lies.lines p has_p ∙ sym (lies.lines q has_q) in
    let same = ap (place_of e) (same_by_lines d p.square q.square one_line (on_same_line (other_dir d) ps p q turned has_p has_q)) in
    absurd (omega arith))
    (dir_cases d e)

pub sound_from_legal : (d : Dir) (board : List (Option Tile)) (ps : List Placed) → length board ≡ 225 → is_play d ps ≡ true → IsLegal board ps → IsSound d board ps
sound_from_legal d board [] size play legal = let parts = is_play-parts d [] play in absurd (omega (arith, parts.0))
sound_from_legal d board (p ∷ ps) size play legal =
    let free_at : (q : Placed) → Contains (p ∷ ps) q → tile_at board q.square ≡ None =
    λ q c. All-contains (λ (r : Placed). tile_at board r.square ≡ None) (p ∷ ps) q legal.on_empty c in
    let stretch = lies_in d board p ps size play legal.no_gap in
    record {
      free = legal.on_empty;
      line = line_of d p.square;
      first = stretch.0;
      len = stretch.1;
      lies = stretch.2;
      run = legal.forms_run;
      anchor =
          ⊎_elim
          (λ (h : HasNoTile board × (covers (p ∷ ps) centre ≡ true)).
          let found = covering (p ∷ ps) centre h.1 in (found.0, found.1, record { free = free_at found.0 found.1; near = inl (h.0, found.2) }))
          (λ (h : (q : Placed) × (square : ℕ) × Contains (p ∷ ps) q × AreBeside q.square square × (holds board square ≡ true)).
          (h.0, h.2, record { free = free_at h.0 h.2; near = inr (h.1, h.3, h.4) }))
          legal.anchored;
    }

pub legal_from_sound : (d : Dir) (board : List (Option Tile)) (ps : List Placed) → is_play d ps ≡ true → IsSound d board ps → IsLegal board ps
legal_from_sound d board ps play sound =
    let parts = is_play-parts d ps play in
    let p = sound.anchor.0 in
    let has_p = sound.anchor.1 in
    record {
      on_empty = sound.free;
      in_line = in_line_of d ps parts.3;
      no_gap = no_gap_in d (with_tiles board ps) ps sound.line sound.first sound.len sound.lies;
      forms_run = sound.run;
      anchored =
          ⊎_elim
          (λ (h : HasNoTile board × (p.square ≡ centre)). inl (h.0, covered ps centre p has_p h.1))
          (λ (h : (other : ℕ) × AreBeside p.square other × (holds board other ≡ true)). inr (p, h.0, has_p, h.1, h.2))
          sound.anchor.2.near;
    }

pub legal_is_sound : (d : Dir) (board : List (Option Tile)) (ps : List Placed) → length board ≡ 225 → is_play d ps ≡ true → IsLegal board ps ↔ IsSound d board ps
legal_is_sound d board ps size play = (λ legal. sound_from_legal d board ps size play legal, λ sound. legal_from_sound d board ps play sound)
