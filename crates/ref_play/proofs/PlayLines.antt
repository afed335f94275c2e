-- The words and the score of a sound play, by the stretch in which it lies and the cross lines of its tiles.
use Rattle.std.proofs.Common.{◌≡◌, ℕ, ◌+◌, ◌<◌, ◌≤◌, Bool, true, nat_le, List, [], ◌∷◌, ◌++◌, map, length, sum_by, sym, ap, ◌∙◌, subst, arith, ⊎_elim, Option}
use Rattle.std.specs.Prelude.{if◌then◌else◌}
use Rattle.std.specs.List.{flat_map}
use Rattle.std.proofs.lemmas.Bool.{cases_lt, leb-true, le-leb, false_from_ne_true}
use Rattle.ref_tiles.specs.declared.tiles.Tile.{Tile}
use Rattle.ref_tiles.specs.declared.rulebook.Rules.{Rules}
use Rattle.ref_tiles.specs.declared.letters.Letter.{Letter}
use Rattle.ref_board.specs.declared.directions.Dir.{Dir}
use Rattle.ref_board.specs.Lines.{line_of, square_at, other_dir}
use Rattle.ref_play.specs.declared.placed.Placed.{Placed}
use Rattle.ref_play.specs.declared.runs.Run.{Run}
use Rattle.ref_play.specs.Placements.{is_play, with_tiles}
use Rattle.ref_play.specs.Formed.{run_of, runs_through}
use Rattle.ref_play.specs.Words.{letters_of, words_formed}
use Rattle.ref_play.specs.Scores.{run_score, bonus_score, score_of}
use Rattle.ref_play.specs.Directions.{LiesIn}
use Rattle.ref_play.specs.Crosses.{run_in, cross_words, cross_score}
use Rattle.ref_play.specs.Soundness.{IsSound}
use Rattle.ref_play.proofs.RangeLaws.{Contains-here}
use Rattle.ref_play.proofs.PlaceLaws.{is_play-parts, on_board}
use Rattle.ref_play.proofs.FormedRuns.{run_through, no_run_through}
use Rattle.ref_play.proofs.Laying.{no_gap_in, legal_from_sound}
use Rattle.ref_play.proofs.Directing.{stretch_is_run}
use Rattle.ref_play.proofs.Agreeing.{cross_words-face}
use Rattle.ref_play.proofs.Crossing.{words_are}
use Rattle.ref_play.proofs.ScoreLaws.{score_splits}

-- the run of the stretch in which a placement lies is the one through its first tile
pub main_run : (d : Dir) (after : List (Option Tile)) (p : Placed) (ps : List Placed) (line first len : ℕ) → p.square < 225 → LiesIn d after (p ∷ ps) line first len
    → runs_through d after p.square ≡ run_in d line first len
main_run d after p ps line first len on lies =
    let own = line_of d p.square in
    let same : own ≡ line = lies.lines p (Contains-here p ps) in
    let run = stretch_is_run d after p ps first len on (subst (λ (l : ℕ). LiesIn d after (p ∷ ps) l first len) (sym same) lies) in
    ⊎_elim
    (λ (short : len < 2).
    no_run_through d after p.square (square_at d own first) len run short
    ∙ sym (ap (λ (b : Bool). if b then run_of d line (first, len) ∷ [] else []) (false_from_ne_true (nat_le 2 len) (λ t. let long = leb-true 2 len t in omega arith))))
    (λ (long : 2 ≤ len).
    run_through d after p.square (square_at d own first) len on run long
    ∙ ap (λ (l : ℕ). run_of d l (first, len) ∷ []) same
    ∙ sym (ap (λ (b : Bool). if b then run_of d line (first, len) ∷ [] else []) (le-leb 2 len long)))
    (cases_lt len 2)

pub words_of_lines : (d : Dir) (board : List (Option Tile)) (ps : List Placed) → length board ≡ 225 → is_play d ps ≡ true → (sound : IsSound d board ps)
    → words_formed d board ps
    ≡ map (letters_of (with_tiles board ps)) (run_in d sound.line sound.first sound.len)
    ++ flat_map (λ (p : Placed). cross_words (other_dir d) board p.square p.tile) ps
words_of_lines d board [] size play sound = let parts = is_play-parts d [] play in absurd (omega (arith, parts.0))
words_of_lines d board (p ∷ ps) size play sound =
    let all = p ∷ ps in
    let after = with_tiles board all in
    let parts = is_play-parts d all play in
    let on = on_board all p parts.1 (Contains-here p ps) in
    words_are d board p ps size play (no_gap_in d after all sound.line sound.first sound.len sound.lies)
    ∙ ap (λ (runs : List Run). map (letters_of after) runs ++ flat_map (λ (q : Placed). cross_words (other_dir d) board q.square q.tile) all)
    (main_run d after p ps sound.line sound.first sound.len on sound.lies)

pub score_of_lines : (d : Dir) (rules : Rules) (board : List (Option Tile)) (ps : List Placed) → length board ≡ 225 → is_play d ps ≡ true → (sound : IsSound d board ps)
    → score_of rules board ps
    ≡ sum_by (run_score rules (with_tiles board ps) ps) (run_in d sound.line sound.first sound.len)
    + sum_by (λ (p : Placed). cross_score rules (other_dir d) board p.square p.tile) ps
    + bonus_score rules ps
score_of_lines d rules board [] size play sound = let parts = is_play-parts d [] play in absurd (omega (arith, parts.0))
score_of_lines d rules board (p ∷ ps) size play sound =
    let all = p ∷ ps in
    let after = with_tiles board all in
    let parts = is_play-parts d all play in
    let on = on_board all p parts.1 (Contains-here p ps) in
    score_splits d rules board p ps size play (legal_from_sound d board all play sound)
    ∙ ap (λ (runs : List Run). sum_by (run_score rules after all) runs + sum_by (λ (q : Placed). cross_score rules (other_dir d) board q.square q.tile) all + bonus_score rules all)
    (main_run d after p ps sound.line sound.first sound.len on sound.lies)

pub blanks_alike : (d : Dir) (board : List (Option Tile)) (square : ℕ) (a b : Tile) → square < length board → a.shown ≡ b.shown → cross_words d board square a ≡ cross_words d board square b
blanks_alike d board square a b inside same = cross_words-face d board square a b inside (ap (λ (l : Letter). l.index) same)
