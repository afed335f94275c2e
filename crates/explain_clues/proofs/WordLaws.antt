-- What the words of a play add up to.
use Rattle.std.proofs.Common.{◌≡◌, ℕ, pos, zero, suc, ◌+◌, ◌*◌, ◌==◌, Bool, true, false, List, [], ◌∷◌, ◌++◌, length, map, take, slice_get, sum_by, Option, Some, None, refl, sym, ap, ◌∙◌}
use Rattle.std.specs.Prelude.{if◌then◌else◌}
use Rattle.std.specs.Option.{unwrap_or}
use Rattle.std.proofs.lemmas.List.Sums.{sum_by-cons}
use Rattle.std.proofs.lemmas.List.{length-map}
use Rattle.std.proofs.lemmas.Option.{same_Some}
use Rattle.arrayvec.specs.ArrayVec.{ArrayVec}
use Rattle.ref_tiles.specs.declared.tiles.Tile.{Tile}
use Rattle.ref_tiles.specs.declared.rulebook.Rules.{Rules}
use Rattle.ref_board.specs.declared.directions.Dir.{Dir}
use Rattle.ref_play.specs.declared.placed.Placed.{Placed}
use Rattle.ref_play.specs.declared.runs.Run.{Run}
use Rattle.ref_play.specs.Placements.{with_tiles}
use Rattle.ref_play.specs.Formed.{runs_formed}
use Rattle.ref_play.specs.Scores.{words_factor, run_score, score_of}
use Rattle.ref_play.specs.Words.{letters_of, words_formed, items_of}
use Rattle.lex_list.specs.Words.{is_listed}
use Rattle.explain_clues.specs.declared.words.WordSquare.{WordSquare}
use Rattle.explain_clues.specs.declared.words.ScoredWord.{ScoredWord}
use Rattle.explain_clues.specs.Words.{WordSum, squares_on, word_sum, word_sums, worth, sum_in}
use Rattle.explain_clues.specs.Laws.{SumsAddUp}
use Rattle.explain_clues.specs.declared.plays.PlayedSquare.{PlayedSquare}
use Rattle.explain_clues.specs.declared.plays.PlayedWord.{PlayedWord}
use Rattle.explain_clues.specs.declared.plays.ScoredPlay.{ScoredPlay}
use Rattle.explain_clues.specs.Plays.{WordValue, played_square, word_in, added, played_word, word_by, words_by, full_bonus, whole_score, IsScoredPlay}

-- ---- one more word

pub words_more : (list : List (List ℕ)) (scored : List ScoredWord) (letters : List (ArrayVec ℕ)) (k : ℕ) (w : ScoredWord) (l : ArrayVec ℕ)
    → slice_get scored k ≡ Some w → slice_get letters k ≡ Some l
    → words_by list (map sum_in (take (suc k) scored)) (items_of (take (suc k) letters))
    ≡ words_by list (map sum_in (take k scored)) (items_of (take k letters)) ++ word_by list (sum_in w) l.items ∷ []
words_more list [] letters k w l of_w of_l = cc
words_more list (s ∷ scored) [] k w l of_w of_l = cc
words_more list (s ∷ scored) (m ∷ letters) zero w l of_w of_l =
    let first : s ≡ w = same_Some s w of_w in
    let second : m ≡ l = same_Some m l of_l in
    ap (λ (x : ScoredWord). word_by list (sum_in x) m.items ∷ []) first ∙ ap (λ (x : ArrayVec ℕ). word_by list (sum_in w) x.items ∷ []) second
words_more list (s ∷ scored) (m ∷ letters) (suc k) w l of_w of_l =
    ap (λ (rest : List WordValue). word_by list (sum_in s) m.items ∷ rest) (words_more list scored letters k w l of_w of_l)

pub one_reported : (words : List PlayedWord) (w : PlayedWord) → map word_in (words ++ w ∷ []) ≡ map word_in words ++ word_in w ∷ []
one_reported [] w = refl
one_reported (x ∷ words) w = ap (λ (rest : List WordValue). word_in x ∷ rest) (one_reported words w)

-- ---- sums

added_is : (squares : List WordSquare) → sum_by worth squares ≡ added (map played_square squares)
added_is [] = refl
added_is (s ∷ squares) =
    sum_by-cons worth s squares ∙ ap (λ n. worth s + n) (added_is squares) ∙ sym (sum_by-cons (λ (p : PlayedSquare). p.adds) (played_square s) (map played_square squares))

score_is : SumsAddUp → (rules : Rules) (after : List (Option Tile)) (ps : List Placed) (run : Run)
    → run_score rules after ps run ≡ added (map played_square (squares_on rules after ps run)) * words_factor rules ps run
score_is law rules after ps run = law.word rules after ps run ∙ ap (λ n. n * words_factor rules ps run) (added_is (squares_on rules after ps run))

abbrev with_sums : Rules → (list : List (List ℕ)) → (after : List (Option Tile)) → List Placed → Run → (added score : ℕ) → WordValue
with_sums rules list after ps run sum score =
    record {
      letters = letters_of after run;
      is_listed = is_listed list (letters_of after run);
      squares = map played_square (squares_on rules after ps run);
      letters_sum = sum;
      factor = words_factor rules ps run;
      score = score;
    }

word_is : SumsAddUp → (rules : Rules) (list : List (List ℕ)) (after : List (Option Tile)) (ps : List Placed) (run : Run)
    → word_by list (word_sum rules after ps run) (letters_of after run) ≡ played_word rules list after ps run
word_is law rules list after ps run =
    ap (λ n. with_sums rules list after ps run n (run_score rules after ps run)) (added_is (squares_on rules after ps run))
    ∙ ap (with_sums rules list after ps run (added (map played_square (squares_on rules after ps run)))) (score_is law rules after ps run)

words_are : SumsAddUp → (rules : Rules) (list : List (List ℕ)) (after : List (Option Tile)) (ps : List Placed) (runs : List Run)
    → words_by list (map (word_sum rules after ps) runs) (map (letters_of after) runs) ≡ map (played_word rules list after ps) runs
words_are law rules list after ps [] = refl
words_are law rules list after ps (run ∷ runs) =
    ap (λ (w : WordValue). w ∷ words_by list (map (word_sum rules after ps) runs) (map (letters_of after) runs)) (word_is law rules list after ps run)
    ∙ ap (λ (rest : List WordValue). played_word rules list after ps run ∷ rest) (words_are law rules list after ps runs)

scores_are : SumsAddUp → (rules : Rules) (list : List (List ℕ)) (after : List (Option Tile)) (ps : List Placed) (runs : List Run)
    → sum_by (λ (v : WordValue). v.score) (map (played_word rules list after ps) runs) ≡ sum_by (λ (w : WordSum). w.score) (map (word_sum rules after ps) runs)
scores_are law rules list after ps [] = refl
scores_are law rules list after ps (run ∷ runs) =
    let value = λ (v : WordValue). v.score in
    let scored = λ (w : WordSum). w.score in
    let values = map (played_word rules list after ps) runs in
    sum_by-cons value (played_word rules list after ps run) values
    ∙ ap (λ n. n + sum_by value values) (sym (score_is law rules after ps run))
    ∙ ap (λ n. run_score rules after ps run + n) (scores_are law rules list after ps runs)
    ∙ sym (sum_by-cons scored (word_sum rules after ps run) (map (word_sum rules after ps) runs))

reported_scores : (words : List PlayedWord) → sum_by (λ (w : PlayedWord). w.score) words ≡ sum_by (λ (v : WordValue). v.score) (map word_in words)
reported_scores [] = refl
reported_scores (w ∷ words) =
    sum_by-cons (λ (x : PlayedWord). x.score) w words ∙ ap (λ n. w.score + n) (reported_scores words) ∙ sym (sum_by-cons (λ (v : WordValue). v.score) (word_in w) (map word_in words))

bonus_by : (b : Bool) (n : ℕ) → unwrap_or (if b then Some n else None) 0 ≡ (if b then n else 0)
bonus_by true n = refl
bonus_by false n = refl

-- ---- the play

pub play_adds_up : SumsAddUp → (rules : Rules) (list : List (List ℕ)) (board : List (Option Tile)) (d : Dir) (ps : List Placed) (p : ScoredPlay) (sums : List WordSum) (letters : List (List ℕ))
    → sums ≡ word_sums rules d board ps → letters ≡ words_formed d board ps → map word_in p.words.items ≡ words_by list sums letters → p.bonus ≡ full_bonus rules ps
    → p.score ≡ pos (score_of rules board ps) → IsScoredPlay rules list board d ps p
unfolding word_sums words_formed
play_adds_up law rules list board d ps p sums letters of_sums of_letters of_words of_bonus of_score =
    let after = with_tiles board ps in
    let runs = runs_formed d after ps in
    let words : map word_in p.words.items ≡ map (played_word rules list after ps) runs =
    of_words ∙ ap (λ (s : List WordSum). words_by list s letters) of_sums ∙ ap (λ (l : List (List ℕ)). words_by list (map (word_sum rules after ps) runs) l) of_letters
    ∙ words_are law rules list after ps runs in
    let together : whole_score p ≡ score_of rules board ps =
    ap (λ n. n + unwrap_or p.bonus 0) (reported_scores p.words.items ∙ ap (λ (vs : List WordValue). sum_by (λ (v : WordValue). v.score) vs) words ∙ scores_are law rules list after ps runs)
    ∙ ap (λ (o : Option ℕ). sum_by (λ (w : WordSum). w.score) (map (word_sum rules after ps) runs) + unwrap_or o 0) of_bonus
    ∙ ap (λ n. sum_by (λ (w : WordSum). w.score) (map (word_sum rules after ps) runs) + n) (bonus_by (length ps == 7) rules.bonus)
    ∙ law.play rules d board ps in
    record { words = words; bonus = of_bonus; adds_up = of_score ∙ ap pos (sym together); right = of_score }

-- there are as many sums as words
pub as_many : (rules : Rules) (board : List (Option Tile)) (d : Dir) (ps : List Placed) (scored : List ScoredWord) (letters : List (ArrayVec ℕ)) → map sum_in scored ≡ word_sums rules d board ps
    → items_of letters ≡ words_formed d board ps → length scored ≡ length letters
unfolding word_sums words_formed
as_many rules board d ps scored letters of_sums of_letters =
    let after = with_tiles board ps in
    let runs = runs_formed d after ps in
    sym (length-map scored sum_in) ∙ ap (λ (s : List WordSum). length s) of_sums ∙ length-map runs (word_sum rules after ps)
    ∙ sym (length-map runs (letters_of after)) ∙ sym (ap (λ (l : List (List ℕ)). length l) of_letters) ∙ length-map letters (λ (w : ArrayVec ℕ). w.items)
