-- What the words of a play add up to.
use Rattle.std.proofs.Common.{◌≡◌, ℕ, ◌+◌, ◌*◌, Bool, true, false, List, [], ◌∷◌, map, sum_by, Option, refl, sym, ap, ◌∙◌}
use Rattle.std.specs.Prelude.{if◌then◌else◌}
use Rattle.std.specs.List.{range_with_len}
use Rattle.std.proofs.lemmas.List.Sums.{sum_by-cons}
use Rattle.ref_tiles.specs.declared.tiles.Tile.{Tile}
use Rattle.ref_tiles.specs.declared.premiums.Premium.{Premium}
use Rattle.ref_tiles.specs.declared.premiums.Premium.TheVariants as premium
use Rattle.ref_tiles.specs.declared.rulebook.Rules.{Rules}
use Rattle.ref_tiles.specs.Rulebook.{letter_factor, premium_at}
use Rattle.ref_board.specs.declared.directions.Dir.{Dir}
use Rattle.ref_play.specs.declared.placed.Placed.{Placed}
use Rattle.ref_play.specs.declared.runs.Run.{Run}
use Rattle.ref_play.specs.Placements.{with_tiles}
use Rattle.ref_play.specs.Formed.{along, runs_formed}
use Rattle.ref_play.specs.Scores.{square_points, letters_score, words_factor, run_score, bonus_score}
use Rattle.ref_play.proofs.ScoreLemmas.{score_is}
use Rattle.explain_clues.specs.Words.{WordSum, word_square, squares_on, word_sum, word_sums, worth}
use Rattle.explain_clues.specs.Laws.{SumsAddUp}

-- a sum over a mapped list is a sum over the list
sum_of_map : {X Y : Type 0} (f : Y → ℕ) (g : X → Y) (xs : List X) → sum_by f (map g xs) ≡ sum_by (λ x. f (g x)) xs
sum_of_map f g [] = refl
sum_of_map f g (x ∷ xs) = sum_by-cons f (g x) (map g xs) ∙ ap (λ n. f (g x) + n) (sum_of_map f g xs) ∙ sym (sum_by-cons (λ y. f (g y)) x xs)

-- sums by tests that agree everywhere are equal
sum_as_by : {X : Type 0} (f g : X → ℕ) (xs : List X) → ((x : X) → f x ≡ g x) → sum_by f xs ≡ sum_by g xs
sum_as_by f g [] same = refl
sum_as_by f g (x ∷ xs) same = sum_by-cons f x xs ∙ ap (λ n. n + sum_by f xs) (same x) ∙ ap (λ n. g x + n) (sum_as_by f g xs same) ∙ sym (sum_by-cons g x xs)

factor_by : (is_new : Bool) (p : Premium) → letter_factor (if is_new then p else premium.Plain) ≡ (if is_new then letter_factor p else 1)
factor_by true p = refl
factor_by false p = refl

worth_is : (rules : Rules) (after : List (Option Tile)) (ps : List Placed) (square : ℕ) → square_points rules after ps square ≡ worth (word_square rules after ps square)
worth_is rules after ps square =
    ap (λ n. (word_square rules after ps square).points * n) (sym (factor_by (word_square rules after ps square).is_new (premium_at rules square)))

letters_are : (rules : Rules) (after : List (Option Tile)) (ps : List Placed) (run : Run) → letters_score rules after ps run ≡ sum_by worth (squares_on rules after ps run)
unfolding letters_score squares_on
letters_are rules after ps run =
    sum_as_by (λ k. square_points rules after ps (along run.dir run.start k)) (λ k. worth (word_square rules after ps (along run.dir run.start k))) (range_with_len 0 run.len)
    (λ k. worth_is rules after ps (along run.dir run.start k))
    ∙ sym (sum_of_map worth (λ k. word_square rules after ps (along run.dir run.start k)) (range_with_len 0 run.len))

words_are : (d : Dir) (rules : Rules) (board : List (Option Tile)) (ps : List Placed)
    → sum_by (λ (w : WordSum). w.score) (word_sums rules d board ps) ≡ sum_by (run_score rules (with_tiles board ps) ps) (runs_formed d (with_tiles board ps) ps)
unfolding word_sums
words_are d rules board ps = sum_of_map (λ (w : WordSum). w.score) (word_sum rules (with_tiles board ps) ps) (runs_formed d (with_tiles board ps) ps)

pub sums_add_up : SumsAddUp
sums_add_up =
    record {
      word = λ rules after ps run. ap (λ n. n * words_factor rules ps run) (letters_are rules after ps run);
      play = λ rules d board ps. ap (λ n. n + bonus_score rules ps) (words_are d rules board ps) ∙ score_is d rules board ps;
    }
