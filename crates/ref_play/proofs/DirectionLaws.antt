-- Plays of one tile do not have a direction, plays of more have one.
use Rattle.std.proofs.Common.{◌≡◌, ℕ, ◌-◌, true, false, ◌==◌, nat_lt, List, [], ◌∷◌, ◌++◌, length, refl, ap, arith, Option}
use Rattle.std.specs.Prelude.{All, IsPermutation}
use Rattle.std.specs.List.{list_all}
use Rattle.std.proofs.lemmas.List.{length-append}
use Rattle.std.proofs.lemmas.List.Sorted.{All-permutation, IsPermutation-append_comm, IsPermutation-map, IsPermutation-sym}
use Rattle.std.proofs.lemmas.Bool.{and_parts, ltb-true}
use Rattle.ref_tiles.specs.declared.tiles.Tile.{Tile}
use Rattle.ref_board.specs.declared.directions.Dir.{Dir}
use Rattle.ref_board.specs.declared.directions.Dir.TheVariants.{Across, Down}
use Rattle.ref_board.specs.Lines.{place_of}
use Rattle.ref_play.specs.declared.placed.Placed.{Placed}
use Rattle.ref_play.specs.Placements.{are_rising, is_play, with_tiles}
use Rattle.ref_play.specs.Formed.{runs_along, runs_formed}
use Rattle.ref_play.specs.Words.{letters_of, words_formed}
use Rattle.ref_play.specs.Legality.{has_gap, is_too_short, fault_of}
use Rattle.ref_play.proofs.RangeLaws.{Contains-here, Contains-there}
use Rattle.ref_play.proofs.LineLaws.{same_square}
use Rattle.ref_play.proofs.PlaceLaws.{is_play-parts, on_one_line}

pub one_tile-play : (p : Placed) → is_play Across (p ∷ []) ≡ is_play Down (p ∷ [])
unfolding is_play
one_tile-play p = refl

one_tile-no_gap : (d : Dir) (after : List (Option Tile)) (p : Placed) → has_gap d after (p ∷ []) ≡ false
unfolding has_gap
one_tile-no_gap d after p =
    let nothing : place_of d p.square - place_of d p.square ≡ 0 = omega arith in rw nothing

too_short-both : (after : List (Option Tile)) (ps : List Placed) → is_too_short Across after ps ≡ is_too_short Down after ps
unfolding is_too_short
too_short-both after ps =
    let across = length-append (runs_along Across after ps) (runs_along Down after ps) in
    let down = length-append (runs_along Down after ps) (runs_along Across after ps) in
    let same : length (runs_along Across after ps ++ runs_along Down after ps) ≡ length (runs_along Down after ps ++ runs_along Across after ps) = omega arith in
    ap (λ (n : ℕ). n == 0) same

pub one_tile-fault : (board : List (Option Tile)) (p : Placed) → fault_of Across board (p ∷ []) ≡ fault_of Down board (p ∷ [])
unfolding fault_of
one_tile-fault board p =
    let after = with_tiles board (p ∷ []) in
    rw (one_tile-no_gap Across after p, one_tile-no_gap Down after p, too_short-both after (p ∷ [])) refl

pub words-both : (board : List (Option Tile)) (ps : List Placed) → IsPermutation (words_formed Across board ps) (words_formed Down board ps)
unfolding words_formed
words-both board ps =
    let after = with_tiles board ps in
    IsPermutation-map (letters_of after) (runs_formed Across after ps) (runs_formed Down after ps)
    (IsPermutation-append_comm (runs_along Across after ps) (runs_along Down after ps))

-- the words are the same in both directions
pub words_across : (P : List ℕ → Type 0) (d : Dir) (board : List (Option Tile)) (ps : List Placed) → All P (words_formed d board ps) → All P (words_formed Across board ps)
words_across P Across board ps h = h
words_across P Down board ps h = All-permutation P (words_formed Down board ps) (words_formed Across board ps) (IsPermutation-sym (words_formed Across board ps) (words_formed Down board ps) (words-both board ps)) h

pub words_along : (P : List ℕ → Type 0) (d : Dir) (board : List (Option Tile)) (ps : List Placed) → All P (words_formed Across board ps) → All P (words_formed d board ps)
words_along P Across board ps h = h
words_along P Down board ps h = All-permutation P (words_formed Across board ps) (words_formed Down board ps) (words-both board ps) h

pub more_tiles : (ps : List Placed) → is_play Across ps ≡ true → is_play Down ps ≡ true → length ps ≡ 1
more_tiles [] across down = let parts = is_play-parts Across [] across in absurd (omega (arith, parts.0))
more_tiles (p ∷ []) across down = omega arith
more_tiles (p ∷ q ∷ ps) across down =
    let a = is_play-parts Across (p ∷ q ∷ ps) across in
    let d = is_play-parts Down (p ∷ q ∷ ps) down in
    let row = on_one_line Across p (q ∷ ps) q a.3 (Contains-there p (q ∷ ps) q (Contains-here q ps)) in
    let column = on_one_line Down p (q ∷ ps) q d.3 (Contains-there p (q ∷ ps) q (Contains-here q ps)) in
    let same = same_square Across q.square p.square row column in
    let rising = and_parts (list_all (λ (r : Placed). nat_lt p.square r.square) (q ∷ ps)) (are_rising (q ∷ ps)) a.2 in
    let following = and_parts (nat_lt p.square q.square) (list_all (λ (r : Placed). nat_lt p.square r.square) ps) rising.0 in
    let less = ltb-true p.square q.square following.0 in
    absurd (omega arith)
