-- Bounds of small games as the definitions give them, computed.
use Rattle.std.proofs.Common.{◌≡◌, ℕ, ◌==◌, true, List, [], ◌∷◌, map, Some, None, refl, reverse}
use Rattle.std.specs.Prelude.{codes}
use Rattle.std.specs.List.{count_by, range_with_len}
use Rattle.ref_tiles.specs.declared.rulebook.Rules.{Rules}
use Rattle.ref_tiles.specs.English.{english, english_premiums}
use Rattle.ref_tiles.specs.Letters.{letter_at}
use Rattle.ref_tiles.specs.Limits.{most_tiles}
use Rattle.ref_tiles.specs.Counting.{no_tiles}
use Rattle.gcg_read.specs.declared.events.Seat.{Seat}
use Rattle.gcg_read.specs.declared.events.Seat.TheVariants.{First, Second}
use Rattle.deal_steps.specs.declared.steps.Motion.TheVariants as motion
use Rattle.deal_steps.specs.declared.steps.Act.{Act}
use Rattle.deal_steps.specs.declared.steps.Act.TheVariants as act
use Rattle.deal_steps.specs.declared.steps.Step.{Step}
use Rattle.deal_steps.specs.declared.faults.DealBound.TheVariants as fault
use Rattle.deal_steps.specs.Piles.{kinds, joined, without, greater}
use Rattle.ref_tiles.specs.Kinds.{kind_at}
use Rattle.deal_steps.specs.Bounds.{gone, low, held, bound_at, first_bound}

-- a tile set of 14: two each of A, E, R and T, one each of D, I, N, O, S and W
unfoldable pub short : Rules
unfolding english most_tiles
short = record english {
  counts = 2 ∷ 0 ∷ 0 ∷ 1 ∷ 2 ∷ 0 ∷ 0 ∷ 0 ∷ 1 ∷ 0 ∷ 0 ∷ 0 ∷ 0 ∷ 1 ∷ 1 ∷ 0 ∷ 0 ∷ 2 ∷ 1 ∷ 2 ∷ 0 ∷ 0 ∷ 1 ∷ 0 ∷ 0 ∷ 0 ∷ 0 ∷ [];
  tiles_in_limits = refl;
}

-- the number of tiles of each kind among some letters; a blank is written [
abbrev tiles : List ℕ → List ℕ
tiles letters = map (λ k. count_by (λ letter. letter == k) letters) (range_with_len 65 27)

-- a line with both racks full; what is on the board and in the bag does not matter for the bounds
abbrev pub line : ℕ → Seat → Act → Step
line n player what = record { line = n; player = player; counted = true; act = what; board = no_tiles; first = 7; second = 7; bag = 86 }

-- a player shows some tiles and passes
abbrev pass : ℕ → Seat → List ℕ → Step
pass n player shown = line n player (act.Turns (tiles shown) motion.Keeps)

-- RETAINS with the whole rack, and the other player's last rack
abbrev retains : Step
retains = line 1 First (act.Turns (tiles (codes "AEINRST")) (motion.Lays (tiles (codes "RETAINS")) 0))

abbrev last_rack : List ℕ → Step
last_rack letters = line 2 First (act.Ends Second (tiles letters))

-- ---- a kind is short

short_of_t : first_bound short (retains ∷ last_rack (codes "ADEORTT") ∷ []) ≡ Some (fault.TilesShort 2 (kind_at 19))
unfolding short english english_premiums kinds joined without greater no_tiles letter_at bound_at
short_of_t = refl

all_there : first_bound short (retains ∷ last_rack (codes "ADEORTW") ∷ []) ≡ None
unfolding short english english_premiums kinds joined without greater no_tiles letter_at bound_at
all_there = refl

-- three blanks on two racks
short_of_blanks : first_bound english (pass 1 First (codes "[[") ∷ pass 2 Second (codes "[") ∷ []) ≡ Some (fault.TilesShort 2 (kind_at 26))
unfolding short english english_premiums kinds joined without greater no_tiles letter_at bound_at
short_of_blanks = refl

-- both J and Q are short, and J comes first
first_short : first_bound english (pass 1 First (codes "QJ") ∷ pass 2 Second (codes "QJ") ∷ []) ≡ Some (fault.TilesShort 2 (kind_at 9))
unfolding short english english_premiums kinds joined without greater no_tiles letter_at bound_at
first_short = refl

-- a play that is taken back shows its tiles, and a play that stands keeps its own from the other player
shown_by_a_try : first_bound english (line 1 First (act.Turns no_tiles (motion.Tries (tiles (codes "QI")))) ∷ line 2 First (act.TakesBack (tiles (codes "QI"))) ∷ pass 3 Second (codes "Q") ∷ []) ≡ Some (fault.TilesShort 3 (kind_at 16))
unfolding short english english_premiums kinds joined without greater no_tiles letter_at bound_at
shown_by_a_try = refl

-- a tile that an exchange threw may be the other player's
thrown_and_drawn : first_bound english (line 1 First (act.Turns no_tiles (motion.Throws (tiles (codes "Q")))) ∷ pass 2 Second (codes "Q") ∷ []) ≡ None
unfolding short english english_premiums kinds joined without greater no_tiles letter_at bound_at
thrown_and_drawn = refl

-- ---- a rack is too big

-- nine tiles came to the rack, and thirteen are shown
too_big : first_bound english (line 1 First (act.Turns (tiles (codes "AEINRST")) (motion.Lays (tiles (codes "AT")) 2)) ∷ pass 2 Second [] ∷ pass 3 First (codes "AAABCDE") ∷ []) ≡ Some (fault.RackTooBig 3)
unfolding short english english_premiums kinds joined without greater no_tiles letter_at bound_at
too_big = refl

gone_by_then : gone First (line 1 First (act.Turns (tiles (codes "AEINRST")) (motion.Lays (tiles (codes "AT")) 2)) ∷ []) ≡ tiles (codes "AT")
unfolding kinds joined without greater no_tiles
gone_by_then = refl

shown_by_then : low First (reverse (line 1 First (act.Turns (tiles (codes "AEINRST")) (motion.Lays (tiles (codes "AT")) 2)) ∷ pass 3 First (codes "AAABCDE") ∷ [])) ≡ tiles (codes "AAAABCDEINRST")
unfolding kinds joined without greater no_tiles
shown_by_then = refl

-- a rack that is shown twice is one rack, and one that is shown whole has no other tile
shown_twice : first_bound english (pass 1 First (codes "AEINRST") ∷ pass 2 Second [] ∷ pass 3 First (codes "AEINRST") ∷ []) ≡ None
unfolding short english english_premiums kinds joined without greater no_tiles letter_at bound_at
shown_twice = refl

another_tile : first_bound english (pass 1 First (codes "AEINRST") ∷ pass 2 Second [] ∷ pass 3 First (codes "B") ∷ []) ≡ Some (fault.RackTooBig 3)
unfolding short english english_premiums kinds joined without greater no_tiles letter_at bound_at
another_tile = refl

-- ---- epochs

-- an exchange of unknown tiles: what was shown before it says nothing about the rack after it
new_tiles : first_bound english (line 1 First (act.Turns (tiles (codes "AEI")) (motion.ThrowsUnknown 5)) ∷ pass 2 Second (codes "QU") ∷ pass 3 First (codes "SX") ∷ []) ≡ None
unfolding short english english_premiums kinds joined without greater no_tiles letter_at bound_at
new_tiles = refl

forgotten : first_bound english (line 1 First (act.Turns (tiles (codes "AEINRST")) (motion.ThrowsUnknown 7)) ∷ pass 2 Second [] ∷ pass 3 First (codes "BCDFGHJ") ∷ []) ≡ None
unfolding short english english_premiums kinds joined without greater no_tiles letter_at bound_at
forgotten = refl

-- what was laid before it stays on the board
laid_before : held First (pass 3 First (codes "S")) (reverse (line 1 First (act.Turns no_tiles (motion.Lays (tiles (codes "QI")) 2)) ∷ line 2 First (act.Turns (tiles (codes "Z")) (motion.ThrowsUnknown 1)) ∷ [])) ≡ tiles (codes "QIS")
unfolding kinds joined without greater no_tiles
laid_before = refl

not_forgotten : first_bound english (line 1 First (act.Turns no_tiles (motion.Lays (tiles (codes "QI")) 2)) ∷ line 2 First (act.Turns no_tiles (motion.ThrowsUnknown 1)) ∷ pass 3 First (codes "Q") ∷ []) ≡ Some (fault.TilesShort 3 (kind_at 16))
unfolding short english english_premiums kinds joined without greater no_tiles letter_at bound_at
not_forgotten = refl
