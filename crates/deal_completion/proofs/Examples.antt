-- Bounds and deals of small games as the definitions give them, computed. A game is given by its steps, worked out by hand from its
-- record; the deals were worked out by hand from the rule.
use Rattle.std.proofs.Common.{◌≡◌, ℕ, false, List, [], ◌∷◌, replicate, Some, None, refl, lit<}
use Rattle.std.specs.Prelude.{codes}
use Rattle.std.specs.List.{filter_map}
use Rattle.ref_tiles.specs.Counting.{no_tiles, counted as counts_of}
use Rattle.ref_tiles.specs.English.{english}
use Rattle.ref_tiles.specs.Letters.{letter_at}
use Rattle.ref_tiles.specs.Limits.{most_tiles}
use Rattle.ref_tiles.specs.declared.kinds.Kind.TheVariants as kind
use Rattle.gcg_read.specs.Racks.{kind_of}
use Rattle.gcg_read.specs.declared.events.Seat.{Seat}
use Rattle.gcg_read.specs.declared.events.Seat.TheVariants.{First, Second}
use Rattle.deal_steps.specs.declared.faults.DealBound.TheVariants as fault
use Rattle.deal_steps.specs.declared.steps.Motion.{Motion}
use Rattle.deal_steps.specs.declared.steps.Motion.TheVariants as motion
use Rattle.deal_steps.specs.declared.steps.Act.TheVariants as act
use Rattle.deal_steps.specs.declared.steps.Step.{Step}
use Rattle.deal_steps.specs.declared.deals.Held.{Held}
use Rattle.deal_steps.specs.Piles.{kinds, joined, without, greater}
use Rattle.ref_tiles.specs.Kinds.{kind_at}
use Rattle.deal_steps.specs.Bounds.{bound_at, first_bound}
use Rattle.deal_steps.specs.Runs.{IsRun}
use Rattle.deal_steps.proofs.Examples.{short, line}
use Rattle.deal_completion.specs.Completion.{lacking, with_one, pick, draw, exchange, chosen, start, dealt}
use Rattle.deal_completion.proofs.DealStates.{IsDealtFitting}
use Rattle.deal_completion.proofs.PlainDeals.{plain_games_are_dealt}

-- the number of tiles of each kind among some letters
abbrev tiles : List ℕ → List ℕ
tiles letters = counts_of (filter_map kind_of letters)

-- a turn, before which both racks have seven tiles
abbrev turn : ℕ → Seat → (shown : List ℕ) → Motion → (board : List ℕ) → (bag : ℕ) → Step
turn n player shown what board bag = record (line n player (act.Turns shown what)) { board = board; bag = bag }

-- what both players hold, if nothing is thrown
abbrev hold : (first second : List ℕ) → Held
hold first second = record { racks = record { first = first; second = second }; thrown = no_tiles }

-- ---- a play that empties a rack, and the other player's last rack

abbrev retains : Step
retains = turn 1 First (tiles (codes "AEINRST")) (motion.Lays (tiles (codes "AEINRST")) 0) no_tiles 0

abbrev last_rack : List ℕ → Step
last_rack rack = record (line 2 First (act.Ends Second rack)) { counted = false; board = tiles (codes "AEINRST"); first = 0; bag = 0 }

abbrev ended : List Step
ended = retains ∷ last_rack (tiles (codes "ADEORTW")) ∷ []

ended_is_bounded : first_bound short ended ≡ None
unfolding english short most_tiles letter_at no_tiles counts_of kinds joined without greater bound_at
ended_is_bounded = refl

ended_is_dealt : dealt short ended
    ≡ Some (hold (tiles (codes "AEINRST")) (tiles (codes "ADEORTW")) ∷ hold no_tiles (tiles (codes "ADEORTW")) ∷ [])
unfolding english short most_tiles letter_at no_tiles counts_of kinds joined without greater lacking with_one pick draw exchange chosen start dealt
ended_is_dealt = refl

-- a third T
short_of_t : first_bound short (retains ∷ last_rack (tiles (codes "ADEORTT")) ∷ []) ≡ Some (fault.TilesShort 2 (kind_at 19))
unfolding english short most_tiles letter_at no_tiles counts_of kinds joined without greater bound_at
short_of_t = refl

-- The law that there is a deal, and that it fits, applies to this game.
ended_is_run : IsRun short ended
unfolding english short most_tiles letter_at no_tiles counts_of kinds joined without greater
ended_is_run = (
  record { first = refl; second = refl; bag = refl; board = refl; may = (refl, (refl, lit< tt)) },
  (record { first = refl; second = refl; bag = refl; board = refl; may = (refl, refl) }, tt),
)

ended_fits : IsDealtFitting short ended
unfolding english short most_tiles letter_at no_tiles counts_of kinds joined without greater
ended_fits = plain_games_are_dealt short ended refl ended_is_run (refl, (refl, tt)) ((refl, refl), (refl, tt)) ended_is_bounded

-- ---- passes, and both last racks

abbrev pass : ℕ → Seat → Step
pass n player = turn n player no_tiles motion.Keeps no_tiles 86

abbrev own_rack : ℕ → Seat → List ℕ → Step
own_rack n player rack = record (line n player (act.Ends player rack)) { counted = false }

abbrev passed : List Step
passed =
    pass 1 First ∷ pass 2 Second ∷ pass 3 First ∷ pass 4 Second ∷ pass 5 First ∷ pass 6 Second
    ∷ own_rack 7 First (tiles (codes "AEINRST")) ∷ own_rack 8 Second (tiles (codes "AEINRST")) ∷ []

passed_is_bounded : first_bound english passed ≡ None
unfolding english most_tiles letter_at no_tiles counts_of kinds joined without greater bound_at
passed_is_bounded = refl

-- both racks stay as they are
passed_is_dealt : dealt english passed ≡ Some (replicate 8 (hold (tiles (codes "AEINRST")) (tiles (codes "AEINRST"))))
unfolding english most_tiles letter_at no_tiles counts_of kinds joined without greater lacking with_one pick draw exchange chosen start dealt
passed_is_dealt = refl

-- ---- an exchange of unknown tiles

abbrev exchanged : List Step
exchanged =
    turn 1 First (tiles (codes "AEI")) (motion.ThrowsUnknown 5) no_tiles 86
    ∷ turn 2 Second (tiles (codes "QU")) motion.Keeps no_tiles 86
    ∷ turn 3 First (tiles (codes "SX")) motion.Keeps no_tiles 86 ∷ []

exchanged_is_bounded : first_bound english exchanged ≡ None
unfolding english most_tiles letter_at no_tiles counts_of kinds joined without greater bound_at
exchanged_is_bounded = refl

-- The first player keeps two of the tiles on the rack, and draws S and X.
exchanged_is_dealt : dealt english exchanged
    ≡ Some (record (hold (tiles (codes "AAAAAEI")) (tiles (codes "AAAABQU"))) { thrown = tiles (codes "AAAEI") }
    ∷ hold (tiles (codes "AABCCSX")) (tiles (codes "AAAABQU")) ∷ hold (tiles (codes "AABCCSX")) (tiles (codes "AAAABQU")) ∷ [])
unfolding english most_tiles letter_at no_tiles counts_of kinds joined without greater lacking with_one pick draw exchange chosen start dealt
exchanged_is_dealt = refl

-- ---- a play that is taken back

abbrev taken_back : List Step
taken_back =
    turn 1 First (tiles (codes "DORWAAE")) (motion.Lays (tiles (codes "WORD")) 4) no_tiles 86
    ∷ turn 2 Second (tiles (codes "AT")) (motion.Tries (tiles (codes "AT"))) (tiles (codes "WORD")) 82
    ∷ record {
      line = 3;
      player = Second;
      counted = false;
      act = act.TakesBack (tiles (codes "AT"));
      board = tiles (codes "WORDAT");
      first = 7;
      second = 5;
      bag = 82;
    } ∷ []

-- The play's tiles are off the rack until they are taken back.
taken_back_is_dealt : dealt english taken_back
    ≡ Some (hold (tiles (codes "AADEORW")) (tiles (codes "AAAAAAT")) ∷ hold (tiles (codes "AAABBCE")) (tiles (codes "AAAAAAT"))
    ∷ hold (tiles (codes "AAABBCE")) (tiles (codes "AAAAA")) ∷ [])
unfolding english most_tiles letter_at no_tiles counts_of kinds joined without greater lacking with_one pick draw exchange chosen start dealt
taken_back_is_dealt = refl

taken_back_is_run : IsRun english taken_back
unfolding english most_tiles letter_at no_tiles counts_of kinds joined without greater
taken_back_is_run = (
  record { first = refl; second = refl; bag = refl; board = refl; may = (refl, (refl, lit< tt)) },
  (
    record { first = refl; second = refl; bag = refl; board = refl; may = (refl, lit< tt) },
    (record { first = refl; second = refl; bag = refl; board = refl; may = refl }, tt),
  ),
)

taken_back_is_bounded : first_bound english taken_back ≡ None
unfolding english most_tiles letter_at no_tiles counts_of kinds joined without greater bound_at
taken_back_is_bounded = refl

taken_back_fits : IsDealtFitting english taken_back
unfolding english most_tiles letter_at no_tiles counts_of kinds joined without greater
taken_back_fits =
    plain_games_are_dealt english taken_back refl taken_back_is_run (refl, (refl, (refl, tt))) ((refl, refl), ((refl, refl), (refl, tt))) taken_back_is_bounded

-- ---- who draws first

-- The player of the first turn draws first: the second player here, who gets the A's that nobody asks for.
second_opens : dealt english
    (record (turn 1 First (tiles (codes "Z")) motion.Keeps no_tiles 86) { counted = false }
    ∷ turn 2 Second (tiles (codes "Q")) motion.Keeps no_tiles 86 ∷ [])
    ≡ Some (hold (tiles (codes "AAABBCZ")) (tiles (codes "AAAAAAQ")) ∷ hold (tiles (codes "AAABBCZ")) (tiles (codes "AAAAAAQ")) ∷ [])
unfolding english most_tiles letter_at no_tiles counts_of kinds joined without greater lacking with_one pick draw exchange chosen start dealt
second_opens = refl

-- ---- bounds

-- a third blank
abbrev three_blanks : List Step
three_blanks = turn 1 First (tiles (codes "??")) motion.Keeps no_tiles 86 ∷ turn 2 Second (tiles (codes "?")) motion.Keeps no_tiles 86 ∷ []

short_of_blanks : first_bound english three_blanks ≡ Some (fault.TilesShort 2 kind.Blank)
unfolding english most_tiles letter_at no_tiles counts_of kinds joined without greater bound_at
short_of_blanks = refl

-- The first player had nine tiles by the third line, and thirteen are shown.
too_big : first_bound english
    (turn 1 First (tiles (codes "AEINRST")) (motion.Lays (tiles (codes "AT")) 2) no_tiles 86
    ∷ turn 2 Second no_tiles motion.Keeps (tiles (codes "AT")) 84
    ∷ turn 3 First (tiles (codes "AAABCDE")) motion.Keeps (tiles (codes "AT")) 84 ∷ [])
    ≡ Some (fault.RackTooBig 3)
unfolding english most_tiles letter_at no_tiles counts_of kinds joined without greater bound_at
too_big = refl

-- ---- what the rule does not deal

three_blanks_are_not_dealt : dealt english three_blanks ≡ None
unfolding english most_tiles letter_at no_tiles counts_of kinds joined without greater lacking with_one pick draw exchange chosen start dealt
three_blanks_are_not_dealt = refl

-- The bounds allow it, but the only Q cannot be drawn before it goes back.
abbrev same_q : List Step
same_q =
    turn 1 First (tiles (codes "Q")) (motion.Throws (tiles (codes "Q"))) no_tiles 86
    ∷ turn 2 Second no_tiles motion.Keeps no_tiles 86
    ∷ turn 3 First (tiles (codes "Q")) motion.Keeps no_tiles 86 ∷ []

same_q_is_bounded : first_bound english same_q ≡ None
unfolding english most_tiles letter_at no_tiles counts_of kinds joined without greater bound_at
same_q_is_bounded = refl

same_q_is_not_dealt : dealt english same_q ≡ None
unfolding english most_tiles letter_at no_tiles counts_of kinds joined without greater lacking with_one pick draw exchange chosen start dealt
same_q_is_not_dealt = refl
