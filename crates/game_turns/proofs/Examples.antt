-- Tallies and faults of small games as the definitions give them, computed. Squares are numbered row by row from 1A,
-- which is 0: 8E is 109, 8D is 108, 8H is 112 and 9G is 126.
use Rattle.std.proofs.Common.{◌≡◌, ℕ, ℤ, pos, negsuc, true, false, List, [], ◌∷◌, ◌++◌, Some, None, refl, reverse}
use Rattle.std.specs.Prelude.{codes}
use Rattle.std.specs.List.{filter_map}
use Rattle.ref_tiles.specs.declared.rulebook.Rules.{Rules}
use Rattle.ref_tiles.specs.Counting.{counted}
use Rattle.ref_tiles.specs.English.{english, english_premiums}
use Rattle.ref_tiles.specs.Letters.{letter_at}
use Rattle.ref_tiles.specs.Limits.{most_tiles}
use Rattle.ref_board.specs.declared.directions.Dir.TheVariants.{Across}
use Rattle.ref_board.specs.Cells.{empty_board}
use Rattle.ref_play.specs.declared.faults.PlayFault.TheVariants as of_play
use Rattle.ref_play.specs.Formed.{stretches_on, runs_along}
use Rattle.ref_play.specs.Words.{words_formed, letters_of}
use Rattle.ref_play.specs.Legality.{fault_of, overlaps, has_gap, has_no_tile, misses_centre, is_too_short, is_apart}
use Rattle.ref_play.specs.Texts.{text_cells, placement_of, text_fault, mismatches, is_open_ended}
use Rattle.ref_play.specs.Scores.{score_of, letters_score, words_factor}
use Rattle.gcg_read.specs.declared.events.Seat.{Seat}
use Rattle.gcg_read.specs.declared.events.Seat.TheVariants.{First, Second}
use Rattle.gcg_read.specs.declared.events.Event.{Event}
use Rattle.gcg_read.specs.declared.events.EventKind.{EventKind}
use Rattle.gcg_read.specs.declared.events.EventKind.TheVariants as kind
use Rattle.gcg_read.specs.Racks.{kind_of}
use Rattle.gcg_read.specs.Texts.{symbols_of}
use Rattle.lex_list.specs.Words.{is_listed}
use Rattle.game_turns.specs.declared.faults.RuleFault.TheVariants as fault
use Rattle.game_turns.specs.Standing.{standing, rack_at, board_at, bag_after}
use Rattle.game_turns.specs.Tallies.{tally, mover_at, zero_run_at, out_at, total_at, is_complete, has_time, has_idle_pass}
use Rattle.game_turns.specs.Checks.{fault_in, check_play, play_fault, text_score, check_pass, check_exchange, check_withdraw, check_challenge, check_time, check_last_rack, check_other_rack, check_own_rack, points_in, is_bonus, is_penalty}
use Rattle.game_turns.specs.Places.{fault_at}

-- a tile set of 14: two each of A, E, R and T, one each of D, I, N, O, S and W
short : Rules
unfolding english most_tiles
short = record english {
  counts = 2 ∷ 0 ∷ 0 ∷ 1 ∷ 2 ∷ 0 ∷ 0 ∷ 0 ∷ 1 ∷ 0 ∷ 0 ∷ 0 ∷ 0 ∷ 1 ∷ 1 ∷ 0 ∷ 0 ∷ 2 ∷ 1 ∷ 2 ∷ 0 ∷ 0 ∷ 1 ∷ 0 ∷ 0 ∷ 0 ∷ 0 ∷ [];
  tiles_in_limits = refl;
}

-- an event of a player: what happened, its score, and the player's total after it
abbrev event_by : Seat → EventKind → ℤ → ℤ → Event
event_by player what score total = record { line = 1; player = player; rack = None; kind = what; score = score; total = total }

abbrev play : ℕ → List ℕ → EventKind
play at word = kind.Play at Across (symbols_of word)

-- the number of tiles of each kind among some letters
abbrev tiles : List ℕ → List ℕ
tiles letters = counted (filter_map kind_of letters)

-- a pass, and a play of RETAINS on 8D, which empties a rack
abbrev pass : Seat → Event
pass player = event_by player kind.Pass (pos 0) (pos 0)

abbrev retains : Event
retains = event_by First (play 108 (codes "RETAINS")) (pos 66) (pos 66)

-- 8E WORD by the first player, 9G AT by the second
abbrev word : Event
word = event_by First (play 109 (codes "WORD")) (pos 16) (pos 16)

abbrev word_and_at : List Event
word_and_at = word ∷ event_by Second (play 126 (codes "AT")) (pos 9) (pos 9) ∷ []

abbrev withdraw_at : Event
withdraw_at = event_by Second kind.Withdraw (negsuc 8) (pos 0)

abbrev six_passes : List Event
six_passes = pass First ∷ pass Second ∷ pass First ∷ pass Second ∷ pass First ∷ pass Second ∷ []

abbrev other_rack : ℤ → Event
other_rack total = event_by First (kind.LastRack (tiles (codes "ADEORTW"))) (pos 22) total

-- RETAINS, and the other player's last rack
abbrev ended : List Event
ended = retains ∷ other_rack (pos 88) ∷ []

-- The list of what comes before the event after these.
abbrev following : List Event → List Event
following events = reverse events

abbrev listed : List (List ℕ)
listed = codes "WORD" ∷ []

-- the same with all words that WORD and AT form
abbrev all_listed : List (List ℕ)
all_listed = codes "AT" ∷ codes "DT" ∷ codes "RA" ∷ codes "WORD" ∷ []

-- ---- tallies
either_moves_first : mover_at english false [] ≡ None
unfolding english english_premiums short most_tiles letter_at empty_board stretches_on runs_along words_formed letters_of fault_of overlaps has_gap has_no_tile misses_centre is_too_short is_apart text_cells placement_of text_fault mismatches is_open_ended score_of letters_score words_factor is_listed counted tally fault_at
either_moves_first = refl

second_moves_next : mover_at english false (following (word ∷ [])) ≡ Some Second
unfolding english english_premiums short most_tiles letter_at empty_board stretches_on runs_along words_formed letters_of fault_of overlaps has_gap has_no_tile misses_centre is_too_short is_apart text_cells placement_of text_fault mismatches is_open_ended score_of letters_score words_factor is_listed counted tally fault_at
second_moves_next = refl

no_turn_yet : mover_at english true (following word_and_at) ≡ Some Second
unfolding english english_premiums short most_tiles letter_at empty_board stretches_on runs_along words_formed letters_of fault_of overlaps has_gap has_no_tile misses_centre is_too_short is_apart text_cells placement_of text_fault mismatches is_open_ended score_of letters_score words_factor is_listed counted tally fault_at
no_turn_yet = refl

first_moves_after_withdrawal : mover_at english false (following (word_and_at ++ withdraw_at ∷ [])) ≡ Some First
unfolding english english_premiums short most_tiles letter_at empty_board stretches_on runs_along words_formed letters_of fault_of overlaps has_gap has_no_tile misses_centre is_too_short is_apart text_cells placement_of text_fault mismatches is_open_ended score_of letters_score words_factor is_listed counted tally fault_at
first_moves_after_withdrawal = refl

bag_after_six_tiles : bag_after english (standing false (following word_and_at)) ≡ 80
unfolding english english_premiums short most_tiles letter_at empty_board stretches_on runs_along words_formed letters_of fault_of overlaps has_gap has_no_tile misses_centre is_too_short is_apart text_cells placement_of text_fault mismatches is_open_ended score_of letters_score words_factor is_listed counted tally fault_at
bag_after_six_tiles = refl

bag_with_a_play_to_withdraw : bag_after english (standing true (following word_and_at)) ≡ 82
unfolding english english_premiums short most_tiles letter_at empty_board stretches_on runs_along words_formed letters_of fault_of overlaps has_gap has_no_tile misses_centre is_too_short is_apart text_cells placement_of text_fault mismatches is_open_ended score_of letters_score words_factor is_listed counted tally fault_at
bag_with_a_play_to_withdraw = refl

rack_is_filled : rack_at english Second false (following word_and_at) ≡ 7
unfolding english english_premiums short most_tiles letter_at empty_board stretches_on runs_along words_formed letters_of fault_of overlaps has_gap has_no_tile misses_centre is_too_short is_apart text_cells placement_of text_fault mismatches is_open_ended score_of letters_score words_factor is_listed counted tally fault_at
rack_is_filled = refl

rack_is_not_filled : rack_at english Second true (following word_and_at) ≡ 5
unfolding english english_premiums short most_tiles letter_at empty_board stretches_on runs_along words_formed letters_of fault_of overlaps has_gap has_no_tile misses_centre is_too_short is_apart text_cells placement_of text_fault mismatches is_open_ended score_of letters_score words_factor is_listed counted tally fault_at
rack_is_not_filled = refl

rack_is_given_back : rack_at english Second false (following (word_and_at ++ withdraw_at ∷ [])) ≡ 7
unfolding english english_premiums short most_tiles letter_at empty_board stretches_on runs_along words_formed letters_of fault_of overlaps has_gap has_no_tile misses_centre is_too_short is_apart text_cells placement_of text_fault mismatches is_open_ended score_of letters_score words_factor is_listed counted tally fault_at
rack_is_given_back = refl

bag_is_empty : rack_at short First false (following (retains ∷ [])) ≡ 0
unfolding english english_premiums short most_tiles letter_at empty_board stretches_on runs_along words_formed letters_of fault_of overlaps has_gap has_no_tile misses_centre is_too_short is_apart text_cells placement_of text_fault mismatches is_open_ended score_of letters_score words_factor is_listed counted tally fault_at
bag_is_empty = refl

withdrawn_tiles_are_gone : board_at false (following (word_and_at ++ withdraw_at ∷ [])) ≡ board_at false (following (word ∷ []))
unfolding english english_premiums short most_tiles letter_at empty_board stretches_on runs_along words_formed letters_of fault_of overlaps has_gap has_no_tile misses_centre is_too_short is_apart text_cells placement_of text_fault mismatches is_open_ended score_of letters_score words_factor is_listed counted tally fault_at
withdrawn_tiles_are_gone = refl

total_of_both : total_at Second (following (word_and_at ++ withdraw_at ∷ [])) ≡ pos 0
unfolding english english_premiums short most_tiles letter_at empty_board stretches_on runs_along words_formed letters_of fault_of overlaps has_gap has_no_tile misses_centre is_too_short is_apart text_cells placement_of text_fault mismatches is_open_ended score_of letters_score words_factor is_listed counted tally fault_at
total_of_both = refl

six_idle_turns : zero_run_at english false (following six_passes) ≡ 6
unfolding english english_premiums short most_tiles letter_at empty_board stretches_on runs_along words_formed letters_of fault_of overlaps has_gap has_no_tile misses_centre is_too_short is_apart text_cells placement_of text_fault mismatches is_open_ended score_of letters_score words_factor is_listed counted tally fault_at
six_idle_turns = refl

seven_idle_turns : zero_run_at english false (following (six_passes ++ pass First ∷ [])) ≡ 6
unfolding english english_premiums short most_tiles letter_at empty_board stretches_on runs_along words_formed letters_of fault_of overlaps has_gap has_no_tile misses_centre is_too_short is_apart text_cells placement_of text_fault mismatches is_open_ended score_of letters_score words_factor is_listed counted tally fault_at
seven_idle_turns = refl

a_play_ends_the_run : zero_run_at english false (following (six_passes ++ word ∷ [])) ≡ 0
unfolding english english_premiums short most_tiles letter_at empty_board stretches_on runs_along words_formed letters_of fault_of overlaps has_gap has_no_tile misses_centre is_too_short is_apart text_cells placement_of text_fault mismatches is_open_ended score_of letters_score words_factor is_listed counted tally fault_at
a_play_ends_the_run = refl

withdrawn_play_in_the_run : zero_run_at english false (following (pass Second ∷ word ∷ event_by First kind.Withdraw (negsuc 15) (pos 0) ∷ [])) ≡ 2
unfolding english english_premiums short most_tiles letter_at empty_board stretches_on runs_along words_formed letters_of fault_of overlaps has_gap has_no_tile misses_centre is_too_short is_apart text_cells placement_of text_fault mismatches is_open_ended score_of letters_score words_factor is_listed counted tally fault_at
withdrawn_play_in_the_run = refl

first_is_out : out_at short false (following (retains ∷ [])) ≡ Some First
unfolding english english_premiums short most_tiles letter_at empty_board stretches_on runs_along words_formed letters_of fault_of overlaps has_gap has_no_tile misses_centre is_too_short is_apart text_cells placement_of text_fault mismatches is_open_ended score_of letters_score words_factor is_listed counted tally fault_at
first_is_out = refl

not_out_while_it_waits : out_at short true (following (retains ∷ [])) ≡ None
unfolding english english_premiums short most_tiles letter_at empty_board stretches_on runs_along words_formed letters_of fault_of overlaps has_gap has_no_tile misses_centre is_too_short is_apart text_cells placement_of text_fault mismatches is_open_ended score_of letters_score words_factor is_listed counted tally fault_at
not_out_while_it_waits = refl

idle_pass_is_no_turn : mover_at short false (following (retains ∷ pass Second ∷ [])) ≡ Some Second
unfolding english english_premiums short most_tiles letter_at empty_board stretches_on runs_along words_formed letters_of fault_of overlaps has_gap has_no_tile misses_centre is_too_short is_apart text_cells placement_of text_fault mismatches is_open_ended score_of letters_score words_factor is_listed counted tally fault_at
idle_pass_is_no_turn = refl

idle_pass_is_spent : has_idle_pass short (following (retains ∷ pass Second ∷ [])) ≡ true
unfolding english english_premiums short most_tiles letter_at empty_board stretches_on runs_along words_formed letters_of fault_of overlaps has_gap has_no_tile misses_centre is_too_short is_apart text_cells placement_of text_fault mismatches is_open_ended score_of letters_score words_factor is_listed counted tally fault_at
idle_pass_is_spent = refl

time_is_spent : has_time First (following (event_by First kind.Time (negsuc 4) (negsuc 4) ∷ [])) ≡ true
unfolding english english_premiums short most_tiles letter_at empty_board stretches_on runs_along words_formed letters_of fault_of overlaps has_gap has_no_tile misses_centre is_too_short is_apart text_cells placement_of text_fault mismatches is_open_ended score_of letters_score words_factor is_listed counted tally fault_at
time_is_spent = refl

complete_after_out : is_complete short (following ended) ≡ true
unfolding english english_premiums short most_tiles letter_at empty_board stretches_on runs_along words_formed letters_of fault_of overlaps has_gap has_no_tile misses_centre is_too_short is_apart text_cells placement_of text_fault mismatches is_open_ended score_of letters_score words_factor is_listed counted tally fault_at
complete_after_out = refl

complete_after_two_racks : is_complete english (following (six_passes ++ event_by First (kind.LastRack []) (pos 0) (pos 0) ∷ event_by Second (kind.LastRack []) (pos 0) (pos 0) ∷ [])) ≡ true
unfolding english english_premiums short most_tiles letter_at empty_board stretches_on runs_along words_formed letters_of fault_of overlaps has_gap has_no_tile misses_centre is_too_short is_apart text_cells placement_of text_fault mismatches is_open_ended score_of letters_score words_factor is_listed counted tally fault_at
complete_after_two_racks = refl

unfinished_after_one_rack : is_complete english (following (six_passes ++ event_by First (kind.LastRack []) (pos 0) (pos 0) ∷ [])) ≡ false
unfolding english english_premiums short most_tiles letter_at empty_board stretches_on runs_along words_formed letters_of fault_of overlaps has_gap has_no_tile misses_centre is_too_short is_apart text_cells placement_of text_fault mismatches is_open_ended score_of letters_score words_factor is_listed counted tally fault_at
unfinished_after_one_rack = refl

-- ---- faults; the first place is 0
word_is_allowed : fault_at english listed (word_and_at) 0 ≡ None
unfolding english english_premiums short most_tiles letter_at empty_board stretches_on runs_along words_formed letters_of fault_of overlaps has_gap has_no_tile misses_centre is_too_short is_apart text_cells placement_of text_fault mismatches is_open_ended score_of letters_score words_factor is_listed counted tally fault_at fault_in check_play play_fault text_score check_pass check_exchange check_withdraw check_challenge check_time check_last_rack check_other_rack check_own_rack points_in is_bonus is_penalty
word_is_allowed = refl

at_is_allowed : fault_at english listed (word_and_at) 1 ≡ None
unfolding english english_premiums short most_tiles letter_at empty_board stretches_on runs_along words_formed letters_of fault_of overlaps has_gap has_no_tile misses_centre is_too_short is_apart text_cells placement_of text_fault mismatches is_open_ended score_of letters_score words_factor is_listed counted tally fault_at fault_in check_play play_fault text_score check_pass check_exchange check_withdraw check_challenge check_time check_last_rack check_other_rack check_own_rack points_in is_bonus is_penalty
at_is_allowed = refl

withdrawal_is_allowed : fault_at english listed (word_and_at ++ withdraw_at ∷ []) 2 ≡ None
unfolding english english_premiums short most_tiles letter_at empty_board stretches_on runs_along words_formed letters_of fault_of overlaps has_gap has_no_tile misses_centre is_too_short is_apart text_cells placement_of text_fault mismatches is_open_ended score_of letters_score words_factor is_listed counted tally fault_at fault_in check_play play_fault text_score check_pass check_exchange check_withdraw check_challenge check_time check_last_rack check_other_rack check_own_rack points_in is_bonus is_penalty
withdrawal_is_allowed = refl

end_is_allowed : fault_at short listed (ended) 1 ≡ None
unfolding english english_premiums short most_tiles letter_at empty_board stretches_on runs_along words_formed letters_of fault_of overlaps has_gap has_no_tile misses_centre is_too_short is_apart text_cells placement_of text_fault mismatches is_open_ended score_of letters_score words_factor is_listed counted tally fault_at fault_in check_play play_fault text_score check_pass check_exchange check_withdraw check_challenge check_time check_last_rack check_other_rack check_own_rack points_in is_bonus is_penalty
end_is_allowed = refl

not_your_turn : fault_at english listed (word ∷ event_by First kind.Pass (pos 0) (pos 16) ∷ []) 1 ≡ Some fault.NotYourTurn
unfolding english english_premiums short most_tiles letter_at empty_board stretches_on runs_along words_formed letters_of fault_of overlaps has_gap has_no_tile misses_centre is_too_short is_apart text_cells placement_of text_fault mismatches is_open_ended score_of letters_score words_factor is_listed counted tally fault_at fault_in check_play play_fault text_score check_pass check_exchange check_withdraw check_challenge check_time check_last_rack check_other_rack check_own_rack points_in is_bonus is_penalty
not_your_turn = refl

misses_centre_there : fault_at english listed (event_by First (play 108 (codes "WORD")) (pos 16) (pos 16) ∷ []) 0 ≡ Some (fault.Play of_play.MissesCentre)
unfolding english english_premiums short most_tiles letter_at empty_board stretches_on runs_along words_formed letters_of fault_of overlaps has_gap has_no_tile misses_centre is_too_short is_apart text_cells placement_of text_fault mismatches is_open_ended score_of letters_score words_factor is_listed counted tally fault_at fault_in check_play play_fault text_score check_pass check_exchange check_withdraw check_challenge check_time check_last_rack check_other_rack check_own_rack points_in is_bonus is_penalty
misses_centre_there = refl

wrong_score : fault_at english listed (event_by First (play 109 (codes "WOrD")) (pos 16) (pos 16) ∷ []) 0 ≡ Some (fault.WrongScore (pos 14))
unfolding english english_premiums short most_tiles letter_at empty_board stretches_on runs_along words_formed letters_of fault_of overlaps has_gap has_no_tile misses_centre is_too_short is_apart text_cells placement_of text_fault mismatches is_open_ended score_of letters_score words_factor is_listed counted tally fault_at fault_in check_play play_fault text_score check_pass check_exchange check_withdraw check_challenge check_time check_last_rack check_other_rack check_own_rack points_in is_bonus is_penalty
wrong_score = refl

wrong_total : fault_at english listed (event_by First (play 109 (codes "WORD")) (pos 16) (pos 17) ∷ []) 0 ≡ Some (fault.WrongTotal (pos 16))
unfolding english english_premiums short most_tiles letter_at empty_board stretches_on runs_along words_formed letters_of fault_of overlaps has_gap has_no_tile misses_centre is_too_short is_apart text_cells placement_of text_fault mismatches is_open_ended score_of letters_score words_factor is_listed counted tally fault_at fault_in check_play play_fault text_score check_pass check_exchange check_withdraw check_challenge check_time check_last_rack check_other_rack check_own_rack points_in is_bonus is_penalty
wrong_total = refl

nothing_to_withdraw : fault_at english listed (event_by First kind.Withdraw (pos 0) (pos 0) ∷ []) 0 ≡ Some fault.NothingToWithdraw
unfolding english english_premiums short most_tiles letter_at empty_board stretches_on runs_along words_formed letters_of fault_of overlaps has_gap has_no_tile misses_centre is_too_short is_apart text_cells placement_of text_fault mismatches is_open_ended score_of letters_score words_factor is_listed counted tally fault_at fault_in check_play play_fault text_score check_pass check_exchange check_withdraw check_challenge check_time check_last_rack check_other_rack check_own_rack points_in is_bonus is_penalty
nothing_to_withdraw = refl

withdrawn_by_the_other : fault_at english listed (word ∷ event_by Second kind.Withdraw (negsuc 15) (negsuc 15) ∷ []) 1 ≡ Some fault.NothingToWithdraw
unfolding english english_premiums short most_tiles letter_at empty_board stretches_on runs_along words_formed letters_of fault_of overlaps has_gap has_no_tile misses_centre is_too_short is_apart text_cells placement_of text_fault mismatches is_open_ended score_of letters_score words_factor is_listed counted tally fault_at fault_in check_play play_fault text_score check_pass check_exchange check_withdraw check_challenge check_time check_last_rack check_other_rack check_own_rack points_in is_bonus is_penalty
withdrawn_by_the_other = refl

withdrawn_valid : fault_at english all_listed (word_and_at ++ withdraw_at ∷ []) 2 ≡ Some fault.WithdrawnValid
unfolding english english_premiums short most_tiles letter_at empty_board stretches_on runs_along words_formed letters_of fault_of overlaps has_gap has_no_tile misses_centre is_too_short is_apart text_cells placement_of text_fault mismatches is_open_ended score_of letters_score words_factor is_listed counted tally fault_at fault_in check_play play_fault text_score check_pass check_exchange check_withdraw check_challenge check_time check_last_rack check_other_rack check_own_rack points_in is_bonus is_penalty
withdrawn_valid = refl

bonus_on_phony : fault_at english listed (word_and_at ++ event_by Second kind.Challenge (pos 5) (pos 14) ∷ []) 2 ≡ Some fault.BonusOnPhony
unfolding english english_premiums short most_tiles letter_at empty_board stretches_on runs_along words_formed letters_of fault_of overlaps has_gap has_no_tile misses_centre is_too_short is_apart text_cells placement_of text_fault mismatches is_open_ended score_of letters_score words_factor is_listed counted tally fault_at fault_in check_play play_fault text_score check_pass check_exchange check_withdraw check_challenge check_time check_last_rack check_other_rack check_own_rack points_in is_bonus is_penalty
bonus_on_phony = refl

bonus_for_three_words : fault_at english all_listed (word_and_at ++ event_by Second kind.Challenge (pos 15) (pos 24) ∷ []) 2 ≡ None
unfolding english english_premiums short most_tiles letter_at empty_board stretches_on runs_along words_formed letters_of fault_of overlaps has_gap has_no_tile misses_centre is_too_short is_apart text_cells placement_of text_fault mismatches is_open_ended score_of letters_score words_factor is_listed counted tally fault_at fault_in check_play play_fault text_score check_pass check_exchange check_withdraw check_challenge check_time check_last_rack check_other_rack check_own_rack points_in is_bonus is_penalty
bonus_for_three_words = refl

bonus_for_four_words : fault_at english all_listed (word_and_at ++ event_by Second kind.Challenge (pos 20) (pos 29) ∷ []) 2 ≡ Some fault.BadBonus
unfolding english english_premiums short most_tiles letter_at empty_board stretches_on runs_along words_formed letters_of fault_of overlaps has_gap has_no_tile misses_centre is_too_short is_apart text_cells placement_of text_fault mismatches is_open_ended score_of letters_score words_factor is_listed counted tally fault_at fault_in check_play play_fault text_score check_pass check_exchange check_withdraw check_challenge check_time check_last_rack check_other_rack check_own_rack points_in is_bonus is_penalty
bonus_for_four_words = refl

bonus_without_a_play : fault_at english listed (event_by First kind.Challenge (pos 5) (pos 5) ∷ []) 0 ≡ Some fault.BadBonus
unfolding english english_premiums short most_tiles letter_at empty_board stretches_on runs_along words_formed letters_of fault_of overlaps has_gap has_no_tile misses_centre is_too_short is_apart text_cells placement_of text_fault mismatches is_open_ended score_of letters_score words_factor is_listed counted tally fault_at fault_in check_play play_fault text_score check_pass check_exchange check_withdraw check_challenge check_time check_last_rack check_other_rack check_own_rack points_in is_bonus is_penalty
bonus_without_a_play = refl

exchange_refused : fault_at short listed (event_by First (kind.ExchangeUnknown 2) (pos 0) (pos 0) ∷ []) 0 ≡ Some fault.ExchangeRefused
unfolding english english_premiums short most_tiles letter_at empty_board stretches_on runs_along words_formed letters_of fault_of overlaps has_gap has_no_tile misses_centre is_too_short is_apart text_cells placement_of text_fault mismatches is_open_ended score_of letters_score words_factor is_listed counted tally fault_at fault_in check_play play_fault text_score check_pass check_exchange check_withdraw check_challenge check_time check_last_rack check_other_rack check_own_rack points_in is_bonus is_penalty
exchange_refused = refl

exchange_size : fault_at english listed (event_by First (kind.ExchangeUnknown 8) (pos 0) (pos 0) ∷ []) 0 ≡ Some fault.ExchangeSize
unfolding english english_premiums short most_tiles letter_at empty_board stretches_on runs_along words_formed letters_of fault_of overlaps has_gap has_no_tile misses_centre is_too_short is_apart text_cells placement_of text_fault mismatches is_open_ended score_of letters_score words_factor is_listed counted tally fault_at fault_in check_play play_fault text_score check_pass check_exchange check_withdraw check_challenge check_time check_last_rack check_other_rack check_own_rack points_in is_bonus is_penalty
exchange_size = refl

first_idle_pass : fault_at short listed (retains ∷ pass Second ∷ pass Second ∷ []) 1 ≡ None
unfolding english english_premiums short most_tiles letter_at empty_board stretches_on runs_along words_formed letters_of fault_of overlaps has_gap has_no_tile misses_centre is_too_short is_apart text_cells placement_of text_fault mismatches is_open_ended score_of letters_score words_factor is_listed counted tally fault_at fault_in check_play play_fault text_score check_pass check_exchange check_withdraw check_challenge check_time check_last_rack check_other_rack check_own_rack points_in is_bonus is_penalty
first_idle_pass = refl

second_idle_pass : fault_at short listed (retains ∷ pass Second ∷ pass Second ∷ []) 2 ≡ Some fault.GameOver
unfolding english english_premiums short most_tiles letter_at empty_board stretches_on runs_along words_formed letters_of fault_of overlaps has_gap has_no_tile misses_centre is_too_short is_apart text_cells placement_of text_fault mismatches is_open_ended score_of letters_score words_factor is_listed counted tally fault_at fault_in check_play play_fault text_score check_pass check_exchange check_withdraw check_challenge check_time check_last_rack check_other_rack check_own_rack points_in is_bonus is_penalty
second_idle_pass = refl

over_when_complete : fault_at short listed (ended ++ other_rack (pos 110) ∷ []) 2 ≡ Some fault.GameOver
unfolding english english_premiums short most_tiles letter_at empty_board stretches_on runs_along words_formed letters_of fault_of overlaps has_gap has_no_tile misses_centre is_too_short is_apart text_cells placement_of text_fault mismatches is_open_ended score_of letters_score words_factor is_listed counted tally fault_at fault_in check_play play_fault text_score check_pass check_exchange check_withdraw check_challenge check_time check_last_rack check_other_rack check_own_rack points_in is_bonus is_penalty
over_when_complete = refl

not_over : fault_at english listed (pass First ∷ event_by Second (kind.LastRack (tiles (codes "AEINRST"))) (negsuc 6) (negsuc 6) ∷ []) 1 ≡ Some fault.NotOver
unfolding english english_premiums short most_tiles letter_at empty_board stretches_on runs_along words_formed letters_of fault_of overlaps has_gap has_no_tile misses_centre is_too_short is_apart text_cells placement_of text_fault mismatches is_open_ended score_of letters_score words_factor is_listed counted tally fault_at fault_in check_play play_fault text_score check_pass check_exchange check_withdraw check_challenge check_time check_last_rack check_other_rack check_own_rack points_in is_bonus is_penalty
not_over = refl

own_last_rack : fault_at english listed (six_passes ++ event_by First (kind.LastRack (tiles (codes "AEINRST"))) (negsuc 6) (negsuc 6) ∷ []) 6 ≡ None
unfolding english english_premiums short most_tiles letter_at empty_board stretches_on runs_along words_formed letters_of fault_of overlaps has_gap has_no_tile misses_centre is_too_short is_apart text_cells placement_of text_fault mismatches is_open_ended score_of letters_score words_factor is_listed counted tally fault_at fault_in check_play play_fault text_score check_pass check_exchange check_withdraw check_challenge check_time check_last_rack check_other_rack check_own_rack points_in is_bonus is_penalty
own_last_rack = refl

last_rack_size : fault_at short listed (retains ∷ event_by First (kind.LastRack (tiles (codes "ADEORW"))) (pos 20) (pos 86) ∷ []) 1 ≡ Some fault.LastRackSize
unfolding english english_premiums short most_tiles letter_at empty_board stretches_on runs_along words_formed letters_of fault_of overlaps has_gap has_no_tile misses_centre is_too_short is_apart text_cells placement_of text_fault mismatches is_open_ended score_of letters_score words_factor is_listed counted tally fault_at fault_in check_play play_fault text_score check_pass check_exchange check_withdraw check_challenge check_time check_last_rack check_other_rack check_own_rack points_in is_bonus is_penalty
last_rack_size = refl

time_by_five : fault_at english listed (event_by First kind.Time (negsuc 4) (negsuc 4) ∷ []) 0 ≡ None
unfolding english english_premiums short most_tiles letter_at empty_board stretches_on runs_along words_formed letters_of fault_of overlaps has_gap has_no_tile misses_centre is_too_short is_apart text_cells placement_of text_fault mismatches is_open_ended score_of letters_score words_factor is_listed counted tally fault_at fault_in check_play play_fault text_score check_pass check_exchange check_withdraw check_challenge check_time check_last_rack check_other_rack check_own_rack points_in is_bonus is_penalty
time_by_five = refl

time_by_seven : fault_at english listed (event_by First kind.Time (negsuc 6) (negsuc 6) ∷ []) 0 ≡ Some fault.BadTime
unfolding english english_premiums short most_tiles letter_at empty_board stretches_on runs_along words_formed letters_of fault_of overlaps has_gap has_no_tile misses_centre is_too_short is_apart text_cells placement_of text_fault mismatches is_open_ended score_of letters_score words_factor is_listed counted tally fault_at fault_in check_play play_fault text_score check_pass check_exchange check_withdraw check_challenge check_time check_last_rack check_other_rack check_own_rack points_in is_bonus is_penalty
time_by_seven = refl

time_by_nothing : fault_at english listed (event_by First kind.Time (pos 0) (pos 0) ∷ []) 0 ≡ Some fault.BadTime
unfolding english english_premiums short most_tiles letter_at empty_board stretches_on runs_along words_formed letters_of fault_of overlaps has_gap has_no_tile misses_centre is_too_short is_apart text_cells placement_of text_fault mismatches is_open_ended score_of letters_score words_factor is_listed counted tally fault_at fault_in check_play play_fault text_score check_pass check_exchange check_withdraw check_challenge check_time check_last_rack check_other_rack check_own_rack points_in is_bonus is_penalty
time_by_nothing = refl

too_many_used : fault_at short listed (event_by First (play 112 (codes "AT")) (pos 4) (pos 4) ∷ pass Second ∷ event_by First (play 127 (codes "ABCDEF")) (pos 0) (pos 4) ∷ []) 2 ≡ Some fault.TooManyUsed
unfolding english english_premiums short most_tiles letter_at empty_board stretches_on runs_along words_formed letters_of fault_of overlaps has_gap has_no_tile misses_centre is_too_short is_apart text_cells placement_of text_fault mismatches is_open_ended score_of letters_score words_factor is_listed counted tally fault_at fault_in check_play play_fault text_score check_pass check_exchange check_withdraw check_challenge check_time check_last_rack check_other_rack check_own_rack points_in is_bonus is_penalty
too_many_used = refl

apart_is_seen_first : fault_at english listed (word ∷ event_by Second (play 0 (codes "AT")) (pos 0) (pos 0) ∷ []) 1 ≡ Some (fault.Play of_play.Apart)
unfolding english english_premiums short most_tiles letter_at empty_board stretches_on runs_along words_formed letters_of fault_of overlaps has_gap has_no_tile misses_centre is_too_short is_apart text_cells placement_of text_fault mismatches is_open_ended score_of letters_score words_factor is_listed counted tally fault_at fault_in check_play play_fault text_score check_pass check_exchange check_withdraw check_challenge check_time check_last_rack check_other_rack check_own_rack points_in is_bonus is_penalty
apart_is_seen_first = refl
