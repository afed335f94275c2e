-- Why an event is refused: what the check that it fails says of it.
use Rattle.std.proofs.Common.{◌≡◌, ◌≢◌, ◌⊎◌, inl, inr, ℕ, ℤ, pos, neg_ℤ, ◌+◌, ◌*◌, ◌<◌, ◌==◌, ◌&&◌, ◌||◌, nat_lt, nat_le, not, Bool, true, false, List, [], ◌∷◌, length, sum, is_some, Option, Some, None, option_map, if◌then◌else◌, refl, sym, ap, ◌∙◌, subst}
use Rattle.std.specs.List.{list_all, list_any}
use Rattle.std.specs.Option.{option_or}
use Rattle.std.specs.Ordering.{int_eq}
use Rattle.std.proofs.lemmas.Bool.{not-true, both_ways, or_cases, ltb-true, leb-false}
use Rattle.std.proofs.lemmas.Bool.Decides.{Decides-eqb, Decides-int_eq}
use Rattle.std.proofs.lemmas.Option.{same_Some}
use Rattle.first_faults.specs.Checks.{fails, first_fault}
use Rattle.first_faults.proofs.CheckLaws.{some_fault, test_fails}
use Rattle.ref_tiles.specs.declared.tiles.Tile.{Tile}
use Rattle.ref_tiles.specs.declared.symbols.Symbol.{Symbol}
use Rattle.ref_tiles.specs.declared.rulebook.Rules.{Rules}
use Rattle.ref_board.specs.declared.directions.Dir.{Dir}
use Rattle.ref_play.specs.declared.faults.PlayFault.{PlayFault}
use Rattle.ref_play.specs.declared.faults.PlayFault.TheVariants as play
use Rattle.ref_play.specs.Texts.{placement_of, mismatches, is_open_ended, text_fault}
use Rattle.ref_play.specs.Legality.{overlaps, has_gap, misses_centre, is_too_short, is_apart, fault_of}
use Rattle.ref_play.specs.Placements.{with_tiles}
use Rattle.ref_board.specs.Lines.{place_of}
use Rattle.lex_list.specs.Words.{is_listed}
use Rattle.gcg_read.specs.Players.{other_seat}
use Rattle.gcg_read.specs.declared.events.Seat.{Seat}
use Rattle.gcg_read.specs.declared.events.Seat.TheVariants.{First, Second}
use Rattle.gcg_read.specs.declared.events.Event.{Event}
use Rattle.gcg_read.specs.declared.events.EventKind.{EventKind}
use Rattle.gcg_read.specs.declared.events.EventKind.TheVariants as kind
use Rattle.game_turns.specs.declared.faults.RuleFault.{RuleFault}
use Rattle.game_turns.specs.declared.faults.RuleFault.TheVariants as fault
use Rattle.game_turns.specs.Seats.{same_seat, may_move, side_of}
use Rattle.game_turns.specs.Standing.{is_withdraw}
use Rattle.game_turns.specs.Tallies.{State, Latest, played, taken_back, other, is_play, is_time, is_last_rack}
use Rattle.game_turns.specs.LatestEvents.{latest_words}
use Rattle.game_turns.specs.Checks.{is_over, may_idle, play_fault, text_score, points_in, is_bonus, is_penalty, listed_in, is_stale, interrupts, total_after, check_score, check_total, check_turn, check_play, check_pass, check_exchange, check_withdraw, check_challenge, check_time, check_other_rack, check_own_rack, check_due_rack, check_last_rack, check_kind, fault_in}
use Rattle.explain_clues.specs.Texts.{leaves_board, new_tiles}
use Rattle.explain_facts.specs.Kinds.{OfPlay, OfLastRack, is_exchange, is_withdrawal, is_challenge}
use Rattle.explain_facts.specs.Tiles.{exchanged, holder_by}
use Rattle.explain_facts.specs.Scores.{IsDoubledFor}

-- ---- the fault of a list of checks

-- what is said of each fault that a check names holds
abbrev pub Says : (P : RuleFault → Type 0) → Option RuleFault → Type 0
Says P o = (why : RuleFault) → o ≡ Some why → P why

abbrev pub EachSays : (P : RuleFault → Type 0) → List (Option RuleFault) → Type 0
EachSays P [] = Unit {0}
EachSays P (check ∷ checks) = Says P check × EachSays P checks

none_says : (P : RuleFault → Type 0) → Says P None
none_says P why e = cc

fails_says : (P : RuleFault → Type 0) (test : Bool) (f : RuleFault) → (test ≡ true → P f) → Says P (fails test f)
fails_says P true f so why e = subst P (same_Some f why e) (so refl)
fails_says P false f so why e = cc

some_says : (P : RuleFault → Type 0) (f : RuleFault) → P f → Says P (Some f)
some_says P f so why e = subst P (same_Some f why e) so

play_fault_says : (P : RuleFault → Type 0) (o : Option PlayFault) → ((f : PlayFault) → o ≡ Some f → P (fault.Play f)) → Says P (option_map fault.Play o)
play_fault_says P None so why e = cc
play_fault_says P (Some f) so why e = subst P (same_Some (fault.Play f) why e) (so f refl)

first_says : (P : RuleFault → Type 0) (checks : List (Option RuleFault)) → EachSays P checks → Says P (first_fault checks)
first_says P [] each = none_says P
first_says P (None ∷ checks) each = first_says P checks each.1
first_says P (Some f ∷ checks) each = each.0

-- the same, where what a check says may rest on that the check before it does not fail
after_none : (P : RuleFault → Type 0) (check : Option RuleFault) (checks : List (Option RuleFault)) → Says P check → (check ≡ None → Says P (first_fault checks))
    → Says P (first_fault (check ∷ checks))
after_none P None checks own rest = rest refl
after_none P (Some f) checks own rest = own

pub no_play_fault : (o : Option PlayFault) → option_map fault.Play o ≡ None → o ≡ None
no_play_fault None e = refl
no_play_fault (Some f) e = cc

-- ---- what each fault says

-- whose turn it is, or whose line a last rack is on
pub record IsOutOfTurn (s : State) (player : Seat) (what : EventKind) : Type 0 where
  pub turn : is_last_rack what ≡ false → may_move s.mover player ≡ false
  pub line : is_last_rack what ≡ true → (out : Seat) → s.out ≡ Some out → same_seat out player ≡ false
  pub due : is_last_rack what ≡ true → s.out ≡ None → ⊥

-- whether the latest event is a play
abbrev pub is_played : Latest → Bool
is_played (played p) = true
is_played (taken_back tiles) = false
is_played other = false

-- the latest event is no play of the player that a withdrawal could take back, or a play that awaits its withdrawal is followed by something else
abbrev pub IsNotAwaited : (taken : Bool) → Seat → Latest → Type 0
IsNotAwaited taken player (played p) = (same_seat p.player player ≡ false) ⊎ (p.stands ≡ taken)
IsNotAwaited taken player (taken_back tiles) = Unit {0}
IsNotAwaited taken player other = Unit {0}

-- a score is compared only where the play is legal, and where the points of a rack are those of the player who is out
abbrev pub IsScored : State → Event → EventKind → Type 0
IsScored s e (kind.Play at dir word) = play_fault s.board dir at word ≡ None
IsScored s e (kind.LastRack tiles) = (out : Seat) → s.out ≡ Some out → same_seat out e.player ≡ true
IsScored s e rest = Unit {0}

-- the latest event is no play of the player that stands, or one whose bonus is another
abbrev pub IsNoBonus : Rules → (list : List (List ℕ)) → Event → Latest → Type 0
IsNoBonus rules list e (played p) =
    (p.stands ≡ false) ⊎ ((same_seat p.player e.player ≡ false)
    ⊎ ((list_any (is_listed list) p.words ≡ true) × (is_bonus rules.challenge_unit (listed_in list p.words) e.score ≡ false)))
IsNoBonus rules list e (taken_back tiles) = Unit {0}
IsNoBonus rules list e other = Unit {0}

abbrev pub Because : Rules → (list : List (List ℕ)) → State → Event → EventKind → RuleFault → Type 0
Because rules list s e what fault.NotYourTurn = IsOutOfTurn s e.player what
Because rules list s e what (fault.Play why) = OfPlay what (λ at dir word. play_fault s.board dir at word ≡ Some why)
Because rules list s e what (fault.WrongScore right) = (e.score ≢ right) × IsScored s e what
Because rules list s e what (fault.WrongTotal right) = e.total ≢ right
Because rules list s e what fault.NothingToWithdraw =
    IsNotAwaited (is_withdraw what) e.player s.latest × ((is_withdrawal what ≡ true) ⊎ (interrupts s.latest e.player what ≡ true))
Because rules list s e what fault.WithdrawnValid =
    (is_withdrawal what ≡ true) × (list_all (is_listed list) (latest_words s.latest) ≡ true) × (is_played s.latest ≡ true)
Because rules list s e what fault.BonusOnPhony =
    (is_challenge what ≡ true) × (list_any (is_listed list) (latest_words s.latest) ≡ false) × (is_played s.latest ≡ true)
Because rules list s e what fault.BadBonus = (is_challenge what ≡ true) × IsNoBonus rules list e s.latest
Because rules list s e what fault.ExchangeRefused = (is_exchange what ≡ true) × (s.bag < rules.exchange_min)
Because rules list s e what fault.ExchangeSize =
    (is_exchange what ≡ true) × (((side_of s.sides e.player).rack < exchanged what) ⊎ (s.bag < exchanged what))
Because rules list s e what fault.GameOver = is_over s ≡ true
Because rules list s e what fault.NotOver = (s.out ≡ None) × (s.zero_run < rules.zero_limit)
Because rules list s e what fault.LastRackSize = OfLastRack what (λ tiles. sum tiles ≢ (side_of s.sides (holder_by s.out e.player)).rack)
Because rules list s e what fault.BadTime =
    (is_time what ≡ true) × ((is_penalty rules.time_step e.score ≡ false) ⊎ ((side_of s.sides e.player).timed ≡ true))
Because rules list s e what fault.TooManyUsed =
    OfPlay what (λ at dir word. ((side_of s.sides e.player).rack < length (placement_of s.board dir at word)) × (play_fault s.board dir at word ≡ None))

-- ---- checks of several kinds

unequal : (a b : ℤ) → not (int_eq a b) ≡ true → a ≢ b
unequal a b wrong = λ same. both_ways (int_eq a b) (not-true (int_eq a b) wrong) ((Decides-int_eq a b).1 same)

differ : (a b : ℕ) → not (a == b) ≡ true → a ≢ b
differ a b wrong = λ same. both_ways (a == b) (not-true (a == b) wrong) ((Decides-eqb a b).1 same)

score_says : (rules : Rules) (list : List (List ℕ)) (s : State) (e : Event) (what : EventKind) (right : ℤ) → IsScored s e what
    → Says (Because rules list s e what) (check_score e.score right)
score_says rules list s e what right scored =
    fails_says (Because rules list s e what) (not (int_eq e.score right)) (fault.WrongScore right) (λ wrong. (unequal e.score right wrong, scored))

-- a test that does not fail
not_false : (b : Bool) → not b ≡ false → b ≡ true
not_false true e = refl
not_false false e = cc

holds : (test : Bool) (f : RuleFault) → fails (not test) f ≡ None → test ≡ true
holds test f none = not_false test (test_fails (not test) f none)

total_says : (rules : Rules) (list : List (List ℕ)) (s : State) (e : Event) (what : EventKind) → Says (Because rules list s e what) (check_total s e)
total_says rules list s e what =
    fails_says (Because rules list s e what) (not (int_eq e.total (total_after s e))) (fault.WrongTotal (total_after s e)) (λ wrong. unequal e.total (total_after s e) wrong)

out_of_turn : (s : State) (player : Seat) (what : EventKind) → is_last_rack what ≡ false → not (may_move s.mover player) ≡ true → IsOutOfTurn s player what
out_of_turn s player what plain wrong =
    record {
      turn = λ _. not-true (may_move s.mover player) wrong;
      line = λ rack. absurd (both_ways (is_last_rack what) plain rack);
      due = λ rack. absurd (both_ways (is_last_rack what) plain rack);
    }

turn_says : (rules : Rules) (list : List (List ℕ)) (s : State) (e : Event) (what : EventKind) → is_last_rack what ≡ false
    → Says (Because rules list s e what) (check_turn s e)
turn_says rules list s e what plain =
    fails_says (Because rules list s e what) (not (may_move s.mover e.player)) fault.NotYourTurn (λ wrong. out_of_turn s e.player what plain wrong)

-- ---- each kind

play_says : (rules : Rules) (list : List (List ℕ)) (s : State) (e : Event) (dir : Dir) (at : ℕ) (word : List Symbol)
    → Says (Because rules list s e (kind.Play at dir word)) (check_play rules s e dir at word)
unfolding check_play
play_says rules list s e dir at word =
    let what = kind.Play at dir word in
    let P = Because rules list s e what in
    let rack = (side_of s.sides e.player).rack in
    let used = length (placement_of s.board dir at word) in
    let numbers = check_score e.score (text_score rules s.board dir at word) ∷ check_total s e ∷ [] in
    let tiles = fails (nat_lt rack used) fault.TooManyUsed ∷ numbers in
    let laid = option_map fault.Play (play_fault s.board dir at word) ∷ tiles in
    let of_numbers : play_fault s.board dir at word ≡ None → Says P (first_fault numbers) =
    λ none. first_says P numbers (score_says rules list s e what (text_score rules s.board dir at word) none, (total_says rules list s e what, tt)) in
    let of_tiles : play_fault s.board dir at word ≡ None → Says P (first_fault tiles) =
    λ none. after_none P (fails (nat_lt rack used) fault.TooManyUsed) numbers
    (fails_says P (nat_lt rack used) fault.TooManyUsed (λ so. (ltb-true rack used so, none))) (λ _. of_numbers none) in
    let of_laid : Says P (first_fault laid) =
    after_none P (option_map fault.Play (play_fault s.board dir at word)) tiles (play_fault_says P (play_fault s.board dir at word) (λ f is. is))
    (λ none. of_tiles (no_play_fault (play_fault s.board dir at word) none)) in
    after_none P (fails (is_over s) fault.GameOver) (check_turn s e ∷ laid) (fails_says P (is_over s) fault.GameOver (λ so. so))
    (λ _. after_none P (check_turn s e) laid (turn_says rules list s e what refl) (λ _. of_laid))

and_left : (a b : Bool) → (a && b) ≡ true → a ≡ true
and_left true b e = refl
and_left false b e = cc

pass_says : (rules : Rules) (list : List (List ℕ)) (s : State) (e : Event) → Says (Because rules list s e kind.Pass) (check_pass s e)
unfolding check_pass
pass_says rules list s e =
    let P = Because rules list s e kind.Pass in
    let over = is_over s && not (may_idle s e.player) in
    first_says P (fails over fault.GameOver ∷ check_turn s e ∷ check_score e.score (pos 0) ∷ check_total s e ∷ []) (
      fails_says P over fault.GameOver (λ so. and_left (is_over s) (not (may_idle s e.player)) so),
      (
        turn_says rules list s e kind.Pass refl,
        (
          score_says rules list s e kind.Pass (pos 0) tt,
          (total_says rules list s e kind.Pass, tt),
        ),
      ),
    )

too_large : (rack bag size : ℕ) → (nat_lt rack size ≡ true) ⊎ (nat_lt bag size ≡ true) → (rack < size) ⊎ (bag < size)
too_large rack bag size (inl so) = inl (ltb-true rack size so)
too_large rack bag size (inr so) = inr (ltb-true bag size so)

exchange_scored : (s : State) (e : Event) (what : EventKind) → is_exchange what ≡ true → IsScored s e what
exchange_scored s e (kind.Play at dir word) is = cc
exchange_scored s e kind.Pass is = tt
exchange_scored s e (kind.Exchange tiles) is = tt
exchange_scored s e (kind.ExchangeUnknown n) is = tt
exchange_scored s e kind.Withdraw is = tt
exchange_scored s e kind.Challenge is = tt
exchange_scored s e kind.Time is = tt
exchange_scored s e (kind.LastRack tiles) is = cc

exchange_says : (rules : Rules) (list : List (List ℕ)) (s : State) (e : Event) (what : EventKind) → is_exchange what ≡ true → is_last_rack what ≡ false
    → Says (Because rules list s e what) (check_exchange rules s e (exchanged what))
unfolding check_exchange
exchange_says rules list s e what is plain =
    let P = Because rules list s e what in
    let size = exchanged what in
    let rack = (side_of s.sides e.player).rack in
    let few = nat_lt s.bag rules.exchange_min in
    let large = nat_lt rack size || nat_lt s.bag size in
    first_says P (
    fails (is_over s) fault.GameOver
    ∷ check_turn s e
    ∷ fails few fault.ExchangeRefused
    ∷ fails large fault.ExchangeSize
    ∷ check_score e.score (pos 0)
    ∷ check_total s e ∷ []) (
      fails_says P (is_over s) fault.GameOver (λ so. so),
      (
        turn_says rules list s e what plain,
        (
          fails_says P few fault.ExchangeRefused (λ so. (is, ltb-true s.bag rules.exchange_min so)),
          (
            fails_says P large fault.ExchangeSize (λ so. (is, too_large rack s.bag size (or_cases (nat_lt rack size) (nat_lt s.bag size) so))),
            (
              score_says rules list s e what (pos 0) (exchange_scored s e what is),
              (total_says rules list s e what, tt),
            ),
          ),
        ),
      ),
    )

not_to_take : (stands own : Bool) → (stands ≡ true) ⊎ (not own ≡ true) → (own ≡ false) ⊎ (stands ≡ true)
not_to_take stands own (inl so) = inr so
not_to_take stands own (inr so) = inl (not-true own so)

withdraw_says : (rules : Rules) (list : List (List ℕ)) (s : State) (e : Event) (latest : Latest) → s.latest ≡ latest
    → Says (Because rules list s e kind.Withdraw) (check_withdraw list s e latest)
unfolding check_withdraw
withdraw_says rules list s e (played p) is =
    let P = Because rules list s e kind.Withdraw in
    let none = p.stands || not (same_seat p.player e.player) in
    let valid = list_all (is_listed list) p.words in
    first_says P (fails none fault.NothingToWithdraw ∷ fails valid fault.WithdrawnValid ∷ check_score e.score (neg_ℤ p.score) ∷ check_total s e ∷ []) (
      fails_says P none fault.NothingToWithdraw
          (λ so. (subst (IsNotAwaited true e.player) (sym is) (not_to_take p.stands (same_seat p.player e.player) (or_cases p.stands (not (same_seat p.player e.player)) so)), inl refl)),
      (
        fails_says P valid fault.WithdrawnValid (λ so. (refl, ap (λ (l : Latest). list_all (is_listed list) (latest_words l)) is ∙ so, ap is_played is)),
        (
          score_says rules list s e kind.Withdraw (neg_ℤ p.score) tt,
          (total_says rules list s e kind.Withdraw, tt),
        ),
      ),
    )
withdraw_says rules list s e (taken_back tiles) is =
    some_says (Because rules list s e kind.Withdraw) fault.NothingToWithdraw (subst (IsNotAwaited true e.player) (sym is) tt, inl refl)
withdraw_says rules list s e other is = some_says (Because rules list s e kind.Withdraw) fault.NothingToWithdraw (subst (IsNotAwaited true e.player) (sym is) tt, inl refl)

no_bonus : (stands own : Bool) (C : Type 0) → (not stands ≡ true) ⊎ (not own ≡ true) → (stands ≡ false) ⊎ ((own ≡ false) ⊎ C)
no_bonus stands own C (inl so) = inl (not-true stands so)
no_bonus stands own C (inr so) = inr (inl (not-true own so))

challenge_says : (rules : Rules) (list : List (List ℕ)) (s : State) (e : Event) (latest : Latest) → s.latest ≡ latest
    → Says (Because rules list s e kind.Challenge) (check_challenge rules list s e latest)
unfolding check_challenge
challenge_says rules list s e (played p) is =
    let P = Because rules list s e kind.Challenge in
    let none = not p.stands || not (same_seat p.player e.player) in
    let any = list_any (is_listed list) p.words in
    let same = is_bonus rules.challenge_unit (listed_in list p.words) e.score in
    let bonus = fails (not same) fault.BadBonus ∷ check_total s e ∷ [] in
    let phony = fails (not any) fault.BonusOnPhony ∷ bonus in
    let of_bonus : any ≡ true → Says P (first_fault bonus) =
    λ some. first_says P bonus
    (fails_says P (not same) fault.BadBonus (λ so. (refl, subst (IsNoBonus rules list e) (sym is) (inr (inr (some, not-true same so))))), (total_says rules list s e kind.Challenge, tt)) in
    let of_phony : Says P (first_fault phony) =
    after_none P (fails (not any) fault.BonusOnPhony) bonus
    (fails_says P (not any) fault.BonusOnPhony (λ so. (refl, ap (λ (l : Latest). list_any (is_listed list) (latest_words l)) is ∙ not-true any so, ap is_played is)))
    (λ passed. of_bonus (holds any fault.BonusOnPhony passed)) in
    after_none P (fails none fault.BadBonus) phony
    (fails_says P none fault.BadBonus (λ so. (
      refl,
      subst (IsNoBonus rules list e) (sym is) (no_bonus p.stands (same_seat p.player e.player)
          ((any ≡ true) × (same ≡ false)) (or_cases (not p.stands) (not (same_seat p.player e.player)) so)),
    )))
    (λ _. of_phony)
challenge_says rules list s e (taken_back tiles) is = some_says (Because rules list s e kind.Challenge) fault.BadBonus (refl, subst (IsNoBonus rules list e) (sym is) tt)
challenge_says rules list s e other is = some_says (Because rules list s e kind.Challenge) fault.BadBonus (refl, subst (IsNoBonus rules list e) (sym is) tt)

no_penalty : (a b : Bool) → (not a ≡ true) ⊎ (b ≡ true) → (a ≡ false) ⊎ (b ≡ true)
no_penalty a b (inl so) = inl (not-true a so)
no_penalty a b (inr so) = inr so

time_says : (rules : Rules) (list : List (List ℕ)) (s : State) (e : Event) → Says (Because rules list s e kind.Time) (check_time rules s e)
unfolding check_time
time_says rules list s e =
    let P = Because rules list s e kind.Time in
    let penalty = is_penalty rules.time_step e.score in
    let timed = (side_of s.sides e.player).timed in
    first_says P (fails (not penalty || timed) fault.BadTime ∷ check_total s e ∷ []) (
      fails_says P (not penalty || timed) fault.BadTime (λ so. (refl, no_penalty penalty timed (or_cases (not penalty) timed so))),
      (total_says rules list s e kind.Time, tt),
    )

own_line : (s : State) (player : Seat) (tiles : List ℕ) (out : Seat) → s.out ≡ Some out → not (same_seat out player) ≡ true → IsOutOfTurn s player (kind.LastRack tiles)
own_line s player tiles out is wrong =
    record {
      turn = λ plain. absurd (both_ways true plain refl);
      line = λ _ one there.
          subst (λ (seat : Seat). same_seat seat player ≡ false) (same_Some out one (sym is ∙ there)) (not-true (same_seat out player) wrong);
      due = λ _ none. some_fault out (sym is ∙ none);
    }

-- turns are over once a player has shown a last rack, and once the game is complete
over_by_end : (o a b c : Bool) → (a ≡ true) ⊎ (b ≡ true) → (o || a || b || c) ≡ true
over_by_end true a b c is = refl
over_by_end false true b c is = refl
over_by_end false false true c is = refl
over_by_end false false false c (inl is) = cc
over_by_end false false false c (inr is) = cc

over_by_all : (o a b c : Bool) → c ≡ true → (o || a || b || c) ≡ true
over_by_all true a b c is = refl
over_by_all false true b c is = refl
over_by_all false false true c is = refl
over_by_all false false false c is = is

ended_over : (s : State) (player : Seat) → (side_of s.sides player).ended ≡ true → is_over s ≡ true
ended_over s First is = over_by_end (is_some s.out) s.sides.first.ended s.sides.second.ended s.complete (inl is)
ended_over s Second is = over_by_end (is_some s.out) s.sides.first.ended s.sides.second.ended s.complete (inr is)

other_size : (s : State) (player : Seat) (tiles : List ℕ) (out : Option Seat) → s.out ≡ out → not (sum tiles == (side_of s.sides (holder_by out player)).rack) ≡ true
    → sum tiles ≢ (side_of s.sides (holder_by s.out player)).rack
other_size s player tiles out is wrong =
    subst (λ (o : Option Seat). sum tiles ≢ (side_of s.sides (holder_by o player)).rack) (sym is) (differ (sum tiles) (side_of s.sides (holder_by out player)).rack wrong)

first_off : (a b c : Bool) → (a || b || c) ≡ false → a ≡ false
first_off true b c e = cc
first_off false b c e = refl

due_says : (rules : Rules) (list : List (List ℕ)) (s : State) (e : Event) (tiles : List ℕ) (out : Option Seat) (stale : Bool) → s.out ≡ out → is_stale rules s ≡ stale
    → Says (Because rules list s e (kind.LastRack tiles)) (check_due_rack rules s e tiles out stale)
unfolding check_other_rack check_own_rack
due_says rules list s e tiles (Some out) stale is is_stale_is =
    let what = kind.LastRack tiles in
    let P = Because rules list s e what in
    let others = not (same_seat out e.player) in
    let size = not (sum tiles == (side_of s.sides (other_seat out)).rack) in
    let sized = fails size fault.LastRackSize ∷ check_score e.score (pos (2 * points_in rules tiles)) ∷ check_total s e ∷ [] in
    let of_sized : same_seat out e.player ≡ true → Says P (first_fault sized) =
    λ own. first_says P sized (
      fails_says P size fault.LastRackSize (λ so. other_size s e.player tiles (Some out) is so),
      (
        score_says rules list s e what (pos (2 * points_in rules tiles))
            (λ one there. subst (λ (seat : Seat). same_seat seat e.player ≡ true) (same_Some out one (sym is ∙ there)) own),
        (total_says rules list s e what, tt),
      ),
    ) in
    after_none P (fails others fault.NotYourTurn) sized (fails_says P others fault.NotYourTurn (λ so. own_line s e.player tiles out is so))
    (λ passed. of_sized (holds (same_seat out e.player) fault.NotYourTurn passed))
due_says rules list s e tiles None true is is_stale_is =
    let what = kind.LastRack tiles in
    let P = Because rules list s e what in
    let ended = (side_of s.sides e.player).ended in
    let size = not (sum tiles == (side_of s.sides e.player).rack) in
    first_says P (fails ended fault.GameOver ∷ fails size fault.LastRackSize ∷ check_score e.score (neg_ℤ (pos (points_in rules tiles))) ∷ check_total s e ∷ []) (
      fails_says P ended fault.GameOver (λ so. ended_over s e.player so),
      (
        fails_says P size fault.LastRackSize (λ so. other_size s e.player tiles None is so),
        (
          score_says rules list s e what (neg_ℤ (pos (points_in rules tiles))) (λ one there. absurd (some_fault one (sym there ∙ is))),
          (total_says rules list s e what, tt),
        ),
      ),
    )
due_says rules list s e tiles None false is is_stale_is =
    some_says (Because rules list s e (kind.LastRack tiles)) fault.NotOver
    (is, leb-false rules.zero_limit s.zero_run (first_off (nat_le rules.zero_limit s.zero_run) s.sides.first.ended s.sides.second.ended is_stale_is))

last_says : (rules : Rules) (list : List (List ℕ)) (s : State) (e : Event) (tiles : List ℕ) → Says (Because rules list s e (kind.LastRack tiles)) (check_last_rack rules s e tiles)
unfolding check_last_rack
last_says rules list s e tiles =
    let P = Because rules list s e (kind.LastRack tiles) in
    first_says P (fails s.complete fault.GameOver ∷ check_due_rack rules s e tiles s.out (is_stale rules s) ∷ [])
    (fails_says P s.complete fault.GameOver (λ so. over_by_all (is_some s.out) s.sides.first.ended s.sides.second.ended s.complete so), (due_says rules list s e tiles s.out (is_stale rules s) refl refl, tt))

kind_says : (rules : Rules) (list : List (List ℕ)) (s : State) (e : Event) (what : EventKind) → Says (Because rules list s e what) (check_kind rules list s e what)
kind_says rules list s e (kind.Play at dir word) = play_says rules list s e dir at word
kind_says rules list s e kind.Pass = pass_says rules list s e
kind_says rules list s e (kind.Exchange tiles) = exchange_says rules list s e (kind.Exchange tiles) refl refl
kind_says rules list s e (kind.ExchangeUnknown n) = exchange_says rules list s e (kind.ExchangeUnknown n) refl refl
kind_says rules list s e kind.Withdraw = withdraw_says rules list s e s.latest refl
kind_says rules list s e kind.Challenge = challenge_says rules list s e s.latest refl
kind_says rules list s e kind.Time = time_says rules list s e
kind_says rules list s e (kind.LastRack tiles) = last_says rules list s e tiles

remaining_awaiting : (stands own taken : Bool) → (not stands && not (taken && own)) ≡ true → (own ≡ false) ⊎ (stands ≡ taken)
remaining_awaiting true own taken e = cc
remaining_awaiting false true true e = cc
remaining_awaiting false false true e = inl refl
remaining_awaiting false own false e = inr refl

-- a play that awaits its withdrawal is followed by something else
broken : (latest : Latest) (player : Seat) (what : EventKind) → interrupts latest player what ≡ true → IsNotAwaited (is_withdraw what) player latest
broken (played p) player what so = remaining_awaiting p.stands (same_seat p.player player) (is_withdraw what) so
broken (taken_back tiles) player what so = tt
broken other player what so = tt

-- what the fault of an event says
pub because : (rules : Rules) (list : List (List ℕ)) (s : State) (e : Event) (why : RuleFault) → fault_in rules list s e ≡ Some why → Because rules list s e e.kind why
unfolding fault_in
because rules list s e why is =
    let P = Because rules list s e e.kind in
    let awaited = interrupts s.latest e.player e.kind in
    first_says P (fails awaited fault.NothingToWithdraw ∷ check_kind rules list s e e.kind ∷ [])
    (fails_says P awaited fault.NothingToWithdraw (λ so. (broken s.latest e.player e.kind so, inr so)), (kind_says rules list s e e.kind, tt)) why is

-- ---- one by one

other_moves : (mover : Option Seat) (player : Seat) → may_move mover player ≡ false → mover ≡ Some (other_seat player)
other_moves None player e = cc
other_moves (Some First) First e = cc
other_moves (Some First) Second e = refl
other_moves (Some Second) First e = refl
other_moves (Some Second) Second e = cc

pub turn_of_other : (rules : Rules) (list : List (List ℕ)) (s : State) (e : Event) → fault_in rules list s e ≡ Some fault.NotYourTurn → is_last_rack e.kind ≡ false
    → s.mover ≡ Some (other_seat e.player)
turn_of_other rules list s e is plain = other_moves s.mover e.player ((because rules list s e fault.NotYourTurn is).turn plain)

pub line_of_out : (rules : Rules) (list : List (List ℕ)) (s : State) (e : Event) (out : Seat) → fault_in rules list s e ≡ Some fault.NotYourTurn → is_last_rack e.kind ≡ true
    → s.out ≡ Some out → same_seat out e.player ≡ false
line_of_out rules list s e out is rack there = (because rules list s e fault.NotYourTurn is).line rack out there

pub none_out : (rules : Rules) (list : List (List ℕ)) (s : State) (e : Event) → fault_in rules list s e ≡ Some fault.NotOver → s.out ≡ None
none_out rules list s e is = (because rules list s e fault.NotOver is).0

pub turns_remaining : (rules : Rules) (list : List (List ℕ)) (s : State) (e : Event) (limit turns : ℕ) → fault_in rules list s e ≡ Some fault.NotOver → limit ≡ rules.zero_limit
    → turns ≡ s.zero_run → turns < limit
turns_remaining rules list s e limit turns is same own =
    subst (λ n. n < limit) (sym own) (subst (λ n. s.zero_run < n) (sym same) (because rules list s e fault.NotOver is).1)

pub score_differs : (rules : Rules) (list : List (List ℕ)) (s : State) (e : Event) (right : ℤ) → fault_in rules list s e ≡ Some (fault.WrongScore right) → e.score ≢ right
score_differs rules list s e right is = (because rules list s e (fault.WrongScore right) is).0

scored_play : (s : State) (e : Event) (what : EventKind) → is_play what ≡ true → IsScored s e what → OfPlay what (λ at dir word. play_fault s.board dir at word ≡ None)
scored_play s e (kind.Play at dir word) is scored = scored
scored_play s e kind.Pass is scored = cc
scored_play s e (kind.Exchange tiles) is scored = cc
scored_play s e (kind.ExchangeUnknown n) is scored = cc
scored_play s e kind.Withdraw is scored = cc
scored_play s e kind.Challenge is scored = cc
scored_play s e kind.Time is scored = cc
scored_play s e (kind.LastRack tiles) is scored = cc

-- a play whose score is wrong is legal
pub legal_play : (rules : Rules) (list : List (List ℕ)) (s : State) (e : Event) (right : ℤ) → fault_in rules list s e ≡ Some (fault.WrongScore right) → is_play e.kind ≡ true
    → OfPlay e.kind (λ at dir word. play_fault s.board dir at word ≡ None)
legal_play rules list s e right is play = scored_play s e e.kind play (because rules list s e (fault.WrongScore right) is).1

one_seat : (a b : Seat) → same_seat a b ≡ true → a ≡ b
one_seat First First is = refl
one_seat First Second is = cc
one_seat Second First is = cc
one_seat Second Second is = refl

doubled_for : (out : Option Seat) (player : Seat) → ((one : Seat) → out ≡ Some one → same_seat one player ≡ true) → IsDoubledFor (is_some out) out player
doubled_for None player own = refl
doubled_for (Some out) player own = ap Some (one_seat out player (own out refl))

-- the points of a rack are doubled for the player who is out
pub doubled_of : (rules : Rules) (list : List (List ℕ)) (s : State) (e : Event) (right : ℤ) (tiles : List ℕ) (shown : Bool) → fault_in rules list s e ≡ Some (fault.WrongScore right)
    → e.kind ≡ kind.LastRack tiles → shown ≡ is_some s.out → IsDoubledFor shown s.out e.player
doubled_of rules list s e right tiles shown is rack same =
    subst (λ (b : Bool). IsDoubledFor b s.out e.player) (sym same)
    (doubled_for s.out e.player (subst (IsScored s e) rack (because rules list s e (fault.WrongScore right) is).1))

pub total_differs : (rules : Rules) (list : List (List ℕ)) (s : State) (e : Event) (right : ℤ) → fault_in rules list s e ≡ Some (fault.WrongTotal right) → e.total ≢ right
total_differs rules list s e right is = because rules list s e (fault.WrongTotal right) is

pub is_withdrawal_of : (rules : Rules) (list : List (List ℕ)) (s : State) (e : Event) → fault_in rules list s e ≡ Some fault.WithdrawnValid → is_withdrawal e.kind ≡ true
is_withdrawal_of rules list s e is = (because rules list s e fault.WithdrawnValid is).0

pub words_listed : (rules : Rules) (list : List (List ℕ)) (s : State) (e : Event) (words : List (List ℕ)) → fault_in rules list s e ≡ Some fault.WithdrawnValid
    → words ≡ latest_words s.latest → list_all (is_listed list) words ≡ true
words_listed rules list s e words is same = ap (λ (ws : List (List ℕ)). list_all (is_listed list) ws) same ∙ (because rules list s e fault.WithdrawnValid is).1

pub is_challenge_of : (rules : Rules) (list : List (List ℕ)) (s : State) (e : Event) → fault_in rules list s e ≡ Some fault.BonusOnPhony → is_challenge e.kind ≡ true
is_challenge_of rules list s e is = (because rules list s e fault.BonusOnPhony is).0

pub bonus_of_challenge : (rules : Rules) (list : List (List ℕ)) (s : State) (e : Event) → fault_in rules list s e ≡ Some fault.BadBonus → is_challenge e.kind ≡ true
bonus_of_challenge rules list s e is = (because rules list s e fault.BadBonus is).0

pub words_unlisted : (rules : Rules) (list : List (List ℕ)) (s : State) (e : Event) (words : List (List ℕ)) → fault_in rules list s e ≡ Some fault.BonusOnPhony
    → words ≡ latest_words s.latest → list_any (is_listed list) words ≡ false
words_unlisted rules list s e words is same = ap (λ (ws : List (List ℕ)). list_any (is_listed list) ws) same ∙ (because rules list s e fault.BonusOnPhony is).1

pub refused_exchange : (rules : Rules) (list : List (List ℕ)) (s : State) (e : Event) → fault_in rules list s e ≡ Some fault.ExchangeRefused → is_exchange e.kind ≡ true
refused_exchange rules list s e is = (because rules list s e fault.ExchangeRefused is).0

pub bag_too_small : (rules : Rules) (list : List (List ℕ)) (s : State) (e : Event) (bag least : ℕ) → fault_in rules list s e ≡ Some fault.ExchangeRefused → bag ≡ s.bag
    → least ≡ rules.exchange_min → bag < least
bag_too_small rules list s e bag least is own same =
    subst (λ n. n < least) (sym own) (subst (λ n. s.bag < n) (sym same) (because rules list s e fault.ExchangeRefused is).1)

pub large_exchange : (rules : Rules) (list : List (List ℕ)) (s : State) (e : Event) → fault_in rules list s e ≡ Some fault.ExchangeSize → is_exchange e.kind ≡ true
large_exchange rules list s e is = (because rules list s e fault.ExchangeSize is).0

pub more_than_there_are : (rules : Rules) (list : List (List ℕ)) (s : State) (e : Event) (tiles has bag : ℕ) → fault_in rules list s e ≡ Some fault.ExchangeSize
    → tiles ≡ exchanged e.kind → has ≡ (side_of s.sides e.player).rack → bag ≡ s.bag → (has < tiles) ⊎ (bag < tiles)
more_than_there_are rules list s e tiles has bag is size own remaining =
    subst (λ n. (n < tiles) ⊎ (bag < tiles)) (sym own)
    (subst (λ n. ((side_of s.sides e.player).rack < tiles) ⊎ (n < tiles)) (sym remaining)
    (subst (λ n. ((side_of s.sides e.player).rack < n) ⊎ (s.bag < n)) (sym size) (because rules list s e fault.ExchangeSize is).1))

pub rack_size_differs : (rules : Rules) (list : List (List ℕ)) (s : State) (e : Event) (tiles : List ℕ) (shown has : ℕ) → fault_in rules list s e ≡ Some fault.LastRackSize
    → e.kind ≡ kind.LastRack tiles → shown ≡ sum tiles → has ≡ (side_of s.sides (holder_by s.out e.player)).rack → shown ≢ has
rack_size_differs rules list s e tiles shown has is rack own there =
    let rack_of = (side_of s.sides (holder_by s.out e.player)).rack in
    let reported = subst (λ (k : EventKind). OfLastRack k (λ some. sum some ≢ rack_of)) rack (because rules list s e fault.LastRackSize is) in
    λ same. reported (sym own ∙ same ∙ there)

pub is_time_of : (rules : Rules) (list : List (List ℕ)) (s : State) (e : Event) → fault_in rules list s e ≡ Some fault.BadTime → is_time e.kind ≡ true
is_time_of rules list s e is = (because rules list s e fault.BadTime is).0

of_step : (a b : Bool) → (a ≡ false) ⊎ (b ≡ true) → b ≡ false → a ≡ false
of_step a b (inl so) off = so
of_step a b (inr so) off = absurd (both_ways b off so)

pub no_step : (rules : Rules) (list : List (List ℕ)) (s : State) (e : Event) (step : ℕ) (written : ℤ) → fault_in rules list s e ≡ Some fault.BadTime
    → (side_of s.sides e.player).timed ≡ false → step ≡ rules.time_step → written ≡ e.score → is_penalty step written ≡ false
no_step rules list s e step written is first same own =
    ap (λ n. is_penalty n written) same ∙ ap (is_penalty rules.time_step) own
    ∙ of_step (is_penalty rules.time_step e.score) (side_of s.sides e.player).timed (because rules list s e fault.BadTime is).1 first

-- ---- the number of tiles of a play

-- the number of tiles that a text puts down, if it does not leave the board
as_many : (off : Bool) (many used : ℕ) → (if off then None else Some many) ≡ Some used → many ≡ used
as_many true many used e = cc
as_many false many used e = same_Some many used e

pub more_than_held : (rules : Rules) (list : List (List ℕ)) (s : State) (e : Event) (at : ℕ) (dir : Dir) (word : List Symbol) (used has : ℕ)
    → fault_in rules list s e ≡ Some fault.TooManyUsed → e.kind ≡ kind.Play at dir word → new_tiles s.board dir at word ≡ Some used
    → has ≡ (side_of s.sides e.player).rack → has < used
more_than_held rules list s e at dir word used has is play many own =
    let rack = (side_of s.sides e.player).rack in
    let reported =
    subst (λ (k : EventKind). OfPlay k (λ a d w. (rack < length (placement_of s.board d a w)) × (play_fault s.board d a w ≡ None))) play
    (because rules list s e fault.TooManyUsed is) in
    subst (λ n. n < used) (sym own) (subst (λ n. rack < n) (as_many (leaves_board dir at word) (length (placement_of s.board dir at word)) used many) reported.0)

-- what is said of each fault of a play
abbrev pub SaysOfPlay : (P : PlayFault → Type 0) → Option PlayFault → Type 0
SaysOfPlay P o = (why : PlayFault) → o ≡ Some why → P why

abbrev pub EachOfPlay : (P : PlayFault → Type 0) → List (Option PlayFault) → Type 0
EachOfPlay P [] = Unit {0}
EachOfPlay P (check ∷ checks) = SaysOfPlay P check × EachOfPlay P checks

pub none_of_play : (P : PlayFault → Type 0) → SaysOfPlay P None
none_of_play P why e = cc

pub fails_of_play : (P : PlayFault → Type 0) (test : Bool) (f : PlayFault) → (test ≡ true → P f) → SaysOfPlay P (fails test f)
fails_of_play P true f so why e = subst P (same_Some f why e) (so refl)
fails_of_play P false f so why e = cc

pub first_of_play : (P : PlayFault → Type 0) (checks : List (Option PlayFault)) → EachOfPlay P checks → SaysOfPlay P (first_fault checks)
first_of_play P [] each = none_of_play P
first_of_play P (None ∷ checks) each = first_of_play P checks each.1
first_of_play P (Some f ∷ checks) each = each.0

pub either_of_play : (P : PlayFault → Type 0) (a b : Option PlayFault) → SaysOfPlay P a → SaysOfPlay P b → SaysOfPlay P (option_or a b)
either_of_play P None b of_a of_b = of_b
either_of_play P (Some f) b of_a of_b = of_a

-- of too many tiles, that there are more than a rack has
abbrev pub TooMany : (many : ℕ) → PlayFault → Type 0
TooMany many play.TooManyTiles = 7 < many
TooMany many rest = Unit {0}

too_many_says : (board : List (Option Tile)) (dir : Dir) (at : ℕ) (word : List Symbol) → SaysOfPlay (TooMany (length (placement_of board dir at word))) (play_fault board dir at word)
unfolding play_fault text_fault fault_of
too_many_says board dir at word =
    let ps = placement_of board dir at word in
    let many = length ps in
    let P = TooMany many in
    let off = nat_lt 15 (place_of dir at + length word) in
    let text =
    fails off play.OffBoard ∷ fails (mismatches board dir at word) play.Mismatch ∷ fails (many == 0) play.NoNewTile ∷ fails (nat_lt 7 many) play.TooManyTiles
    ∷ fails (is_open_ended board dir at word) play.NotWhole ∷ [] in
    let placed =
    fails (overlaps board ps) play.Mismatch ∷ fails (has_gap dir (with_tiles board ps) ps) play.NotWhole ∷ fails (misses_centre board ps) play.MissesCentre
    ∷ fails (is_too_short dir (with_tiles board ps) ps) play.TooShort ∷ fails (is_apart board ps) play.Apart ∷ [] in
    either_of_play P (first_fault text) (first_fault placed)
    (first_of_play P text (
      fails_of_play P off play.OffBoard (λ _. tt),
      (
        fails_of_play P (mismatches board dir at word) play.Mismatch (λ _. tt),
        (
          fails_of_play P (many == 0) play.NoNewTile (λ _. tt),
          (
            fails_of_play P (nat_lt 7 many) play.TooManyTiles (λ so. ltb-true 7 many so),
            (fails_of_play P (is_open_ended board dir at word) play.NotWhole (λ _. tt), tt),
          ),
        ),
      ),
    ))
    (first_of_play P placed (
      fails_of_play P (overlaps board ps) play.Mismatch (λ _. tt),
      (
        fails_of_play P (has_gap dir (with_tiles board ps) ps) play.NotWhole (λ _. tt),
        (
          fails_of_play P (misses_centre board ps) play.MissesCentre (λ _. tt),
          (
            fails_of_play P (is_too_short dir (with_tiles board ps) ps) play.TooShort (λ _. tt),
            (fails_of_play P (is_apart board ps) play.Apart (λ _. tt), tt),
          ),
        ),
      ),
    ))

pub more_than_seven : (board : List (Option Tile)) (at : ℕ) (dir : Dir) (word : List Symbol) (tiles : ℕ) → play_fault board dir at word ≡ Some play.TooManyTiles
    → new_tiles board dir at word ≡ Some tiles → 7 < tiles
more_than_seven board at dir word tiles fails many =
    subst (λ n. 7 < n) (as_many (leaves_board dir at word) (length (placement_of board dir at word)) tiles many) (too_many_says board dir at word play.TooManyTiles fails)
