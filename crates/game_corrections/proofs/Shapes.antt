-- The checks of an event in two parts: those before the numbers, which never name a number, and those of the score and the total.
use Rattle.std.proofs.Common.{◌≡◌, ℕ, ℤ, pos, neg_ℤ, ◌*◌, ◌==◌, ◌&&◌, ◌||◌, Bool, true, false, not, nat_lt, List, [], ◌∷◌, ◌++◌, length, sum, Option, Some, None, refl, sym, ap, ◌∙◌, subst}
use Rattle.std.specs.Prelude.{◌+ℤ◌, option_map}
use Rattle.std.proofs.lemmas.Option.{same_Some}
use Rattle.std.specs.List.{list_all, list_any}
use Rattle.std.specs.Option.{option_or}
use Rattle.std.specs.Ordering.{int_eq}
use Rattle.first_faults.specs.Checks.{fails, first_fault}
use Rattle.first_faults.proofs.CheckLaws.{some_fault}
use Rattle.ref_tiles.specs.declared.rulebook.Rules.{Rules}
use Rattle.ref_play.specs.declared.faults.PlayFault.{PlayFault}
use Rattle.ref_play.specs.Texts.{placement_of}
use Rattle.lex_list.specs.Words.{is_listed}
use Rattle.gcg_read.specs.Players.{other_seat}
use Rattle.gcg_read.specs.declared.events.Seat.{Seat}
use Rattle.gcg_read.specs.declared.events.Event.{Event}
use Rattle.gcg_read.specs.declared.events.EventKind.{EventKind}
use Rattle.gcg_read.specs.declared.events.EventKind.TheVariants as kind
use Rattle.game_turns.specs.declared.faults.RuleFault.{RuleFault}
use Rattle.game_turns.specs.declared.faults.RuleFault.TheVariants as fault
use Rattle.game_turns.specs.Seats.{same_seat, may_move, side_of}
use Rattle.game_turns.specs.Tallies.{State, Latest, played, taken_back, other}
use Rattle.game_turns.specs.Checks.{is_over, may_idle, play_fault, text_score, points_in, is_bonus, is_penalty, listed_in, is_stale, interrupts, check_score, check_play, check_pass, check_exchange, check_withdraw, check_challenge, check_time, check_other_rack, check_own_rack, check_due_rack, check_last_rack, check_kind, fault_in}
use Rattle.game_corrections.specs.Corrections.{is_given, right_number}

-- ---- lists of checks

first_of_one : {F : Type 0} (a : Option F) → first_fault (a ∷ []) ≡ a
first_of_one None = refl
first_of_one (Some why) = refl

first_of_two : {F : Type 0} (a b : Option F) → first_fault (a ∷ b ∷ []) ≡ option_or a b
first_of_two None b = first_of_one b
first_of_two (Some why) b = refl

-- the two last checks come after all others
two_last : {F : Type 0} (checks : List (Option F)) (a b : Option F) → first_fault (checks ++ a ∷ b ∷ []) ≡ option_or (first_fault checks) (option_or a b)
two_last [] a b = first_of_two a b
two_last (None ∷ checks) a b = two_last checks a b
two_last (Some why ∷ checks) a b = refl

one_last : {F : Type 0} (checks : List (Option F)) (a : Option F) → first_fault (checks ++ a ∷ []) ≡ option_or (first_fault checks) a
one_last [] a = first_of_one a
one_last (None ∷ checks) a = one_last checks a
one_last (Some why ∷ checks) a = refl

or_three : {F : Type 0} (a b c : Option F) → option_or a (option_or b c) ≡ option_or (option_or a b) c
or_three None b c = refl
or_three (Some why) b c = refl

-- ---- the two parts

-- the score that the rules give, if they give one
abbrev pub score_wrong : Option ℤ → ℤ → Option RuleFault
score_wrong None score = None
score_wrong (Some right) score = check_score score right

abbrev pub total_wrong : (before score total : ℤ) → Option RuleFault
total_wrong before score total = fails (not (int_eq total (before +ℤ score))) (fault.WrongTotal (before +ℤ score))

abbrev pub numbers_wrong : Option ℤ → (before score total : ℤ) → Option RuleFault
numbers_wrong right before score total = option_or (score_wrong right score) (total_wrong before score total)

abbrev pub withdraw_front : (list : List (List ℕ)) → Latest → Seat → Option RuleFault
withdraw_front list (played p) player =
    first_fault (fails (p.stands || not (same_seat p.player player)) fault.NothingToWithdraw ∷ fails (list_all (is_listed list) p.words) fault.WithdrawnValid ∷ [])
withdraw_front list (taken_back tiles) player = Some fault.NothingToWithdraw
withdraw_front list other player = Some fault.NothingToWithdraw

abbrev pub challenge_front : Rules → (list : List (List ℕ)) → Latest → Seat → ℤ → Option RuleFault
challenge_front rules list (played p) player score =
    first_fault (
    fails (not p.stands || not (same_seat p.player player)) fault.BadBonus
    ∷ fails (not (list_any (is_listed list) p.words)) fault.BonusOnPhony
    ∷ fails (not (is_bonus rules.challenge_unit (listed_in list p.words) score)) fault.BadBonus ∷ [])
challenge_front rules list (taken_back tiles) player score = Some fault.BadBonus
challenge_front rules list other player score = Some fault.BadBonus

abbrev pub due_front : State → Seat → (size : ℕ) → Option Seat → (stale : Bool) → Option RuleFault
due_front s player size (Some out) stale =
    first_fault (fails (not (same_seat out player)) fault.NotYourTurn ∷ fails (not (size == (side_of s.sides (other_seat out)).rack)) fault.LastRackSize ∷ [])
due_front s player size None true =
    first_fault (fails (side_of s.sides player).ended fault.GameOver ∷ fails (not (size == (side_of s.sides player).rack)) fault.LastRackSize ∷ [])
due_front s player size None false = Some fault.NotOver

-- the checks of a kind before the numbers
abbrev pub kind_front : Rules → (list : List (List ℕ)) → State → Seat → ℤ → EventKind → Option RuleFault
kind_front rules list s player score (kind.Play at dir word) =
    first_fault (
    fails (is_over s) fault.GameOver
    ∷ fails (not (may_move s.mover player)) fault.NotYourTurn
    ∷ option_map fault.Play (play_fault s.board dir at word)
    ∷ fails (nat_lt (side_of s.sides player).rack (length (placement_of s.board dir at word))) fault.TooManyUsed ∷ [])
kind_front rules list s player score kind.Pass =
    first_fault (fails (is_over s && not (may_idle s player)) fault.GameOver ∷ fails (not (may_move s.mover player)) fault.NotYourTurn ∷ [])
kind_front rules list s player score (kind.Exchange tiles) =
    first_fault (
    fails (is_over s) fault.GameOver
    ∷ fails (not (may_move s.mover player)) fault.NotYourTurn
    ∷ fails (nat_lt s.bag rules.exchange_min) fault.ExchangeRefused
    ∷ fails (nat_lt (side_of s.sides player).rack (sum tiles) || nat_lt s.bag (sum tiles)) fault.ExchangeSize ∷ [])
kind_front rules list s player score (kind.ExchangeUnknown n) =
    first_fault (
    fails (is_over s) fault.GameOver
    ∷ fails (not (may_move s.mover player)) fault.NotYourTurn
    ∷ fails (nat_lt s.bag rules.exchange_min) fault.ExchangeRefused
    ∷ fails (nat_lt (side_of s.sides player).rack n || nat_lt s.bag n) fault.ExchangeSize ∷ [])
kind_front rules list s player score kind.Withdraw = withdraw_front list s.latest player
kind_front rules list s player score kind.Challenge = challenge_front rules list s.latest player score
kind_front rules list s player score kind.Time =
    first_fault (fails (not (is_penalty rules.time_step score) || (side_of s.sides player).timed) fault.BadTime ∷ [])
kind_front rules list s player score (kind.LastRack tiles) =
    option_or (fails s.complete fault.GameOver) (due_front s player (sum tiles) s.out (is_stale rules s))

abbrev pub withdrawn_score : Latest → ℤ
withdrawn_score (played p) = neg_ℤ p.score
withdrawn_score (taken_back tiles) = pos 0
withdrawn_score other = pos 0

abbrev pub rack_score : (points : ℕ) → Option Seat → ℤ
rack_score points (Some out) = pos (2 * points)
rack_score points None = neg_ℤ (pos points)

-- the score that the rules give an event of a kind; none if it is taken as it is written
abbrev pub kind_score : Rules → State → EventKind → Option ℤ
kind_score rules s (kind.Play at dir word) = Some (text_score rules s.board dir at word)
kind_score rules s kind.Pass = Some (pos 0)
kind_score rules s (kind.Exchange tiles) = Some (pos 0)
kind_score rules s (kind.ExchangeUnknown n) = Some (pos 0)
kind_score rules s kind.Withdraw = Some (withdrawn_score s.latest)
kind_score rules s kind.Challenge = None
kind_score rules s kind.Time = None
kind_score rules s (kind.LastRack tiles) = Some (rack_score (points_in rules tiles) s.out)

withdraw_shape : (list : List (List ℕ)) (s : State) (e : Event) (latest : Latest)
    → check_withdraw list s e latest
    ≡ option_or (withdraw_front list latest e.player) (numbers_wrong (Some (withdrawn_score latest)) (side_of s.sides e.player).total e.score e.total)
unfolding check_withdraw
withdraw_shape list s e (played p) =
    two_last (fails (p.stands || not (same_seat p.player e.player)) fault.NothingToWithdraw ∷ fails (list_all (is_listed list) p.words) fault.WithdrawnValid ∷ [])
    (check_score e.score (neg_ℤ p.score)) (total_wrong (side_of s.sides e.player).total e.score e.total)
withdraw_shape list s e (taken_back tiles) = refl
withdraw_shape list s e other = refl

challenge_shape : (rules : Rules) (list : List (List ℕ)) (s : State) (e : Event) (latest : Latest)
    → check_challenge rules list s e latest
    ≡ option_or (challenge_front rules list latest e.player e.score) (numbers_wrong None (side_of s.sides e.player).total e.score e.total)
unfolding check_challenge
challenge_shape rules list s e (played p) =
    one_last (fails (not p.stands || not (same_seat p.player e.player)) fault.BadBonus
    ∷ fails (not (list_any (is_listed list) p.words)) fault.BonusOnPhony
    ∷ fails (not (is_bonus rules.challenge_unit (listed_in list p.words) e.score)) fault.BadBonus ∷ [])
    (total_wrong (side_of s.sides e.player).total e.score e.total)
challenge_shape rules list s e (taken_back tiles) = refl
challenge_shape rules list s e other = refl

due_shape : (rules : Rules) (s : State) (e : Event) (tiles : List ℕ) (out : Option Seat) (stale : Bool)
    → check_due_rack rules s e tiles out stale
    ≡ option_or (due_front s e.player (sum tiles) out stale) (numbers_wrong (Some (rack_score (points_in rules tiles) out)) (side_of s.sides e.player).total e.score e.total)
unfolding check_other_rack check_own_rack
due_shape rules s e tiles (Some out) stale =
    two_last (fails (not (same_seat out e.player)) fault.NotYourTurn ∷ fails (not (sum tiles == (side_of s.sides (other_seat out)).rack)) fault.LastRackSize ∷ [])
    (check_score e.score (pos (2 * points_in rules tiles))) (total_wrong (side_of s.sides e.player).total e.score e.total)
due_shape rules s e tiles None true =
    two_last (fails (side_of s.sides e.player).ended fault.GameOver ∷ fails (not (sum tiles == (side_of s.sides e.player).rack)) fault.LastRackSize ∷ [])
    (check_score e.score (neg_ℤ (pos (points_in rules tiles)))) (total_wrong (side_of s.sides e.player).total e.score e.total)
due_shape rules s e tiles None false = refl

last_shape : (rules : Rules) (s : State) (e : Event) (tiles : List ℕ)
    → check_last_rack rules s e tiles
    ≡ option_or (option_or (fails s.complete fault.GameOver) (due_front s e.player (sum tiles) s.out (is_stale rules s)))
    (numbers_wrong (Some (rack_score (points_in rules tiles) s.out)) (side_of s.sides e.player).total e.score e.total)
unfolding check_last_rack
last_shape rules s e tiles =
    let over = fails s.complete fault.GameOver in
    let due = check_due_rack rules s e tiles s.out (is_stale rules s) in
    first_of_two over due ∙ ap (option_or over) (due_shape rules s e tiles s.out (is_stale rules s))
    ∙ or_three over (due_front s e.player (sum tiles) s.out (is_stale rules s)) (numbers_wrong (Some (rack_score (points_in rules tiles) s.out)) (side_of s.sides e.player).total e.score e.total)

kind_shape : (rules : Rules) (list : List (List ℕ)) (s : State) (e : Event) (k : EventKind)
    → check_kind rules list s e k
    ≡ option_or (kind_front rules list s e.player e.score k) (numbers_wrong (kind_score rules s k) (side_of s.sides e.player).total e.score e.total)
unfolding check_play check_pass check_exchange check_time
kind_shape rules list s e (kind.Play at dir word) =
    two_last (fails (is_over s) fault.GameOver
    ∷ fails (not (may_move s.mover e.player)) fault.NotYourTurn
    ∷ option_map fault.Play (play_fault s.board dir at word)
    ∷ fails (nat_lt (side_of s.sides e.player).rack (length (placement_of s.board dir at word))) fault.TooManyUsed ∷ [])
    (check_score e.score (text_score rules s.board dir at word)) (total_wrong (side_of s.sides e.player).total e.score e.total)
kind_shape rules list s e kind.Pass =
    two_last (fails (is_over s && not (may_idle s e.player)) fault.GameOver ∷ fails (not (may_move s.mover e.player)) fault.NotYourTurn ∷ [])
    (check_score e.score (pos 0)) (total_wrong (side_of s.sides e.player).total e.score e.total)
kind_shape rules list s e (kind.Exchange tiles) =
    two_last (fails (is_over s) fault.GameOver
    ∷ fails (not (may_move s.mover e.player)) fault.NotYourTurn
    ∷ fails (nat_lt s.bag rules.exchange_min) fault.ExchangeRefused
    ∷ fails (nat_lt (side_of s.sides e.player).rack (sum tiles) || nat_lt s.bag (sum tiles)) fault.ExchangeSize ∷ [])
    (check_score e.score (pos 0)) (total_wrong (side_of s.sides e.player).total e.score e.total)
kind_shape rules list s e (kind.ExchangeUnknown n) =
    two_last (fails (is_over s) fault.GameOver
    ∷ fails (not (may_move s.mover e.player)) fault.NotYourTurn
    ∷ fails (nat_lt s.bag rules.exchange_min) fault.ExchangeRefused
    ∷ fails (nat_lt (side_of s.sides e.player).rack n || nat_lt s.bag n) fault.ExchangeSize ∷ [])
    (check_score e.score (pos 0)) (total_wrong (side_of s.sides e.player).total e.score e.total)
kind_shape rules list s e kind.Withdraw = withdraw_shape list s e s.latest
kind_shape rules list s e kind.Challenge = challenge_shape rules list s e s.latest
kind_shape rules list s e kind.Time =
    one_last (fails (not (is_penalty rules.time_step e.score) || (side_of s.sides e.player).timed) fault.BadTime ∷ [])
    (total_wrong (side_of s.sides e.player).total e.score e.total)
kind_shape rules list s e (kind.LastRack tiles) = last_shape rules s e tiles

-- the checks of an event before the numbers
abbrev pub front : Rules → (list : List (List ℕ)) → State → Seat → ℤ → EventKind → Option RuleFault
front rules list s player score k =
    option_or (fails (interrupts s.latest player k) fault.NothingToWithdraw) (kind_front rules list s player score k)

pub shape : (rules : Rules) (list : List (List ℕ)) (s : State) (e : Event)
    → fault_in rules list s e
    ≡ option_or (front rules list s e.player e.score e.kind) (numbers_wrong (kind_score rules s e.kind) (side_of s.sides e.player).total e.score e.total)
unfolding fault_in
shape rules list s e =
    let awaited = fails (interrupts s.latest e.player e.kind) fault.NothingToWithdraw in
    first_of_two awaited (check_kind rules list s e e.kind) ∙ ap (option_or awaited) (kind_shape rules list s e e.kind)
    ∙ or_three awaited (kind_front rules list s e.player e.score e.kind) (numbers_wrong (kind_score rules s e.kind) (side_of s.sides e.player).total e.score e.total)

-- ---- the front depends on no number except a given score, and names none

kind_front_same : (rules : Rules) (list : List (List ℕ)) (s : State) (player : Seat) (k : EventKind) (a b : ℤ) → (is_given k ≡ true → a ≡ b)
    → kind_front rules list s player a k ≡ kind_front rules list s player b k
kind_front_same rules list s player (kind.Play at dir word) a b same = refl
kind_front_same rules list s player kind.Pass a b same = refl
kind_front_same rules list s player (kind.Exchange tiles) a b same = refl
kind_front_same rules list s player (kind.ExchangeUnknown n) a b same = refl
kind_front_same rules list s player kind.Withdraw a b same = refl
kind_front_same rules list s player kind.Challenge a b same = ap (λ n. kind_front rules list s player n kind.Challenge) (same refl)
kind_front_same rules list s player kind.Time a b same = ap (λ n. kind_front rules list s player n kind.Time) (same refl)
kind_front_same rules list s player (kind.LastRack tiles) a b same = refl

pub front_same : (rules : Rules) (list : List (List ℕ)) (s : State) (player : Seat) (k : EventKind) (a b : ℤ) → (is_given k ≡ true → a ≡ b)
    → front rules list s player a k ≡ front rules list s player b k
front_same rules list s player k a b same =
    ap (option_or (fails (interrupts s.latest player k) fault.NothingToWithdraw)) (kind_front_same rules list s player k a b same)

-- a score is given, or the rules give one
pub given_or_not : (rules : Rules) (s : State) (k : EventKind) → kind_score rules s k ≡ None → is_given k ≡ true
given_or_not rules s (kind.Play at dir word) e = absurd (some_fault (text_score rules s.board dir at word) e)
given_or_not rules s kind.Pass e = absurd (some_fault (pos 0) e)
given_or_not rules s (kind.Exchange tiles) e = absurd (some_fault (pos 0) e)
given_or_not rules s (kind.ExchangeUnknown n) e = absurd (some_fault (pos 0) e)
given_or_not rules s kind.Withdraw e = absurd (some_fault (withdrawn_score s.latest) e)
given_or_not rules s kind.Challenge e = refl
given_or_not rules s kind.Time e = refl
given_or_not rules s (kind.LastRack tiles) e = absurd (some_fault (rack_score (points_in rules tiles) s.out) e)

not_both : false ≡ true → ⊥
not_both e = cc

pub ruled_not_given : (rules : Rules) (s : State) (k : EventKind) (right : ℤ) → kind_score rules s k ≡ Some right → is_given k ≡ true → ⊥
ruled_not_given rules s (kind.Play at dir word) right e given = not_both given
ruled_not_given rules s kind.Pass right e given = not_both given
ruled_not_given rules s (kind.Exchange tiles) right e given = not_both given
ruled_not_given rules s (kind.ExchangeUnknown n) right e given = not_both given
ruled_not_given rules s kind.Withdraw right e given = not_both given
ruled_not_given rules s kind.Challenge right e given = some_fault right (sym e)
ruled_not_given rules s kind.Time right e given = some_fault right (sym e)
ruled_not_given rules s (kind.LastRack tiles) right e given = not_both given

-- a fault that names no number, if there is one
abbrev pub NamesNone : Option RuleFault → Type 0
NamesNone o = (why : RuleFault) → o ≡ Some why → right_number why ≡ None

none_plain : NamesNone None
none_plain why e = cc

fails_plain : (test : Bool) (f : RuleFault) → right_number f ≡ None → NamesNone (fails test f)
fails_plain true f plain why e = subst (λ g. right_number g ≡ None) (same_Some f why e) plain
fails_plain false f plain why e = cc

some_plain : (f : RuleFault) → right_number f ≡ None → NamesNone (Some f)
some_plain f plain why e = subst (λ g. right_number g ≡ None) (same_Some f why e) plain

play_plain : (o : Option PlayFault) → NamesNone (option_map fault.Play o)
play_plain None why e = cc
play_plain (Some p) why e = subst (λ g. right_number g ≡ None) (same_Some (fault.Play p) why e) refl

or_plain : (a b : Option RuleFault) → NamesNone a → NamesNone b → NamesNone (option_or a b)
or_plain None b of_a of_b = of_b
or_plain (Some f) b of_a of_b = of_a

first_plain : (a : Option RuleFault) (checks : List (Option RuleFault)) → NamesNone a → NamesNone (first_fault checks) → NamesNone (first_fault (a ∷ checks))
first_plain None checks of_a of_checks = of_checks
first_plain (Some f) checks of_a of_checks = of_a

two_plain : (ta tb : Bool) (a b : RuleFault) → right_number a ≡ None → right_number b ≡ None → NamesNone (first_fault (fails ta a ∷ fails tb b ∷ []))
two_plain ta tb a b pa pb =
    first_plain (fails ta a) (fails tb b ∷ []) (fails_plain ta a pa) (first_plain (fails tb b) [] (fails_plain tb b pb) none_plain)

three_plain : (ta tb tc : Bool) (a b c : RuleFault) → right_number a ≡ None → right_number b ≡ None → right_number c ≡ None
    → NamesNone (first_fault (fails ta a ∷ fails tb b ∷ fails tc c ∷ []))
three_plain ta tb tc a b c pa pb pc = first_plain (fails ta a) (fails tb b ∷ fails tc c ∷ []) (fails_plain ta a pa) (two_plain tb tc b c pb pc)

four_plain : (ta tb tc td : Bool) (a b c d : RuleFault) → right_number a ≡ None → right_number b ≡ None → right_number c ≡ None → right_number d ≡ None
    → NamesNone (first_fault (fails ta a ∷ fails tb b ∷ fails tc c ∷ fails td d ∷ []))
four_plain ta tb tc td a b c d pa pb pc pd =
    first_plain (fails ta a) (fails tb b ∷ fails tc c ∷ fails td d ∷ []) (fails_plain ta a pa) (three_plain tb tc td b c d pb pc pd)

withdraw_plain : (list : List (List ℕ)) (latest : Latest) (player : Seat) → NamesNone (withdraw_front list latest player)
withdraw_plain list (played p) player =
    two_plain (p.stands || not (same_seat p.player player)) (list_all (is_listed list) p.words) fault.NothingToWithdraw fault.WithdrawnValid refl refl
withdraw_plain list (taken_back tiles) player = some_plain fault.NothingToWithdraw refl
withdraw_plain list other player = some_plain fault.NothingToWithdraw refl

challenge_plain : (rules : Rules) (list : List (List ℕ)) (latest : Latest) (player : Seat) (score : ℤ) → NamesNone (challenge_front rules list latest player score)
challenge_plain rules list (played p) player score =
    three_plain (not p.stands || not (same_seat p.player player)) (not (list_any (is_listed list) p.words))
    (not (is_bonus rules.challenge_unit (listed_in list p.words) score)) fault.BadBonus fault.BonusOnPhony fault.BadBonus refl refl refl
challenge_plain rules list (taken_back tiles) player score = some_plain fault.BadBonus refl
challenge_plain rules list other player score = some_plain fault.BadBonus refl

due_plain : (s : State) (player : Seat) (size : ℕ) (out : Option Seat) (stale : Bool) → NamesNone (due_front s player size out stale)
due_plain s player size (Some out) stale =
    two_plain (not (same_seat out player)) (not (size == (side_of s.sides (other_seat out)).rack)) fault.NotYourTurn fault.LastRackSize refl refl
due_plain s player size None true =
    two_plain (side_of s.sides player).ended (not (size == (side_of s.sides player).rack)) fault.GameOver fault.LastRackSize refl refl
due_plain s player size None false = some_plain fault.NotOver refl

kind_plain : (rules : Rules) (list : List (List ℕ)) (s : State) (player : Seat) (score : ℤ) (k : EventKind) → NamesNone (kind_front rules list s player score k)
kind_plain rules list s player score (kind.Play at dir word) =
    let over = is_over s in
    let turn = not (may_move s.mover player) in
    let play = option_map fault.Play (play_fault s.board dir at word) in
    let used = nat_lt (side_of s.sides player).rack (length (placement_of s.board dir at word)) in
    first_plain (fails over fault.GameOver) (fails turn fault.NotYourTurn ∷ play ∷ fails used fault.TooManyUsed ∷ []) (fails_plain over fault.GameOver refl)
    (first_plain (fails turn fault.NotYourTurn) (play ∷ fails used fault.TooManyUsed ∷ []) (fails_plain turn fault.NotYourTurn refl)
    (first_plain play (fails used fault.TooManyUsed ∷ []) (play_plain (play_fault s.board dir at word))
    (first_plain (fails used fault.TooManyUsed) [] (fails_plain used fault.TooManyUsed refl) none_plain)))
kind_plain rules list s player score kind.Pass =
    two_plain (is_over s && not (may_idle s player)) (not (may_move s.mover player)) fault.GameOver fault.NotYourTurn refl refl
kind_plain rules list s player score (kind.Exchange tiles) =
    four_plain (is_over s) (not (may_move s.mover player)) (nat_lt s.bag rules.exchange_min) (nat_lt (side_of s.sides player).rack (sum tiles) || nat_lt s.bag (sum tiles))
    fault.GameOver fault.NotYourTurn fault.ExchangeRefused fault.ExchangeSize refl refl refl refl
kind_plain rules list s player score (kind.ExchangeUnknown n) =
    four_plain (is_over s) (not (may_move s.mover player)) (nat_lt s.bag rules.exchange_min) (nat_lt (side_of s.sides player).rack n || nat_lt s.bag n)
    fault.GameOver fault.NotYourTurn fault.ExchangeRefused fault.ExchangeSize refl refl refl refl
kind_plain rules list s player score kind.Withdraw = withdraw_plain list s.latest player
kind_plain rules list s player score kind.Challenge = challenge_plain rules list s.latest player score
kind_plain rules list s player score kind.Time =
    let late = not (is_penalty rules.time_step score) || (side_of s.sides player).timed in
    first_plain (fails late fault.BadTime) [] (fails_plain late fault.BadTime refl) none_plain
kind_plain rules list s player score (kind.LastRack tiles) =
    or_plain (fails s.complete fault.GameOver) (due_front s player (sum tiles) s.out (is_stale rules s)) (fails_plain s.complete fault.GameOver refl)
    (due_plain s player (sum tiles) s.out (is_stale rules s))

pub front_plain : (rules : Rules) (list : List (List ℕ)) (s : State) (player : Seat) (score : ℤ) (k : EventKind) → NamesNone (front rules list s player score k)
front_plain rules list s player score k =
    or_plain (fails (interrupts s.latest player k) fault.NothingToWithdraw) (kind_front rules list s player score k)
    (fails_plain (interrupts s.latest player k) fault.NothingToWithdraw refl) (kind_plain rules list s player score k)
