-- What must be on the racks now, and what the moments have shown.
use Rattle.std.proofs.Common.{◌≡◌, ℕ, zero, suc, ◌+◌, ◌<◌, ◌≤◌, Bool, true, false, cond, ◌&&◌, nat_lt, nat_le, List, [], ◌∷◌, length, get_or, take, drop, drop-cons, reverse, add-one, sum, Option, Some, None, if◌then◌else◌, refl, sym, ap, ◌∙◌, inl, inr, arith}
use Rattle.std.specs.List.{find, range_with_len}
use Rattle.std.specs.Option.{option_map, option_or}
use Rattle.std.proofs.Math.ListN.{drop_of_length-le}
use Rattle.std.proofs.lemmas.List.{take_more, reverse-append}
use Rattle.std.proofs.lemmas.Bool.{cases_eq, and_parts, leb-true, ltb-false, le-ltb, lt-ltb}
use Rattle.std.proofs.lemmas.Bool.Decides.{nat_tests}
use Rattle.ref_tiles.specs.Counting.{no_tiles}
use Rattle.ref_tiles.specs.Limits.{most_tiles}
use Rattle.ref_tiles.specs.declared.rulebook.Rules.{Rules}
use Rattle.gcg_read.specs.Players.{other_seat, same_seat}
use Rattle.gcg_read.specs.declared.events.Seat.{Seat}
use Rattle.gcg_read.specs.declared.events.Seat.TheVariants.{First, Second}
use Rattle.deal_steps.specs.declared.steps.Motion.{Motion}
use Rattle.deal_steps.specs.declared.steps.Motion.TheVariants as motion
use Rattle.deal_steps.specs.declared.steps.Act.{Act}
use Rattle.deal_steps.specs.declared.steps.Act.TheVariants as act
use Rattle.deal_steps.specs.declared.steps.Step.{Step}
use Rattle.deal_steps.specs.declared.faults.DealBound.{DealBound}
use Rattle.deal_steps.specs.declared.faults.DealBound.TheVariants as fault
use Rattle.deal_steps.specs.declared.known.Known.{Known}
use Rattle.deal_steps.specs.Piles.{kinds, joined, without, greater}
use Rattle.deal_steps.specs.Steps.{used_by, remaining_by, laid_by, thrown_by, of_act, is_unknown, throws_unknown, needed_of, size_of}
use Rattle.ref_tiles.specs.Kinds.{kind_at}
use Rattle.deal_steps.specs.Bounds.{gone, low, low_at, laid, laid_earlier, thrown, held, raised, is_too_big, short_kind, bound_of, bound_for, bound_at, first_bound_after}
use Rattle.deal_steps.specs.Knowing.{known_of, with_known, raised_by, IsKnown, IsShown, short_of, excess_of, excess, shown_by, turned_by, moved_by, HasRoom}
use Rattle.deal_steps.proofs.PileLaws.{joined_is, get-joined, get-without, get-greater, get-no_tiles, length-joined, length-without, length-greater, length-no_tiles, sum-joined, sum_is, part_of_kinds}

-- ---- numbers

number_in : (xs a b : List ℕ) (k : ℕ) → xs ≡ joined a b → k < 27 → get_or xs k 0 ≡ get_or a k 0 + get_or b k 0
number_in xs a b k e below = ap (λ (ys : List ℕ). get_or ys k 0) e ∙ get-joined a b k below

pub nothing_new : (low known gone : List ℕ) → low ≡ joined known gone → low ≡ joined known (joined gone no_tiles)
nothing_new low known gone e =
    joined_is low known (joined gone no_tiles) (ap length e ∙ length-joined known gone) (λ k below.
    let whole = number_in low known gone k e below in
    let more = get-joined gone no_tiles k below in
    let none = get-no_tiles k below in
    omega (arith, whole, more, none))

-- a moment shows tiles, of which some leave
pub tiles_shown : (low known gone tiles remaining : List ℕ) → low ≡ joined known gone → ((k : ℕ) → k < 27 → get_or remaining k 0 ≤ get_or tiles k 0)
    → greater low (joined gone tiles) ≡ joined (without (greater known tiles) remaining) (joined gone remaining)
tiles_shown low known gone tiles remaining e fewer =
    joined_is (greater low (joined gone tiles)) (without (greater known tiles) remaining) (joined gone remaining) (length-greater low (joined gone tiles)) (λ k below.
    let whole = number_in low known gone k e below in
    let most = get-greater low (joined gone tiles) k below in
    let shown = get-joined gone tiles k below in
    let rest = get-without (greater known tiles) remaining k below in
    let now = get-greater known tiles k below in
    let off = get-joined gone remaining k below in
    let some = fewer k below in
    omega (arith, whole, most, shown, rest, now, off, some))

-- and none leave
pub tiles_stay : (low known gone tiles : List ℕ) → low ≡ joined known gone → greater low (joined gone tiles) ≡ joined (greater known tiles) (joined gone no_tiles)
tiles_stay low known gone tiles e =
    joined_is (greater low (joined gone tiles)) (greater known tiles) (joined gone no_tiles) (length-greater low (joined gone tiles)) (λ k below.
    let whole = number_in low known gone k e below in
    let most = get-greater low (joined gone tiles) k below in
    let shown = get-joined gone tiles k below in
    let now = get-greater known tiles k below in
    let off = get-joined gone no_tiles k below in
    let none = get-no_tiles k below in
    omega (arith, whole, most, shown, now, off, none))

pub new_epoch : no_tiles ≡ joined no_tiles no_tiles
new_epoch = joined_is no_tiles no_tiles no_tiles length-no_tiles (λ k below. let none = get-no_tiles k below in omega (arith, none))

-- the tiles of a moment, none of which leaves yet
pub tiles_raised : (low known gone tiles : List ℕ) → low ≡ joined known gone → greater low (joined gone tiles) ≡ joined (greater known tiles) gone
tiles_raised low known gone tiles e =
    joined_is (greater low (joined gone tiles)) (greater known tiles) gone (length-greater low (joined gone tiles)) (λ k below.
    let whole = number_in low known gone k e below in
    let most = get-greater low (joined gone tiles) k below in
    let shown = get-joined gone tiles k below in
    let now = get-greater known tiles k below in
    omega (arith, whole, most, shown, now))

-- what is used is shown
pub used_is_shown : (shown used : List ℕ) (k : ℕ) → k < 27 → get_or used k 0 ≤ get_or (greater shown used) k 0
used_is_shown shown used k below = let most = get-greater shown used k below in omega (arith, most)

-- ---- what is known about a player, step by step

-- a player's tiles after a change of one player's
set_known : (known : Known) (seat : Seat) (tiles : List ℕ) → known_of (with_known known seat tiles) seat ≡ tiles
set_known known First tiles = refl
set_known known Second tiles = refl

kept_known : (known : Known) (seat : Seat) (tiles : List ℕ) → known_of (with_known known (other_seat seat) tiles) seat ≡ known_of known seat
kept_known known First tiles = refl
kept_known known Second tiles = refl

-- a player's own turn
own_turn : (seat : Seat) (shown : List ℕ) (what : Motion) (low gone : List ℕ) (known : Known) → low ≡ joined (known_of known seat) gone
    → (if is_unknown what then no_tiles else greater low (joined gone (greater shown (used_by what))))
    ≡ joined (known_of (turned_by seat what (raised_by seat (greater shown (used_by what)) known)) seat) (if is_unknown what then no_tiles else joined gone (remaining_by what))
own_turn seat shown motion.Keeps low gone known e =
    let tiles = greater shown no_tiles in
    rw (set_known known seat (greater (known_of known seat) tiles)) (tiles_stay low (known_of known seat) gone tiles e)
own_turn seat shown (motion.Lays used drawn) low gone known e =
    let tiles = greater shown used in
    let raised = raised_by seat tiles known in
    let rest = without (known_of raised seat) used in
    rw (set_known raised seat rest, set_known known seat (greater (known_of known seat) tiles))
    (tiles_shown low (known_of known seat) gone tiles used e (used_is_shown shown used))
own_turn seat shown (motion.Tries used) low gone known e =
    let tiles = greater shown used in
    rw (set_known known seat (greater (known_of known seat) tiles)) (tiles_stay low (known_of known seat) gone tiles e)
own_turn seat shown (motion.Throws thrown) low gone known e =
    let tiles = greater shown thrown in
    let raised = raised_by seat tiles known in
    rw (set_known raised seat (without (known_of raised seat) thrown), set_known known seat (greater (known_of known seat) tiles))
    (tiles_shown low (known_of known seat) gone tiles thrown e (used_is_shown shown thrown))
own_turn seat shown (motion.ThrowsUnknown n) low gone known e =
    rw (set_known (raised_by seat (greater shown no_tiles) known) seat no_tiles) new_epoch

-- a turn of the other player
other_turn : (seat : Seat) (what : Motion) (known : Known) → known_of (turned_by (other_seat seat) what known) seat ≡ known_of known seat
other_turn seat motion.Keeps known = refl
other_turn seat (motion.Lays used drawn) known = kept_known known seat (without (known_of known (other_seat seat)) used)
other_turn seat (motion.Tries used) known = refl
other_turn seat (motion.Throws tiles) known = kept_known known seat (without (known_of known (other_seat seat)) tiles)
other_turn seat (motion.ThrowsUnknown n) known = kept_known known seat no_tiles

not_own : (seat : Seat) (shown : List ℕ) (what : Motion) (low gone : List ℕ) (known : Known) → low ≡ joined (known_of known seat) gone
    → low ≡ joined (known_of (turned_by (other_seat seat) what (raised_by (other_seat seat) shown known)) seat) (joined gone no_tiles)
not_own seat shown what low gone known e =
    let other = other_seat seat in
    rw (other_turn seat what (raised_by other shown known), kept_known known seat (greater (known_of known other) shown)) (nothing_new low (known_of known seat) gone e)

-- an act that is not a turn, whoever makes it
no_turn : (own : Bool) (low known gone : List ℕ) → low ≡ joined known (joined gone no_tiles)
    → (if own && false then no_tiles else low) ≡ joined known (if own && false then no_tiles else joined gone (if own then no_tiles else no_tiles))
no_turn true low known gone e = e
no_turn false low known gone e = e

pub side_known : (seat player : Seat) (what : Act) (low gone : List ℕ) (known : Known) → low ≡ joined (known_of known seat) gone
    → (if same_seat player seat && throws_unknown what then no_tiles else raised gone low (needed_of seat player what))
    ≡ joined (known_of (moved_by player what (shown_by player what known)) seat)
    (if same_seat player seat && throws_unknown what then no_tiles else joined gone (if same_seat player seat then of_act remaining_by what else no_tiles))
side_known First First (act.Turns shown what) low gone known e = own_turn First shown what low gone known e
side_known First Second (act.Turns shown what) low gone known e = not_own First (greater shown (used_by what)) what low gone known e
side_known Second First (act.Turns shown what) low gone known e = not_own Second (greater shown (used_by what)) what low gone known e
side_known Second Second (act.Turns shown what) low gone known e = own_turn Second shown what low gone known e
side_known seat player (act.TakesBack used) low gone known e = no_turn (same_seat player seat) low (known_of known seat) gone (nothing_new low (known_of known seat) gone e)
side_known First player (act.Ends First tiles) low gone known e =
    no_turn (same_seat player First) (greater low (joined gone tiles)) (greater known.first tiles) gone (tiles_stay low known.first gone tiles e)
side_known First player (act.Ends Second tiles) low gone known e = no_turn (same_seat player First) low known.first gone (nothing_new low known.first gone e)
side_known Second player (act.Ends First tiles) low gone known e = no_turn (same_seat player Second) low known.second gone (nothing_new low known.second gone e)
side_known Second player (act.Ends Second tiles) low gone known e =
    no_turn (same_seat player Second) (greater low (joined gone tiles)) (greater known.second tiles) gone (tiles_stay low known.second gone tiles e)
side_known seat player act.Rests low gone known e = no_turn (same_seat player seat) low (known_of known seat) gone (nothing_new low (known_of known seat) gone e)

pub side_shown : (seat player : Seat) (what : Act) (low gone : List ℕ) (known : Known) → low ≡ joined (known_of known seat) gone
    → raised gone low (needed_of seat player what) ≡ joined (known_of (shown_by player what known) seat) gone
side_shown First First (act.Turns shown what) low gone known e = tiles_raised low known.first gone (greater shown (used_by what)) e
side_shown First Second (act.Turns shown what) low gone known e = e
side_shown Second First (act.Turns shown what) low gone known e = e
side_shown Second Second (act.Turns shown what) low gone known e = tiles_raised low known.second gone (greater shown (used_by what)) e
side_shown First player (act.TakesBack used) low gone known e = e
side_shown First player (act.Ends First tiles) low gone known e = tiles_raised low known.first gone tiles e
side_shown First player (act.Ends Second tiles) low gone known e = e
side_shown First player act.Rests low gone known e = e
side_shown Second player (act.TakesBack used) low gone known e = e
side_shown Second player (act.Ends First tiles) low gone known e = e
side_shown Second player (act.Ends Second tiles) low gone known e = tiles_raised low known.second gone tiles e
side_shown Second player act.Rests low gone known e = e

-- ---- the tiles on the board

parts_laid : (laid first second used own others : List ℕ) → laid ≡ joined first second → ((k : ℕ) → k < 27 → get_or used k 0 ≡ get_or own k 0 + get_or others k 0)
    → joined laid used ≡ joined (joined first own) (joined second others)
parts_laid laid first second used own others e parts =
    joined_is (joined laid used) (joined first own) (joined second others) (length-joined laid used) (λ k below.
    let whole = number_in laid first second k e below in
    let now = get-joined laid used k below in
    let one = get-joined first own k below in
    let two = get-joined second others k below in
    let sum = parts k below in
    omega (arith, whole, now, one, two, sum))

first_laid : (laid first second used : List ℕ) → laid ≡ joined first second → joined laid used ≡ joined (joined first used) (joined second no_tiles)
first_laid laid first second used e = parts_laid laid first second used used no_tiles e (λ k below. let none = get-no_tiles k below in omega (arith, none))

second_laid : (laid first second used : List ℕ) → laid ≡ joined first second → joined laid used ≡ joined (joined first no_tiles) (joined second used)
second_laid laid first second used e = parts_laid laid first second used no_tiles used e (λ k below. let none = get-no_tiles k below in omega (arith, none))

none_laid : (laid first second : List ℕ) → laid ≡ joined first second → laid ≡ joined (joined first no_tiles) (joined second no_tiles)
none_laid laid first second e =
    joined_is laid (joined first no_tiles) (joined second no_tiles) (ap length e ∙ length-joined first second) (λ k below.
    let whole = number_in laid first second k e below in
    let one = get-joined first no_tiles k below in
    let two = get-joined second no_tiles k below in
    let none = get-no_tiles k below in
    omega (arith, whole, one, two, none))

-- the tiles of a player's step, which lie with those of both players
player_laid : (player : Seat) (laid first second used : List ℕ) → laid ≡ joined first second
    → joined laid used ≡ joined (joined first (if same_seat player First then used else no_tiles)) (joined second (if same_seat player Second then used else no_tiles))
player_laid First laid first second used e = first_laid laid first second used e
player_laid Second laid first second used e = second_laid laid first second used e

nothing_laid : (player : Seat) (laid first second : List ℕ) → laid ≡ joined first second
    → laid ≡ joined (joined first (if same_seat player First then no_tiles else no_tiles)) (joined second (if same_seat player Second then no_tiles else no_tiles))
nothing_laid First laid first second e = none_laid laid first second e
nothing_laid Second laid first second e = none_laid laid first second e

same_laid : (known : Known) (seat : Seat) (tiles : List ℕ) → (with_known known seat tiles).laid ≡ known.laid
same_laid known First tiles = refl
same_laid known Second tiles = refl

pub laid_known : (player : Seat) (what : Act) (first second : List ℕ) (known : Known) → known.laid ≡ joined first second
    → (moved_by player what (shown_by player what known)).laid
    ≡ joined (joined first (if same_seat player First then of_act laid_by what else no_tiles)) (joined second (if same_seat player Second then of_act laid_by what else no_tiles))
laid_known player (act.Turns shown what) first second known e = by what (same_laid known player (greater (known_of known player) (greater shown (used_by what))))
  where
    by : (what : Motion) → (raised_by player (greater shown (used_by what)) known).laid ≡ known.laid
        → (turned_by player what (raised_by player (greater shown (used_by what)) known)).laid
        ≡ joined (joined first (if same_seat player First then laid_by what else no_tiles)) (joined second (if same_seat player Second then laid_by what else no_tiles))
    by motion.Keeps same = same ∙ nothing_laid player known.laid first second e
    by (motion.Lays used drawn) same = ap (λ laid. joined laid used) same ∙ player_laid player known.laid first second used e
    by (motion.Tries used) same = same ∙ nothing_laid player known.laid first second e
    by (motion.Throws tiles) same =
        let raised = raised_by player (greater shown tiles) known in
        same_laid raised player (without (known_of raised player) tiles) ∙ same ∙ nothing_laid player known.laid first second e
    by (motion.ThrowsUnknown n) same =
        same_laid (raised_by player (greater shown no_tiles) known) player no_tiles ∙ same ∙ nothing_laid player known.laid first second e
laid_known player (act.TakesBack used) first second known e = nothing_laid player known.laid first second e
laid_known player (act.Ends holder tiles) first second known e =
    same_laid known holder (greater (known_of known holder) tiles) ∙ nothing_laid player known.laid first second e
laid_known player act.Rests first second known e = nothing_laid player known.laid first second e

-- ---- epochs

-- the tiles that leave a rack are those that are laid and those that are thrown
even_after : (earlier gone laid thrown remaining used tiles : List ℕ) (k : ℕ) → k < 27 → get_or earlier k 0 + get_or gone k 0 ≡ get_or laid k 0 + get_or thrown k 0
    → get_or remaining k 0 ≡ get_or used k 0 + get_or tiles k 0
    → get_or earlier k 0 + get_or (joined gone remaining) k 0 ≡ get_or (joined laid used) k 0 + get_or (joined thrown tiles) k 0
even_after earlier gone laid thrown remaining used tiles k below e parts =
    let one = get-joined gone remaining k below in
    let two = get-joined laid used k below in
    let three = get-joined thrown tiles k below in
    omega (arith, e, parts, one, two, three)

even_stays : (earlier gone laid thrown : List ℕ) (k : ℕ) → k < 27 → get_or earlier k 0 + get_or gone k 0 ≡ get_or laid k 0 + get_or thrown k 0
    → get_or earlier k 0 + get_or (joined gone no_tiles) k 0 ≡ get_or (joined laid no_tiles) k 0 + get_or (joined thrown no_tiles) k 0
even_stays earlier gone laid thrown k below e =
    even_after earlier gone laid thrown no_tiles no_tiles no_tiles k below e (let none = get-no_tiles k below in omega (arith, none))

even_anew : (laid : List ℕ) (k : ℕ) → k < 27 → get_or laid k 0 + get_or no_tiles k 0 ≡ get_or (joined laid no_tiles) k 0 + get_or no_tiles k 0
even_anew laid k below =
    let now = get-joined laid no_tiles k below in
    let none = get-no_tiles k below in
    omega (arith, now, none)

pub epoch_step : (seat player : Seat) (what : Act) (earlier gone laid thrown : List ℕ) (k : ℕ) → k < 27 → get_or earlier k 0 + get_or gone k 0 ≡ get_or laid k 0 + get_or thrown k 0
    → get_or (if same_seat player seat && throws_unknown what then laid else earlier) k 0
    + get_or (if same_seat player seat && throws_unknown what then no_tiles else joined gone (if same_seat player seat then of_act remaining_by what else no_tiles)) k 0
    ≡ get_or (joined laid (if same_seat player seat then of_act laid_by what else no_tiles)) k 0
    + get_or (if same_seat player seat && throws_unknown what then no_tiles else joined thrown (if same_seat player seat then of_act thrown_by what else no_tiles)) k 0
epoch_step seat player what earlier gone laid thrown k below e = by (same_seat player seat) what
  where
    by : (own : Bool) (what : Act)
        → get_or (if own && throws_unknown what then laid else earlier) k 0
        + get_or (if own && throws_unknown what then no_tiles else joined gone (if own then of_act remaining_by what else no_tiles)) k 0
        ≡ get_or (joined laid (if own then of_act laid_by what else no_tiles)) k 0
        + get_or (if own && throws_unknown what then no_tiles else joined thrown (if own then of_act thrown_by what else no_tiles)) k 0
    by false what = even_stays earlier gone laid thrown k below e
    by true (act.Turns shown motion.Keeps) = even_stays earlier gone laid thrown k below e
    by true (act.Turns shown (motion.Lays used drawn)) =
        even_after earlier gone laid thrown used used no_tiles k below e (let none = get-no_tiles k below in omega (arith, none))
    by true (act.Turns shown (motion.Tries used)) = even_stays earlier gone laid thrown k below e
    by true (act.Turns shown (motion.Throws tiles)) =
        even_after earlier gone laid thrown tiles no_tiles tiles k below e (let none = get-no_tiles k below in omega (arith, none))
    by true (act.Turns shown (motion.ThrowsUnknown n)) = even_anew laid k below
    by true (act.TakesBack used) = even_stays earlier gone laid thrown k below e
    by true (act.Ends holder tiles) = even_stays earlier gone laid thrown k below e
    by true act.Rests = even_stays earlier gone laid thrown k below e

-- what a player laid before the present epoch, plus what left the rack in it, is all that was laid plus what was thrown in it
pub in_epoch : (seat : Seat) (past : List Step) (k : ℕ) → k < 27 → get_or (laid_earlier seat past) k 0 + get_or (gone seat past) k 0 ≡ get_or (laid seat past) k 0 + get_or (thrown seat past) k 0
in_epoch seat [] k below = refl
in_epoch seat (s ∷ past) k below =
    epoch_step seat s.player s.act (laid_earlier seat past) (gone seat past) (laid seat past) (thrown seat past) k below (in_epoch seat past k below)

-- ---- lengths

length-if : (b : Bool) (xs ys : List ℕ) → length xs ≡ 27 → length ys ≡ 27 → length (if b then xs else ys) ≡ 27
length-if true xs ys e f = e
length-if false xs ys e f = f

pub length-gone : (seat : Seat) (past : List Step) → length (gone seat past) ≡ 27
length-gone seat [] = length-no_tiles
length-gone seat (s ∷ past) = length-if _ no_tiles _ length-no_tiles (length-joined (gone seat past) _)

pub shown_first_long : (player : Seat) (what : Act) (known : Known) → length known.first ≡ 27 → length (shown_by player what known).first ≡ 27
shown_first_long First (act.Turns shown what) known e = length-greater known.first _
shown_first_long Second (act.Turns shown what) known e = e
shown_first_long player (act.TakesBack used) known e = e
shown_first_long player (act.Ends First tiles) known e = length-greater known.first tiles
shown_first_long player (act.Ends Second tiles) known e = e
shown_first_long player act.Rests known e = e

pub shown_second_long : (player : Seat) (what : Act) (known : Known) → length known.second ≡ 27 → length (shown_by player what known).second ≡ 27
shown_second_long First (act.Turns shown what) known e = e
shown_second_long Second (act.Turns shown what) known e = length-greater known.second _
shown_second_long player (act.TakesBack used) known e = e
shown_second_long player (act.Ends First tiles) known e = e
shown_second_long player (act.Ends Second tiles) known e = length-greater known.second tiles
shown_second_long player act.Rests known e = e

moved_first_long : (player : Seat) (what : Act) (known : Known) → length known.first ≡ 27 → length (moved_by player what known).first ≡ 27
moved_first_long player (act.Turns shown motion.Keeps) known e = e
moved_first_long First (act.Turns shown (motion.Lays used drawn)) known e = length-without known.first used
moved_first_long Second (act.Turns shown (motion.Lays used drawn)) known e = e
moved_first_long player (act.Turns shown (motion.Tries used)) known e = e
moved_first_long First (act.Turns shown (motion.Throws tiles)) known e = length-without known.first tiles
moved_first_long Second (act.Turns shown (motion.Throws tiles)) known e = e
moved_first_long First (act.Turns shown (motion.ThrowsUnknown n)) known e = length-no_tiles
moved_first_long Second (act.Turns shown (motion.ThrowsUnknown n)) known e = e
moved_first_long player (act.TakesBack used) known e = e
moved_first_long player (act.Ends holder tiles) known e = e
moved_first_long player act.Rests known e = e

moved_second_long : (player : Seat) (what : Act) (known : Known) → length known.second ≡ 27 → length (moved_by player what known).second ≡ 27
moved_second_long player (act.Turns shown motion.Keeps) known e = e
moved_second_long First (act.Turns shown (motion.Lays used drawn)) known e = e
moved_second_long Second (act.Turns shown (motion.Lays used drawn)) known e = length-without known.second used
moved_second_long player (act.Turns shown (motion.Tries used)) known e = e
moved_second_long First (act.Turns shown (motion.Throws tiles)) known e = e
moved_second_long Second (act.Turns shown (motion.Throws tiles)) known e = length-without known.second tiles
moved_second_long First (act.Turns shown (motion.ThrowsUnknown n)) known e = e
moved_second_long Second (act.Turns shown (motion.ThrowsUnknown n)) known e = length-no_tiles
moved_second_long player (act.TakesBack used) known e = e
moved_second_long player (act.Ends holder tiles) known e = e
moved_second_long player act.Rests known e = e

-- what is shown does not change the board
pub shown_laid : (player : Seat) (what : Act) (known : Known) → (shown_by player what known).laid ≡ known.laid
shown_laid First (act.Turns shown what) known = refl
shown_laid Second (act.Turns shown what) known = refl
shown_laid player (act.TakesBack used) known = refl
shown_laid player (act.Ends First tiles) known = refl
shown_laid player (act.Ends Second tiles) known = refl
shown_laid player act.Rests known = refl

-- ---- the first kind with a property

find_range : (p q : ℕ → Bool) (a n : ℕ) → ((k : ℕ) → a ≤ k → k < a + n → p k ≡ q k) → find p (range_with_len a n) ≡ find q (range_with_len a n)
find_range p q a zero same = refl
find_range p q a (suc n) same =
    let here = same a (omega arith) (omega arith) in
    let more = find_range p q (a + 1) n (λ k after before. same k (omega arith) (omega arith)) in
    rw here (rw more refl)

pub find_kind : (p q : ℕ → Bool) → ((k : ℕ) → k < 27 → p k ≡ q k) → find p kinds ≡ find q kinds
unfolding kinds
find_kind p q same = find_range p q 0 27 (λ k after before. same k before)

pub find_none : (p : ℕ → Bool) (a n : ℕ) → find p (range_with_len a n) ≡ None → (k : ℕ) → a ≤ k → k < a + n → p k ≡ false
find_none p a zero e k after before = absurd (omega arith)
find_none p a (suc n) e k after before = by (p a) refl e (λ f past. find_none p (a + 1) n f k past (omega arith))
  where
    by : (b : Bool) → p a ≡ b → cond b (Some a) (find p (range_with_len (a + 1) n)) ≡ None
        → (find p (range_with_len (a + 1) n) ≡ None → a + 1 ≤ k → p k ≡ false) → p k ≡ false
    by true is f more = absurd cc
    by false is f more =
        elim (cases_eq k a) [
          | inl same ↦ rw same is
          | inr other ↦ more f (omega (arith, other))
        ]

pub find_none_is : (p : ℕ → Bool) (a n : ℕ) → ((k : ℕ) → k < a + n → p k ≡ false) → find p (range_with_len a n) ≡ None
find_none_is p a zero none = refl
find_none_is p a (suc n) none =
    let here = none a (omega arith) in
    let more = find_none_is p (a + 1) n (λ k below. none k (omega arith)) in
    rw here more

-- the first kind with a property is found, if no kind before it has it
find_at : (p : ℕ → Bool) (a n k : ℕ) → a ≤ k → k < a + n → ((j : ℕ) → a ≤ j → j < k → p j ≡ false) → p k ≡ true → find p (range_with_len a n) ≡ Some k
find_at p a zero k after before none is = absurd (omega arith)
find_at p a (suc n) k after before none is =
    elim (cases_eq k a) [
      | inl same ↦ let here : p a ≡ true = rw (sym same) is in rw here (ap Some (sym same))
      | inr other ↦
          let here = none a (omega arith) (omega (arith, other)) in
          let more = find_at p (a + 1) n k (omega (arith, other)) (omega arith) (λ j past below. none j (omega arith) below) is in
          rw here more
    ]

-- ---- the bounds at a moment

-- a player's rack is too small for what is known about it exactly when it is too small for what the moments have shown
size_test : (low known gone : List ℕ) (size : ℕ) → low ≡ joined known gone → length known ≡ 27 → length gone ≡ 27
    → nat_lt size (sum known) ≡ nat_lt (sum gone + size) (sum low)
size_test low known gone size e long long2 =
    let total : sum low ≡ sum known + sum gone = ap sum e ∙ sum-joined known gone long long2 in
    grind (arith, nat_tests, total)

-- what a player has on the board and must have on the rack
held_number : (earlier low thrown gone laid known : List ℕ) (k : ℕ) → k < 27 → low ≡ joined known gone
    → get_or earlier k 0 + get_or gone k 0 ≡ get_or laid k 0 + get_or thrown k 0
    → get_or (without (joined earlier low) thrown) k 0 ≡ get_or laid k 0 + get_or known k 0
held_number earlier low thrown gone laid known k below e even =
    let whole = number_in low known gone k e below in
    let rest = get-without (joined earlier low) thrown k below in
    let both = get-joined earlier low k below in
    omega (arith, whole, rest, both, even)

short_test : (counts : ℕ) (first second all x y : ℕ) (a b : ℕ) → x ≡ a + first → y ≡ b + second → all ≡ a + b
    → nat_lt counts (all + first + second) ≡ nat_lt counts (x + y)
short_test counts first second all x y a b e f g = grind (arith, nat_tests, e, f, g)

short_test_back : (counts : ℕ) (first second all x y : ℕ) (a b : ℕ) → x ≡ a + first → y ≡ b + second → all ≡ a + b
    → nat_lt counts (all + first + second) ≡ nat_lt counts (y + x)
short_test_back counts first second all x y a b e f g = grind (arith, nat_tests, e, f, g)

held_is : (seat : Seat) (s : Step) (past : List Step) (known : List ℕ) → low_at seat s past ≡ joined known (gone seat past)
    → (k : ℕ) → k < 27 → get_or (held seat s past) k 0 ≡ get_or (laid seat past) k 0 + get_or known k 0
held_is seat s past known e k below =
    held_number (laid_earlier seat past) (low_at seat s past) (thrown seat past) (gone seat past) (laid seat past) known k below e (in_epoch seat past k below)

same_short : (rules : Rules) (seat : Seat) (s : Step) (past : List Step) (known : Known) → IsShown s past known → short_of rules known ≡ short_kind rules seat s past
same_short rules First s past known shown =
    find_kind _ _ (λ k below.
    short_test _ _ _ _ _ _ _ _ (held_is First s past known.first shown.first k below) (held_is Second s past known.second shown.second k below)
    (number_in known.laid (laid First past) (laid Second past) k shown.laid_is below))
same_short rules Second s past known shown =
    find_kind _ _ (λ k below.
    short_test_back _ _ _ _ _ _ _ _ (held_is First s past known.first shown.first k below) (held_is Second s past known.second shown.second k below)
    (number_in known.laid (laid First past) (laid Second past) k shown.laid_is below))

same_size : (seat : Seat) (s : Step) (past : List Step) (known : Known) → IsShown s past known
    → nat_lt (size_of s seat) (sum (known_of known seat)) ≡ is_too_big seat s past
same_size First s past known shown = size_test (low_at First s past) known.first (gone First past) s.first shown.first shown.first_long (length-gone First past)
same_size Second s past known shown = size_test (low_at Second s past) known.second (gone Second past) s.second shown.second shown.second_long (length-gone Second past)

-- the answer of both tests
fault_of : Step → Bool → Option ℕ → Option DealBound
fault_of s big short = if big then Some (fault.RackTooBig s.line) else option_map (λ k. fault.TilesShort s.line (kind_at k)) short

same_bound : (rules : Rules) (seat : Seat) (s : Step) (past : List Step) (known : Known) → IsShown s past known → excess_of rules seat s known ≡ bound_of rules seat s past
unfolding excess_of fault_of
same_bound rules seat s past known shown =
    let size = ap (λ (b : Bool). fault_of s b (short_of rules known)) (same_size seat s past known shown) in
    let short = ap (λ (o : Option ℕ). fault_of s (is_too_big seat s past) o) (same_short rules seat s past known shown) in
    size ∙ short

-- what is shown at a step, by what is known
pub shown_at : (s : Step) (past : List Step) (known : Known) → IsKnown past known → IsShown s past (shown_by s.player s.act known)
shown_at s past known is =
    record {
      first = side_shown First s.player s.act (low First past) (gone First past) known is.first;
      second = side_shown Second s.player s.act (low Second past) (gone Second past) known is.second;
      laid_is = shown_laid s.player s.act known ∙ is.laid_is;
      first_long = shown_first_long s.player s.act known is.first_long;
      second_long = shown_second_long s.player s.act known is.second_long;
    }

-- the bound that is exceeded at a step, by what is known
pub known_bound : (rules : Rules) (s : Step) (past : List Step) (known : Known) → IsKnown past known
    → excess rules s s.act (shown_by s.player s.act known) ≡ bound_at rules s past
unfolding bound_at
known_bound rules s past known is = by s.act (shown_by s.player s.act known) (shown_at s past known is)
  where
    by : (what : Act) (now : Known) → IsShown s past now → excess rules s what now ≡ bound_for rules s past what
    by (act.Turns shown what) now shows = same_bound rules s.player s past now shows
    by (act.TakesBack used) now shows = refl
    by (act.Ends holder tiles) now shows = same_bound rules holder s past now shows
    by act.Rests now shows = refl

-- what is known after a step
pub known_after : (s : Step) (past : List Step) (known : Known) → IsKnown past known
    → IsKnown (s ∷ past) (moved_by s.player s.act (shown_by s.player s.act known))
known_after s past known is =
    record {
      first = side_known First s.player s.act (low First past) (gone First past) known is.first;
      second = side_known Second s.player s.act (low Second past) (gone Second past) known is.second;
      laid_is = laid_known s.player s.act (laid First past) (laid Second past) known is.laid_is;
      first_long = moved_first_long s.player s.act (shown_by s.player s.act known) (shown_first_long s.player s.act known is.first_long);
      second_long = moved_second_long s.player s.act (shown_by s.player s.act known) (shown_second_long s.player s.act known is.second_long);
    }

-- ---- room for the tiles on the board

-- a game has fewer tiles of a kind than a byte counts
pub few_counts : (rules : Rules) → length rules.counts ≡ 27 → (k : ℕ) → k < 27 → get_or rules.counts k 0 < 256
unfolding most_tiles
few_counts rules long k below =
    let limits = (and_parts (nat_le 14 (sum rules.counts)) (nat_le (sum rules.counts) most_tiles) rules.tiles_in_limits).1 in
    let total = leb-true (sum rules.counts) most_tiles limits in
    let sums = sum_is rules.counts long in
    let part = part_of_kinds (λ j. get_or rules.counts j 0) k below in
    omega (arith, total, sums, part)

none_short : (rules : Rules) (known : Known) → short_of rules known ≡ None
    → (k : ℕ) → k < 27 → get_or known.laid k 0 + get_or known.first k 0 + get_or known.second k 0 ≤ get_or rules.counts k 0
unfolding kinds
none_short rules known e k below =
    ltb-false _ _ (find_none (λ j. nat_lt (get_or rules.counts j 0) (get_or known.laid j 0 + get_or known.first j 0 + get_or known.second j 0)) 0 27 e k (omega arith) below)

not_short : (rules : Rules) (seat : Seat) (s : Step) (known : Known) → excess_of rules seat s known ≡ None → short_of rules known ≡ None
unfolding excess_of
not_short rules seat s known e = by (nat_lt (size_of s seat) (sum (known_of known seat))) (short_of rules known) e
  where
    by : (big : Bool) (short : Option ℕ) → cond big (Some (fault.RackTooBig s.line)) (option_map (λ k. fault.TilesShort s.line (kind_at k)) short) ≡ None → short ≡ None
    by true short e = absurd cc
    by false None e = refl
    by false (Some k) e = absurd cc

room_beside : (rules : Rules) (laid known shown used : List ℕ) → length rules.counts ≡ 27
    → (k : ℕ) → k < 27 → get_or laid k 0 + get_or (greater known (greater shown used)) k 0 ≤ get_or rules.counts k 0 → get_or laid k 0 + get_or used k 0 < 256
room_beside rules laid known shown used long k below all =
    let more = get-greater known (greater shown used) k below in
    let most = get-greater shown used k below in
    let few = few_counts rules long k below in
    omega (arith, all, more, most, few)

room_for_used : (rules : Rules) (player : Seat) (shown used : List ℕ) (known : Known) → length rules.counts ≡ 27
    → short_of rules (raised_by player (greater shown used) known) ≡ None
    → (k : ℕ) → k < 27 → get_or (raised_by player (greater shown used) known).laid k 0 + get_or used k 0 < 256
room_for_used rules First shown used known long e k below =
    let all = none_short rules (raised_by First (greater shown used) known) e k below in
    room_beside rules known.laid known.first shown used long k below (omega (arith, all))
room_for_used rules Second shown used known long e k below =
    let all = none_short rules (raised_by Second (greater shown used) known) e k below in
    room_beside rules known.laid known.second shown used long k below (omega (arith, all))

room_by : (rules : Rules) (s : Step) (player : Seat) (what : Act) (known : Known) → length rules.counts ≡ 27
    → excess rules s what (shown_by player what known) ≡ None → HasRoom what (shown_by player what known).laid
room_by rules s player (act.Turns shown motion.Keeps) known long e = tt
room_by rules s player (act.Turns shown (motion.Lays used drawn)) known long e =
    room_for_used rules player shown used known long (not_short rules s.player s (raised_by player (greater shown used) known) e)
room_by rules s player (act.Turns shown (motion.Tries used)) known long e = tt
room_by rules s player (act.Turns shown (motion.Throws tiles)) known long e = tt
room_by rules s player (act.Turns shown (motion.ThrowsUnknown n)) known long e = tt
room_by rules s player (act.TakesBack used) known long e = tt
room_by rules s player (act.Ends holder tiles) known long e = tt
room_by rules s player act.Rests known long e = tt

pub room : (rules : Rules) (s : Step) (known : Known) → length rules.counts ≡ 27
    → excess rules s s.act (shown_by s.player s.act known) ≡ None → HasRoom s.act (shown_by s.player s.act known).laid
room rules s known long e = room_by rules s s.player s.act known long e

-- ---- no kind is short

pub no_short : (rules : Rules) (known : Known) → ((k : ℕ) → k < 27 → get_or known.laid k 0 + get_or known.first k 0 + get_or known.second k 0 ≤ get_or rules.counts k 0)
    → short_of rules known ≡ None
unfolding kinds
no_short rules known enough =
    find_none_is (λ j. nat_lt (get_or rules.counts j 0) (get_or known.laid j 0 + get_or known.first j 0 + get_or known.second j 0)) 0 27 (λ k below.
    le-ltb _ _ (enough k below))

-- ---- the first kind that is short

pub first_found : (rules : Rules) (known : Known) (k : ℕ) → k < 27
    → ((j : ℕ) → j < k → get_or known.laid j 0 + get_or known.first j 0 + get_or known.second j 0 ≤ get_or rules.counts j 0)
    → get_or rules.counts k 0 < get_or known.laid k 0 + get_or known.first k 0 + get_or known.second k 0 → short_of rules known ≡ Some k
unfolding kinds
first_found rules known k below before here =
    find_at _ 0 27 k (omega arith) below (λ j past less. le-ltb _ _ (before j less)) (lt-ltb _ _ here)

-- ---- steps, one by one

-- nothing is known at the start
unfoldable pub nothing_known : Known
nothing_known = record { first = no_tiles; second = no_tiles; laid = no_tiles }

pub known_at_start : IsKnown [] nothing_known
unfolding nothing_known
known_at_start = record { first = new_epoch; second = new_epoch; laid_is = new_epoch; first_long = length-no_tiles; second_long = length-no_tiles }

pub known_of_nothing : (first second laid : List ℕ) → first ≡ no_tiles → second ≡ no_tiles → laid ≡ no_tiles
    → IsKnown [] (record { first = first; second = second; laid = laid })
unfolding nothing_known
known_of_nothing first second laid is is2 is3 = rw is (rw is2 (rw is3 known_at_start))

-- what is known after a step that was taken
pub room_taken : (rules : Rules) (s : Step) (known now : Known) → length rules.counts ≡ 27 → now ≡ shown_by s.player s.act known
    → excess rules s s.act now ≡ None → HasRoom s.act now.laid
room_taken rules s known now long is none = rw is (room rules s known long (rw is at none))

pub bound_taken : (rules : Rules) (s : Step) (known now : Known) (past : List Step) → IsKnown past known → now ≡ shown_by s.player s.act known
    → excess rules s s.act now ≡ bound_at rules s past
bound_taken rules s known now past is shows = rw shows (known_bound rules s past known is)

pub known_taken : (s : Step) (known now new : Known) (past : List Step) → IsKnown past known → now ≡ shown_by s.player s.act known
    → new ≡ moved_by s.player s.act now → IsKnown (s ∷ past) new
known_taken s known now new past is shows moves = rw moves (rw shows (known_after s past known is))

pub shown_taken : (s : Step) (known now : Known) (past : List Step) → IsKnown past known → now ≡ shown_by s.player s.act known → IsShown s past now
shown_taken s known now past is shows = rw shows (shown_at s past known is)

-- the steps before a place, the latest first
abbrev pub past_at : List Step → ℕ → List Step
past_at steps i = reverse (take i steps)

pub past_more : (steps : List Step) (i : ℕ) (s : Step) → i < length steps → s ≡ get_or steps i s → past_at steps (i + 1) ≡ s ∷ past_at steps i
past_more steps i s inside is =
    ap reverse (take_more steps i s inside) ∙ reverse-append (take i steps) (get_or steps i s ∷ []) ∙ ap (λ (x : Step). x ∷ past_at steps i) (sym is)

-- the first bound from a place on
abbrev pub bound_from : Rules → List Step → ℕ → Option DealBound
bound_from rules steps i = first_bound_after rules (past_at steps i) (drop i steps)

pub bound_more : (rules : Rules) (steps : List Step) (i : ℕ) (s : Step) → i < length steps → s ≡ get_or steps i s
    → bound_from rules steps i ≡ option_or (bound_at rules s (past_at steps i)) (bound_from rules steps (i + 1))
bound_more rules steps i s inside is =
    let rest : drop i steps ≡ s ∷ drop (suc i) steps = drop-cons steps i s inside ∙ ap (λ (x : Step). x ∷ drop (suc i) steps) (sym is) in
    rw (past_more steps i s inside is) (rw (add-one i) (rw rest refl))

pub bound_at_end : (rules : Rules) (steps : List Step) (i : ℕ) → length steps ≤ i → bound_from rules steps i ≡ None
bound_at_end rules steps i past = rw (drop_of_length-le steps past) refl
