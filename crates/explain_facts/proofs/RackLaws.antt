-- What lines show about racks.
use Rattle.std.proofs.Common.{◌≡◌, ◌⊎◌, inl, inr, ◌&&◌, ◌||◌, not, ◌≤◌, ◌<◌, ◌+◌, ◌-◌, ◌==◌, nat_lt, cond, zero, suc, get_or, refl, length, sum, arith, ℕ, Bool, true, false, List, [], ◌∷◌, ◌++◌, take, reverse, slice_get, Option, Some, None, option_map, if◌then◌else◌, sym, ap, ◌∙◌, subst}
use Rattle.std.specs.List.{find, list_any, range_with_len}
use Rattle.std.specs.Prelude.{sum_by}
use Rattle.std.proofs.lemmas.List.{reverse-append}
use Rattle.std.proofs.lemmas.List.Sums.{sum_by-append, sum_by-cons, sum_by_push}
use Rattle.std.proofs.lemmas.Bool.{eqb-true, ltb-true, ltb-false, or_cases, and_parts}
use Rattle.std.proofs.lemmas.Option.{same_Some, slice_get_within, slice_get_read}
use Rattle.ref_tiles.specs.declared.letters.Letter.{Letter}
use Rattle.ref_tiles.specs.declared.kinds.Kind.{Kind}
use Rattle.ref_tiles.specs.declared.rulebook.Rules.{Rules}
use Rattle.ref_tiles.specs.Letters.{letter_at}
use Rattle.ref_tiles.specs.Kinds.{number_of, kind_or_blank, kind_at}
use Rattle.ref_tiles.specs.Counting.{no_tiles, count_of}
use Rattle.ref_tiles.proofs.LetterLemmas.{letter_at_letter, letter_at_past}
use Rattle.ref_tiles.proofs.Counted.{number_below}
use Rattle.gcg_read.specs.Players.{same_seat}
use Rattle.gcg_read.specs.declared.events.Seat.{Seat}
use Rattle.gcg_read.specs.declared.events.Seat.TheVariants.{First, Second}
use Rattle.deal_steps.specs.declared.steps.Motion.{Motion}
use Rattle.deal_steps.specs.declared.steps.Motion.TheVariants as motion
use Rattle.deal_steps.specs.declared.steps.Act.{Act}
use Rattle.deal_steps.specs.declared.steps.Act.TheVariants as act
use Rattle.deal_steps.specs.declared.steps.Step.{Step}
use Rattle.deal_steps.specs.declared.known.Known.{Known}
use Rattle.deal_steps.specs.declared.deals.Held.{Held}
use Rattle.deal_steps.specs.declared.faults.DealBound.{DealBound}
use Rattle.deal_steps.specs.declared.faults.DealBound.TheVariants as bound
use Rattle.deal_steps.specs.Piles.{kinds, joined, without, greater}
use Rattle.deal_steps.specs.Steps.{used_by, laid_by as put_by, laid_in, remaining_by as off_by, of_act, needed_of, needed, remaining_in, ends_epoch, size_of}
use Rattle.deal_steps.specs.Bounds.{gone, raised, low, low_at, laid, is_too_big, short_kind, bound_for, bound_at}
use Rattle.deal_steps.specs.Knowing.{known_of, IsKnown, IsShown, IsShownAt, short_of, excess_of, excess, shown_by}
use Rattle.deal_steps.specs.Fitting.{Fits}
use Rattle.deal_steps.proofs.PileLaws.{joined_is, get-joined, get-no_tiles, length-greater, length-without, length-no_tiles, sum-joined, get-greater}
use Rattle.deal_steps.proofs.KnownLaws.{new_epoch, nothing_new, tiles_shown, tiles_raised, used_is_shown, length-gone, shown_at, known_bound}
use Rattle.explain_facts.specs.declared.facts.racks.RackLine.{RackLine}
use Rattle.explain_facts.specs.Deals.{IsDealtTo}
use Rattle.explain_facts.specs.Racks.{holder_by, holder_of, leaving_by, leaving, remaining_by, rack_line_by, rack_line, rack_lines, remaining_after, together, held_at, laid_by, laid_in_kind, count_in, shown_in_kind, kind_line, kind_lines, played_in}
use Rattle.explain_facts.specs.declared.facts.racks.KindLine.{KindLine}
use Rattle.explain_facts.specs.FaultFacts.{IsFirstBoundAt}

-- an element is within its list
pub within : {X : Type 0} (xs : List X) (place : ℕ) (x : X) → slice_get xs place ≡ Some x → place ≤ length xs
within xs place x there = let below = slice_get_within xs place x there in omega (arith, below)

-- racks fit the steps before a place
pub dealt_to : (rules : Rules) (steps : List Step) (place : ℕ) (step : Step) (racks : List Held) → 0 < place → place ≤ length steps → step ≡ get_or steps (place - 1) step
    → Fits rules (take place steps) racks → IsDealtTo rules steps place step.line
dealt_to rules steps place step racks some within is fit =
    let below : place - 1 < length steps = omega (arith, some, within) in
    record { step = step; some = some; there = slice_get_read steps (length steps) (place - 1) step refl below is; on_line = refl; racks = racks; fit = fit }

-- ---- what lines leave on a rack

number_in : (xs a b : List ℕ) (k : ℕ) → xs ≡ joined a b → k < 27 → get_or xs k 0 ≡ get_or a k 0 + get_or b k 0
number_in xs a b k e below = ap (λ (ys : List ℕ). get_or ys k 0) e ∙ get-joined a b k below

after_both : (known : List ℕ) (lines more : List RackLine) → remaining_after known (lines ++ more) ≡ remaining_after (remaining_after known lines) more
after_both known [] more = refl
after_both known (l ∷ lines) more = after_both (without (greater known l.shown) (remaining_by l.leaves)) lines more

-- tiles that are none are none of each kind
none_shown : (tiles : List ℕ) → sum tiles ≡ 0 → (k : ℕ) → get_or tiles k 0 ≡ 0
none_shown [] e k = refl
none_shown (n ∷ tiles) e zero = let whole = sum_by-cons (λ m. m) n tiles in omega (arith, e, whole)
none_shown (n ∷ tiles) e (suc k) = let whole = sum_by-cons (λ m. m) n tiles in none_shown tiles (omega (arith, e, whole)) k

same_leaving : (what : Motion) → off_by what ≡ remaining_by (leaving_by what)
same_leaving motion.Keeps = refl
same_leaving (motion.Lays used drawn) = refl
same_leaving (motion.Tries used) = refl
same_leaving (motion.Throws tiles) = refl
same_leaving (motion.ThrowsUnknown n) = refl

none_of : (tiles : List ℕ) (k : ℕ) → k < 27 → get_or no_tiles k 0 ≤ get_or tiles k 0
none_of tiles k below = let none = get-no_tiles k below in omega (arith, none)

-- what leaves is shown
fewer_leave : (what : Motion) (shown : List ℕ) (k : ℕ) → k < 27 → get_or (remaining_by (leaving_by what)) k 0 ≤ get_or (greater shown (used_by what)) k 0
fewer_leave motion.Keeps shown k below = none_of (greater shown no_tiles) k below
fewer_leave (motion.Lays used drawn) shown k below = used_is_shown shown used k below
fewer_leave (motion.Tries used) shown k below = none_of (greater shown used) k below
fewer_leave (motion.Throws tiles) shown k below = used_is_shown shown tiles k below
fewer_leave (motion.ThrowsUnknown n) shown k below = none_of (greater shown no_tiles) k below

either : (own : Bool) → (if own then no_tiles else no_tiles) ≡ no_tiles
either true = refl
either false = refl

-- a step that shows nothing of a rack takes nothing off it
none_leave : (seat player : Seat) (what : Act) → needed_of seat player what ≡ None → (if same_seat player seat then of_act off_by what else no_tiles) ≡ no_tiles
none_leave seat player (act.Turns shown what) e = by (same_seat player seat) e
  where
    by : (own : Bool) → (if own then Some (greater shown (used_by what)) else None) ≡ None → (if own then off_by what else no_tiles) ≡ no_tiles
    by true e = cc
    by false e = refl
none_leave seat player (act.TakesBack used) e = either (same_seat player seat)
none_leave seat player (act.Ends holder tiles) e = either (same_seat player seat)
none_leave seat player act.Rests e = either (same_seat player seat)

-- what leaves, if a step shows some tiles
abbrev IsLeaving : (off : List ℕ) → Act → (tiles : List ℕ) → Type 0
IsLeaving off what tiles = (off ≡ remaining_by (leaving what)) × ((k : ℕ) → k < 27 → get_or (remaining_by (leaving what)) k 0 ≤ get_or tiles k 0)

some_leave : (seat player : Seat) (what : Act) (tiles : List ℕ) → needed_of seat player what ≡ Some tiles
    → IsLeaving (if same_seat player seat then of_act off_by what else no_tiles) what tiles
some_leave seat player (act.Turns shown what) tiles e = by (same_seat player seat) e
  where
    by : (own : Bool) → (if own then Some (greater shown (used_by what)) else None) ≡ Some tiles → IsLeaving (if own then off_by what else no_tiles) (act.Turns shown what) tiles
    by true e =
        (same_leaving what, subst (λ (ts : List ℕ). (k : ℕ) → k < 27 → get_or (remaining_by (leaving_by what)) k 0 ≤ get_or ts k 0) (same_Some (greater shown (used_by what)) tiles e) (fewer_leave what shown))
    by false e = cc
some_leave seat player (act.TakesBack used) tiles e = cc
some_leave seat player (act.Ends holder rack) tiles e = (either (same_seat player seat), none_of tiles)
some_leave seat player act.Rests tiles e = cc

-- the tiles of a kind that are shown and of which some leave, if there are none
none_raised : (low known gone tiles off : List ℕ) → low ≡ joined known gone → sum tiles ≡ 0 → ((k : ℕ) → k < 27 → get_or off k 0 ≤ get_or tiles k 0)
    → greater low (joined gone tiles) ≡ joined known (joined gone off)
none_raised low known gone tiles off e nothing fewer =
    joined_is (greater low (joined gone tiles)) known (joined gone off) (length-greater low (joined gone tiles)) (λ k below.
    let whole = number_in low known gone k e below in
    let most = get-greater low (joined gone tiles) k below in
    let shown = get-joined gone tiles k below in
    let none = none_shown tiles nothing k in
    let some = fewer k below in
    let less = get-joined gone off k below in
    omega (arith, whole, most, shown, none, some, less))

-- what a step leaves on a rack, by what it shows
abbrev IsKept : (raised known gone off : List ℕ) → Type 0
IsKept raised known gone off = (raised ≡ joined known (joined gone off)) × (length known ≡ 27)

shown_kept : (seat : Seat) (s : Step) (low gone known : List ℕ) (tiles : Option (List ℕ)) → needed seat s ≡ tiles → low ≡ joined known gone → length known ≡ 27
    → IsKept (raised gone low tiles) (remaining_after known (rack_line_by s tiles)) gone (remaining_in seat s)
shown_kept seat s low gone known None is e long =
    (subst (λ (off : List ℕ). low ≡ joined known (joined gone off)) (sym (none_leave seat s.player s.act is)) (nothing_new low known gone e), long)
shown_kept seat s low gone known (Some tiles) is e long = by (sum tiles == 0) refl
  where
    left : IsLeaving (remaining_in seat s) s.act tiles
    left = some_leave seat s.player s.act tiles is

    to : (rack : List ℕ) → greater low (joined gone tiles) ≡ joined rack (joined gone (remaining_by (leaving s.act)))
        → greater low (joined gone tiles) ≡ joined rack (joined gone (remaining_in seat s))
    to rack kept = subst (λ (off : List ℕ). greater low (joined gone tiles) ≡ joined rack (joined gone off)) (sym left.0) kept

    by : (none : Bool) → (sum tiles == 0) ≡ none
        → IsKept (greater low (joined gone tiles)) (remaining_after known (if none then [] else record { line = s.line; shown = tiles; leaves = leaving s.act } ∷ [])) gone (remaining_in seat s)
    by true nothing = (to known (none_raised low known gone tiles (remaining_by (leaving s.act)) e (eqb-true (sum tiles) 0 nothing) left.1), long)
    by false some =
        (to (without (greater known tiles) (remaining_by (leaving s.act))) (tiles_shown low known gone tiles (remaining_by (leaving s.act)) e left.1), length-without (greater known tiles) (remaining_by (leaving s.act)))

-- after a step, whether it ends the epoch or not
kept_after : (seat : Seat) (s : Step) (past : List Step) (ends : Bool)
    → (low seat past ≡ joined (remaining_after no_tiles (rack_lines seat past)) (gone seat past)) × (length (remaining_after no_tiles (rack_lines seat past)) ≡ 27)
    → ((if ends then no_tiles else raised (gone seat past) (low seat past) (needed seat s))
    ≡ joined (remaining_after no_tiles (if ends then [] else rack_lines seat past ++ rack_line seat s)) (if ends then no_tiles else joined (gone seat past) (remaining_in seat s)))
    × (length (remaining_after no_tiles (if ends then [] else rack_lines seat past ++ rack_line seat s)) ≡ 27)
kept_after seat s past true before = (new_epoch, length-no_tiles)
kept_after seat s past false before =
    subst (λ (rack : List ℕ). IsKept (raised (gone seat past) (low seat past) (needed seat s)) rack (gone seat past) (remaining_in seat s))
    (sym (after_both no_tiles (rack_lines seat past) (rack_line seat s)))
    (shown_kept seat s (low seat past) (gone seat past) (remaining_after no_tiles (rack_lines seat past)) (needed seat s) refl before.0 before.1)

-- what the lines of a player leave, plus what left the rack, is what the moments show
pub rack_kept : (seat : Seat) (past : List Step)
    → (low seat past ≡ joined (remaining_after no_tiles (rack_lines seat past)) (gone seat past)) × (length (remaining_after no_tiles (rack_lines seat past)) ≡ 27)
rack_kept seat [] = (new_epoch, length-no_tiles)
rack_kept seat (s ∷ past) = kept_after seat s past (ends_epoch seat s) (rack_kept seat past)

-- the same at a step, before its own tiles leave
abbrev IsHeld : (raised known gone : List ℕ) → Type 0
IsHeld raised known gone = (raised ≡ joined known gone) × (length known ≡ 27)

shown_held : (s : Step) (low gone known : List ℕ) (tiles : Option (List ℕ)) → low ≡ joined known gone → length known ≡ 27
    → IsHeld (raised gone low tiles) (together known (rack_line_by s tiles)) gone
shown_held s low gone known None e long = (e, long)
shown_held s low gone known (Some tiles) e long = by (sum tiles == 0) refl
  where
    by : (none : Bool) → (sum tiles == 0) ≡ none
        → IsHeld (greater low (joined gone tiles)) (together known (if none then [] else record { line = s.line; shown = tiles; leaves = leaving s.act } ∷ [])) gone
    by true nothing = (
      joined_is (greater low (joined gone tiles)) known gone (length-greater low (joined gone tiles)) (λ k below.
          let whole = number_in low known gone k e below in
          let most = get-greater low (joined gone tiles) k below in
          let shown = get-joined gone tiles k below in
          let none = none_shown tiles (eqb-true (sum tiles) 0 nothing) k in
          omega (arith, whole, most, shown, none)),
      long,
    )
    by false some = (tiles_raised low known gone tiles e, length-greater known tiles)

pub rack_held : (seat : Seat) (s : Step) (past : List Step)
    → IsHeld (low_at seat s past) (held_at seat past s) (gone seat past)
rack_held seat s past =
    let kept = rack_kept seat past in
    shown_held s (low seat past) (gone seat past) (remaining_after no_tiles (rack_lines seat past)) (needed seat s) kept.0 kept.1

pub held_shown : (seat : Seat) (s : Step) (past : List Step) (tiles : List ℕ) → tiles ≡ held_at seat past s
    → joined tiles (gone seat past) ≡ low_at seat s past
held_shown seat s past tiles is = ap (λ (ts : List ℕ). joined ts (gone seat past)) is ∙ sym (rack_held seat s past).0

-- ---- bounds that are exceeded

big_of_test : (line own : ℕ) (big : Bool) (short : Option ℕ)
    → (if big then Some (bound.RackTooBig own) else option_map (λ k. bound.TilesShort own (kind_at k)) short) ≡ Some (bound.RackTooBig line) → big ≡ true
big_of_test line own true short e = refl
big_of_test line own false None e = cc
big_of_test line own false (Some k) e = cc

big_of : (rules : Rules) (s : Step) (past : List Step) (what : Act) (line : ℕ) → bound_for rules s past what ≡ Some (bound.RackTooBig line) → is_too_big (holder_by s.player what) s past ≡ true
big_of rules s past (act.Turns shown what) line e = big_of_test line s.line (is_too_big s.player s past) (short_kind rules s.player s past) e
big_of rules s past (act.TakesBack used) line e = cc
big_of rules s past (act.Ends holder tiles) line e = big_of_test line s.line (is_too_big holder s past) (short_kind rules holder s past) e
big_of rules s past act.Rests line e = cc

too_big_at : (rules : Rules) (s : Step) (past : List Step) (line : ℕ) → bound_at rules s past ≡ Some (bound.RackTooBig line) → is_too_big (holder_of s) s past ≡ true
unfolding bound_at
too_big_at rules s past line e = big_of rules s past s.act line e

-- a rack that exceeds the bound would have to hold too many tiles
pub rack_exceeds : (rules : Rules) (steps : List Step) (place line : ℕ) (step : Step) (player : Seat) (size : ℕ) (tiles : List ℕ) → slice_get steps place ≡ Some step
    → player ≡ holder_of step → size ≡ size_of step player
    → tiles ≡ held_at player (reverse (take place steps)) step → sum tiles ≤ size
    → IsFirstBoundAt rules steps place (bound.RackTooBig line) → ⊥
rack_exceeds rules steps place line step player size tiles there of has is few first =
    let past = reverse (take place steps) in
    let own : first.step ≡ step = same_Some first.step step (sym first.there ∙ there) in
    let exceeds = subst (λ (s : Step). bound_at rules s past ≡ Some (bound.RackTooBig line)) own first.exceeds in
    let big = subst (λ (seat : Seat). is_too_big seat step past ≡ true) (sym of) (too_big_at rules step past line exceeds) in
    let more = ltb-true (sum (gone player past) + size_of step player) (sum (low_at player step past)) big in
    let held = rack_held player step past in
    let whole = ap sum (held_shown player step past tiles is) in
    let adds = sum-joined tiles (gone player past) (ap length is ∙ held.1) (length-gone player past) in
    omega (arith, more, whole, adds, has, few)

-- ---- a kind that is short

number_at : (k : ℕ) → k < 27 → number_of (kind_at k) ≡ k
number_at k below = by (nat_lt k 26) refl
  where
    by : (b : Bool) → nat_lt k 26 ≡ b → number_of (kind_or_blank (letter_at k)) ≡ k
    by true is =
        let l : Letter = record { index = k; in_range = ltb-true k 26 is } in
        ap (λ (o : Option Letter). number_of (kind_or_blank o)) (letter_at_letter l)
    by false is =
        let past = ltb-false k 26 is in
        let last : 26 ≡ k = omega (arith, past, below) in
        ap (λ (o : Option Letter). number_of (kind_or_blank o)) (letter_at_past k past) ∙ last

find_here : (p : ℕ → Bool) (a n k : ℕ) (b : Bool) → p a ≡ b → (find p (range_with_len (a + 1) n) ≡ Some k → (p k ≡ true) × (k < a + 1 + n))
    → cond b (Some a) (find p (range_with_len (a + 1) n)) ≡ Some k → (p k ≡ true) × (k < a + suc n)
find_here p a n k true is rest e = let same = same_Some a k e in (subst (λ (j : ℕ). p j ≡ true) same is, omega (arith, same))
find_here p a n k false is rest e = let below = (rest e).1 in ((rest e).0, omega (arith, below))

find_in : (p : ℕ → Bool) (a n k : ℕ) → find p (range_with_len a n) ≡ Some k → (p k ≡ true) × (k < a + n)
find_in p a zero k e = cc
find_in p a (suc n) k e = find_here p a n k (p a) refl (λ f. find_in p (a + 1) n k f) e

short_found : (rules : Rules) (known : Known) (k : ℕ) → short_of rules known ≡ Some k
    → (get_or rules.counts k 0 < get_or known.laid k 0 + get_or known.first k 0 + get_or known.second k 0) × (k < 27)
unfolding kinds
short_found rules known k e =
    let found = find_in (λ j. nat_lt (get_or rules.counts j 0) (get_or known.laid j 0 + get_or known.first j 0 + get_or known.second j 0)) 0 27 k e in
    let below = found.1 in
    (ltb-true _ _ found.0, omega (arith, below))

-- what is known of a kind that is short
abbrev IsShortOf : Rules → Known → Kind → Type 0
IsShortOf rules known kind = (k : ℕ) × (kind_at k ≡ kind) × (get_or rules.counts k 0 < get_or known.laid k 0 + get_or known.first k 0 + get_or known.second k 0) × (k < 27)

short_of_test : (rules : Rules) (known : Known) (line own : ℕ) (kind : Kind) (big : Bool) (short : Option ℕ) → short_of rules known ≡ short
    → (if big then Some (bound.RackTooBig own) else option_map (λ k. bound.TilesShort own (kind_at k)) short) ≡ Some (bound.TilesShort line kind) → IsShortOf rules known kind
short_of_test rules known line own kind true short is e = cc
short_of_test rules known line own kind false None is e = cc
short_of_test rules known line own kind false (Some k) is e = (k, kind_reported own line (kind_at k) kind e, (short_found rules known k is).0, (short_found rules known k is).1)
  where
    kind_in : DealBound → Kind → Kind
    kind_in (bound.RackTooBig line) other = other
    kind_in (bound.TilesShort line kind) other = kind

    kind_reported : (own line : ℕ) (a b : Kind) → Some (bound.TilesShort own a) ≡ Some (bound.TilesShort line b) → a ≡ b
    kind_reported own line a b e = ap (λ (x : DealBound). kind_in x a) (same_Some (bound.TilesShort own a) (bound.TilesShort line b) e)

short_of_excess : (rules : Rules) (s : Step) (what : Act) (known : Known) (line : ℕ) (kind : Kind) → excess rules s what known ≡ Some (bound.TilesShort line kind) → IsShortOf rules known kind
unfolding excess_of
short_of_excess rules s (act.Turns shown what) known line kind e = short_of_test rules known line s.line kind (nat_lt (size_of s s.player) (sum (known_of known s.player))) (short_of rules known) refl e
short_of_excess rules s (act.TakesBack used) known line kind e = cc
short_of_excess rules s (act.Ends holder tiles) known line kind e = short_of_test rules known line s.line kind (nat_lt (size_of s holder) (sum (known_of known holder))) (short_of rules known) refl e
short_of_excess rules s act.Rests known line kind e = cc

-- what is known after a past, by what the lines leave
known_by : List Step → Known
known_by past =
    record {
      first = remaining_after no_tiles (rack_lines First past);
      second = remaining_after no_tiles (rack_lines Second past);
      laid = joined (laid First past) (laid Second past);
    }

is_known_by : (past : List Step) → IsKnown past (known_by past)
unfolding known_by
is_known_by past =
    let one = rack_kept First past in
    let other = rack_kept Second past in
    record { first = one.0; second = other.0; laid_is = refl; first_long = one.1; second_long = other.1 }

-- the same numbers are shown
same_shown : (s : Step) (past : List Step) (a b : Known) → IsShown s past a → IsShown s past b → (k : ℕ) → k < 27
    → get_or a.laid k 0 + get_or a.first k 0 + get_or a.second k 0 ≡ get_or b.laid k 0 + get_or b.first k 0 + get_or b.second k 0
same_shown s past a b one other k below =
    let first = number_in (low_at First s past) a.first (gone First past) k one.first below in
    let second = number_in (low_at Second s past) a.second (gone Second past) k one.second below in
    let first_too = number_in (low_at First s past) b.first (gone First past) k other.first below in
    let second_too = number_in (low_at Second s past) b.second (gone Second past) k other.second below in
    let laid_too : get_or a.laid k 0 ≡ get_or b.laid k 0 = ap (λ (xs : List ℕ). get_or xs k 0) (one.laid_is ∙ sym other.laid_is) in
    omega (arith, first, second, first_too, second_too, laid_too)

-- where a kind is short, more of it is shown than the game has
pub kind_exceeds : (rules : Rules) (steps : List Step) (place line : ℕ) (kind : Kind) (known : Known) → IsShownAt steps place known
    → IsFirstBoundAt rules steps place (bound.TilesShort line kind)
    → count_of rules.counts kind < count_of known.laid kind + count_of known.first kind + count_of known.second kind
kind_exceeds rules steps place line kind known shown first =
    let past = reverse (take place steps) in
    let s = shown.step in
    let own : first.step ≡ s = same_Some first.step s (sym first.there ∙ shown.there) in
    let exceeds = subst (λ (t : Step). bound_at rules t past ≡ Some (bound.TilesShort line kind)) own first.exceeds in
    let now = shown_by s.player s.act (known_by past) in
    let short = short_of_excess rules s s.act now line kind (known_bound rules s past (known_by past) (is_known_by past) ∙ exceeds) in
    let k = short.0 in
    let same = same_shown s past now known (shown_at s past (known_by past) (is_known_by past)) shown.shown k short.3 in
    let number : number_of kind ≡ k = ap number_of (sym short.1) ∙ number_at k short.3 in
    let more = short.2 in
    subst (λ (n : ℕ). get_or rules.counts n 0 < get_or known.laid n 0 + get_or known.first n 0 + get_or known.second n 0) (sym number) (omega (arith, same, more))

-- ---- what lines show of a kind

-- the number of tiles of a kind that a step puts on the board, by whichever player
put_in : ℕ → Step → ℕ
put_in k s = get_or (of_act put_by s.act) k 0

put_by_either : (player : Seat) (tiles : List ℕ) (k : ℕ) → k < 27
    → get_or (if same_seat player First then tiles else no_tiles) k 0 + get_or (if same_seat player Second then tiles else no_tiles) k 0 ≡ get_or tiles k 0
put_by_either First tiles k below = let none = get-no_tiles k below in omega (arith, none)
put_by_either Second tiles k below = let none = get-no_tiles k below in omega (arith, none)

laid_count : (past : List Step) (k : ℕ) → k < 27 → get_or (laid First past) k 0 + get_or (laid Second past) k 0 ≡ sum_by (put_in k) past
unfolding put_in
laid_count [] k below = let none = get-no_tiles k below in omega (arith, none)
laid_count (s ∷ past) k below =
    let first = get-joined (laid First past) (laid_in First s) k below in
    let second = get-joined (laid Second past) (laid_in Second s) k below in
    let own = put_by_either s.player (of_act put_by s.act) k below in
    let rest = laid_count past k below in
    let whole = sum_by-cons (put_in k) s past in
    omega (arith, first, second, own, rest, whole)

sum_reverse : (f : Step → ℕ) (steps : List Step) → sum_by f (reverse steps) ≡ sum_by f steps
sum_reverse f [] = refl
sum_reverse f (s ∷ steps) =
    let rest = sum_reverse f steps in
    let more = sum_by_push f (reverse steps) s in
    let whole = sum_by-cons f s steps in
    let turned = ap (λ (xs : List Step). sum_by f xs) (reverse-append (s ∷ []) steps) in
    omega (arith, rest, more, whole, turned)

put_in_kind : (kind : Kind) (what : Act) → get_or (of_act put_by what) (number_of kind) 0 ≡ laid_by kind (leaving what)
put_in_kind kind (act.Turns shown motion.Keeps) = get-no_tiles (number_of kind) (number_below kind)
put_in_kind kind (act.Turns shown (motion.Lays used drawn)) = refl
put_in_kind kind (act.Turns shown (motion.Tries used)) = get-no_tiles (number_of kind) (number_below kind)
put_in_kind kind (act.Turns shown (motion.Throws tiles)) = get-no_tiles (number_of kind) (number_below kind)
put_in_kind kind (act.Turns shown (motion.ThrowsUnknown n)) = get-no_tiles (number_of kind) (number_below kind)
put_in_kind kind (act.TakesBack used) = get-no_tiles (number_of kind) (number_below kind)
put_in_kind kind (act.Ends holder tiles) = get-no_tiles (number_of kind) (number_below kind)
put_in_kind kind act.Rests = get-no_tiles (number_of kind) (number_below kind)

-- what is put on the board is shown
put_is_shown : (kind : Kind) (player : Seat) (what : Act) → laid_by kind (leaving what) ≤ count_in kind (needed_of (holder_by player what) player what)
put_is_shown kind First (act.Turns shown (motion.Lays used drawn)) = used_is_shown shown used (number_of kind) (number_below kind)
put_is_shown kind Second (act.Turns shown (motion.Lays used drawn)) = used_is_shown shown used (number_of kind) (number_below kind)
put_is_shown kind player (act.Turns shown motion.Keeps) = omega arith
put_is_shown kind player (act.Turns shown (motion.Tries used)) = omega arith
put_is_shown kind player (act.Turns shown (motion.Throws tiles)) = omega arith
put_is_shown kind player (act.Turns shown (motion.ThrowsUnknown n)) = omega arith
put_is_shown kind player (act.TakesBack used) = omega arith
put_is_shown kind player (act.Ends holder tiles) = omega arith
put_is_shown kind player act.Rests = omega arith

none_of_line : (shown laid : ℕ) (counts : Bool) → laid ≤ shown → (shown == 0 || not counts && laid == 0) ≡ true → laid ≡ 0
none_of_line shown laid counts less e = by (or_cases (shown == 0) (not counts && laid == 0) e)
  where
    by : ((shown == 0) ≡ true) ⊎ ((not counts && laid == 0) ≡ true) → laid ≡ 0
    by (inl none) = let nothing = eqb-true shown 0 none in omega (arith, nothing, less)
    by (inr none) = eqb-true laid 0 (and_parts (not counts) (laid == 0) none).1

-- a line says what it plays
line_played : (kind : Kind) (counts : Bool) (s : Step) → played_in (kind_line kind counts s) ≡ laid_in_kind kind s
line_played kind counts s = by (shown_in_kind kind s == 0 || not counts && laid_in_kind kind s == 0) refl
  where
    by : (none : Bool) → (shown_in_kind kind s == 0 || not counts && laid_in_kind kind s == 0) ≡ none
        → played_in (if none then [] else record { line = s.line; player = holder_of s; shown = shown_in_kind kind s; played = laid_in_kind kind s } ∷ []) ≡ laid_in_kind kind s
    by true none = sym (none_of_line (shown_in_kind kind s) (laid_in_kind kind s) counts (put_is_shown kind s.player s.act) none)
    by false some = omega arith

lines_played : (kind : Kind) (steps : List Step) → played_in (kind_lines kind steps) ≡ sum_by (laid_in_kind kind) steps
lines_played kind [] = refl
lines_played kind (s ∷ later) =
    let counts = not (list_any (ends_epoch (holder_of s)) (s ∷ later)) in
    let both = sum_by-append (λ (l : KindLine). l.played) (kind_line kind counts s) (kind_lines kind later) in
    let one = line_played kind counts s in
    let rest = lines_played kind later in
    let whole = sum_by-cons (laid_in_kind kind) s later in
    omega (arith, both, one, rest, whole)

same_sum : (kind : Kind) (steps : List Step) → sum_by (put_in (number_of kind)) steps ≡ sum_by (laid_in_kind kind) steps
unfolding put_in
same_sum kind [] = refl
same_sum kind (s ∷ steps) =
    let one = put_in_kind kind s.act in
    let rest = same_sum kind steps in
    let whole = sum_by-cons (put_in (number_of kind)) s steps in
    let other = sum_by-cons (laid_in_kind kind) s steps in
    omega (arith, one, rest, whole, other)

-- the tiles of a kind on the board are those that the lines play
pub laid_by_lines : (steps : List Step) (place : ℕ) (known : Known) (kind : Kind) (many : ℕ) → IsShownAt steps place known → many ≡ count_of known.laid kind
    → many ≡ played_in (kind_lines kind (take place steps))
laid_by_lines steps place known kind many shown is =
    let before = take place steps in
    let k = number_of kind in
    let whole = number_in known.laid (laid First (reverse before)) (laid Second (reverse before)) k shown.shown.laid_is (number_below kind) in
    is ∙ whole ∙ laid_count (reverse before) k (number_below kind) ∙ sum_reverse (put_in k) before ∙ same_sum kind before ∙ sym (lines_played kind before)

held_number : (seat : Seat) (s : Step) (past : List Step) (known : List ℕ) (kind : Kind) → low_at seat s past ≡ joined known (gone seat past)
    → count_of known kind ≡ count_of (held_at seat past s) kind
held_number seat s past known kind is =
    let k = number_of kind in
    let one = number_in (low_at seat s past) known (gone seat past) k is (number_below kind) in
    let other = number_in (low_at seat s past) (held_at seat past s) (gone seat past) k (rack_held seat s past).0 (number_below kind) in
    omega (arith, one, other)

held_known : (s : Step) (past : List Step) (known : Known) (kind : Kind) (seat : Seat) → IsShown s past known → count_of (known_of known seat) kind ≡ count_of (held_at seat past s) kind
held_known s past known kind First is = held_number First s past known.first kind is.first
held_known s past known kind Second is = held_number Second s past known.second kind is.second

-- and those on a rack are what the lines show of it
pub held_by_lines : (steps : List Step) (place : ℕ) (step : Step) (known : Known) (kind : Kind) (seat : Seat) (many : ℕ) → slice_get steps place ≡ Some step → IsShownAt steps place known
    → many ≡ count_of (known_of known seat) kind → many ≡ count_of (held_at seat (reverse (take place steps)) step) kind
held_by_lines steps place step known kind seat many there shown is =
    let own : shown.step ≡ step = same_Some shown.step step (sym shown.there ∙ there) in
    is ∙ held_known shown.step (reverse (take place steps)) known kind seat shown.shown ∙ ap (λ (s : Step). count_of (held_at seat (reverse (take place steps)) s) kind) own
