-- Want lists by what is left of the rack and of the list so far, and the loops that make them.
use Rattle.std.proofs.Common.{◌≡◌, ℕ, zero, suc, ◌+◌, ◌-◌, ◌<◌, ◌≤◌, Bool, true, false, ◌&&◌, List, [], ◌∷◌, ◌++◌, drop, get_or, length, replicate, Option, Some, None, refl, sym, ap, ◌∙◌, append_assoc, arith, if◌then◌else◌}
use Rattle.std.specs.List.{flat_map, range_with_len}
use Rattle.std.proofs.lemmas.List.{append-nil, drop_more}
use Rattle.ref_tiles.specs.Counting.{no_tiles}
use Rattle.gcg_read.specs.Players.{same_seat}
use Rattle.gcg_read.specs.declared.events.Seat.{Seat}
use Rattle.deal_steps.specs.Piles.{kinds, joined, without, greater}
use Rattle.deal_steps.specs.Steps.{needed, needed_of, remaining_in, remaining_by, of_act, ends_epoch, used_by, throws_unknown}
use Rattle.deal_steps.specs.declared.steps.Motion.TheVariants as motion
use Rattle.deal_steps.specs.declared.steps.Act.{Act}
use Rattle.deal_steps.specs.declared.steps.Act.TheVariants as act
use Rattle.deal_steps.specs.declared.steps.Step.{Step}
use Rattle.deal_steps.proofs.PileLaws.{get-joined, get-without, get-greater, get-no_tiles, length-without, length-greater, joined_is, same_numbers}
use Rattle.deal_completion.specs.Completion.{lacking, with_gone, wanted, want_list}

-- ---- lists of kinds

-- each kind of a stretch, as often as a function says
abbrev pub lacks_from : (f : ℕ → ℕ) (a n : ℕ) → List ℕ
lacks_from f a n = flat_map (λ k. replicate (f k) k) (range_with_len a n)

pub lacks_same : (f g : ℕ → ℕ) (a n : ℕ) → ((k : ℕ) → a ≤ k → k < a + n → f k ≡ g k) → lacks_from f a n ≡ lacks_from g a n
lacks_same f g a zero h = refl
lacks_same f g a (suc n) h =
    rw (h a (omega arith) (omega arith)) (ap (λ (xs : List ℕ). replicate (g a) a ++ xs) (lacks_same f g (a + 1) n (λ k low high. h k (omega arith) (omega arith))))

pub lacks_none : (a n : ℕ) → lacks_from (λ k. 0) a n ≡ []
lacks_none a zero = refl
lacks_none a (suc n) = lacks_none (a + 1) n

pub lacking_is : (asked have : List ℕ) → lacks_from (λ k. get_or asked k 0 - get_or have k 0) 0 27 ≡ lacking asked have
unfolding lacking kinds
lacking_is asked have = refl

-- only the number of lacking tiles matters
pub lacking_same : (asked have other_asked other_have : List ℕ)
    → ((k : ℕ) → k < 27 → get_or asked k 0 - get_or have k 0 ≡ get_or other_asked k 0 - get_or other_have k 0)
    → lacking asked have ≡ lacking other_asked other_have
lacking_same asked have other_asked other_have h =
    sym (lacking_is asked have)
    ∙ lacks_same (λ k. get_or asked k 0 - get_or have k 0) (λ k. get_or other_asked k 0 - get_or other_have k 0) 0 27 (λ k low high. h k (omega arith))
    ∙ lacking_is other_asked other_have

pub lacking_none : (have : List ℕ) → lacking no_tiles have ≡ []
lacking_none have =
    sym (lacking_is no_tiles have)
    ∙ lacks_same (λ k. get_or no_tiles k 0 - get_or have k 0) (λ k. 0) 0 27
    (λ k low high. let none = get-no_tiles k (omega arith) in omega arith)
    ∙ lacks_none 0 27

-- ---- loops

pub push_more : (xs ys : List ℕ) (n i k : ℕ) → i < n → xs ++ replicate (n - i) k ≡ ys → (xs ++ k ∷ []) ++ replicate (n - (i + 1)) k ≡ ys
push_more xs ys n i k below e =
    let next : n - i ≡ suc (n - (i + 1)) = omega arith in
    append_assoc xs (k ∷ []) (replicate (n - (i + 1)) k) ∙ sym (ap (λ (m : ℕ). xs ++ replicate m k) next) ∙ e

pub push_all : (xs ys : List ℕ) (n i k : ℕ) → n ≤ i → xs ++ replicate (n - i) k ≡ ys → xs ≡ ys
push_all xs ys n i k past e =
    let none : n - i ≡ 0 = omega arith in
    sym (append-nil xs) ∙ sym (ap (λ (m : ℕ). xs ++ replicate m k) none) ∙ e

pub lack_more : (f : ℕ → ℕ) (xs ys : List ℕ) (k : ℕ) → k < 27 → xs ++ lacks_from f k (27 - k) ≡ ys
    → (xs ++ replicate (f k) k) ++ lacks_from f (k + 1) (27 - (k + 1)) ≡ ys
lack_more f xs ys k below e =
    let next : 27 - k ≡ suc (27 - (k + 1)) = omega arith in
    append_assoc xs (replicate (f k) k) (lacks_from f (k + 1) (27 - (k + 1))) ∙ sym (ap (λ (m : ℕ). xs ++ lacks_from f k m) next) ∙ e

pub lack_all : (f : ℕ → ℕ) (xs ys : List ℕ) (k : ℕ) → 27 ≤ k → xs ++ lacks_from f k (27 - k) ≡ ys → xs ≡ ys
lack_all f xs ys k past e =
    let none : 27 - k ≡ 0 = omega arith in
    sym (append-nil xs) ∙ sym (ap (λ (m : ℕ). xs ++ lacks_from f k m) none) ∙ e

-- ---- the walk

-- the tiles that a moment asks for; none if it asks for nothing
abbrev pub asked_or_none : Option (List ℕ) → List ℕ
asked_or_none None = no_tiles
asked_or_none (Some tiles) = tiles

-- what is left of a rack after a step, if all that it asks for was there
abbrev pub rest_after : Seat → Step → List ℕ → List ℕ
rest_after seat s rest = without (greater rest (asked_or_none (needed seat s))) (remaining_in seat s)

abbrev pub wanted_by : Seat → List Step → (rest : List ℕ) → List ℕ
wanted_by seat [] rest = []
wanted_by seat (s ∷ steps) rest =
    lacking (asked_or_none (needed seat s)) rest ++ (if ends_epoch seat s then [] else wanted_by seat steps (rest_after seat s rest))

-- what leaves a rack for good is asked for before
pub remaining_asked : (seat player : Seat) (what : Act) (k : ℕ) → k < 27
    → get_or (if same_seat player seat then of_act remaining_by what else no_tiles) k 0 ≤ get_or (asked_or_none (needed_of seat player what)) k 0
remaining_asked seat player (act.Turns shown motion.Keeps) k below =
    elim (same_seat player seat) as (λ b. get_or (if b then no_tiles else no_tiles) k 0 ≤ get_or (asked_or_none (if b then Some (greater shown no_tiles) else None)) k 0)
    [ true ↦ omega (arith, get-no_tiles k below) | false ↦ omega arith ]
remaining_asked seat player (act.Turns shown (motion.Lays used drawn)) k below =
    elim (same_seat player seat) as (λ b. get_or (if b then used else no_tiles) k 0 ≤ get_or (asked_or_none (if b then Some (greater shown used) else None)) k 0)
    [ true ↦ omega (arith, get-greater shown used k below) | false ↦ omega arith ]
remaining_asked seat player (act.Turns shown (motion.Tries used)) k below =
    elim (same_seat player seat) as (λ b. get_or (if b then no_tiles else no_tiles) k 0 ≤ get_or (asked_or_none (if b then Some (greater shown used) else None)) k 0)
    [ true ↦ omega (arith, get-no_tiles k below) | false ↦ omega arith ]
remaining_asked seat player (act.Turns shown (motion.Throws tiles)) k below =
    elim (same_seat player seat) as (λ b. get_or (if b then tiles else no_tiles) k 0 ≤ get_or (asked_or_none (if b then Some (greater shown tiles) else None)) k 0)
    [ true ↦ omega (arith, get-greater shown tiles k below) | false ↦ omega arith ]
remaining_asked seat player (act.Turns shown (motion.ThrowsUnknown n)) k below =
    elim (same_seat player seat) as (λ b. get_or (if b then no_tiles else no_tiles) k 0 ≤ get_or (asked_or_none (if b then Some (greater shown no_tiles) else None)) k 0)
    [ true ↦ omega (arith, get-no_tiles k below) | false ↦ omega arith ]
remaining_asked seat player (act.TakesBack used) k below =
    elim (same_seat player seat) as (λ b. get_or (if b then no_tiles else no_tiles) k 0 ≤ get_or no_tiles k 0) [ true ↦ omega arith | false ↦ omega arith ]
remaining_asked seat player (act.Ends holder tiles) k below =
    elim (same_seat player seat) as (λ b. get_or (if b then no_tiles else no_tiles) k 0 ≤ get_or (asked_or_none (if same_seat holder seat then Some tiles else None)) k 0)
    [ true ↦ omega (arith, get-no_tiles k below) | false ↦ omega (arith, get-no_tiles k below) ]
remaining_asked seat player act.Rests k below =
    elim (same_seat player seat) as (λ b. get_or (if b then no_tiles else no_tiles) k 0 ≤ get_or no_tiles k 0) [ true ↦ omega arith | false ↦ omega arith ]

-- what is lacking at a moment, in both forms
lacking_by : (gone have rest : List ℕ) (asked : Option (List ℕ)) → have ≡ joined rest gone → lacking (with_gone gone asked) have ≡ lacking (asked_or_none asked) rest
lacking_by gone have rest None is = lacking_none have ∙ sym (lacking_none rest)
lacking_by gone have rest (Some tiles) is =
    lacking_same (joined gone tiles) have tiles rest
    (λ k below.
    let of_gone = get-joined gone tiles k below in
    let of_have : get_or have k 0 ≡ get_or rest k 0 + get_or gone k 0 = ap (λ (xs : List ℕ). get_or xs k 0) is ∙ get-joined rest gone k below in
    omega arith)

-- and what is had after it
had_by : (gone have rest remaining : List ℕ) (asked : Option (List ℕ)) → have ≡ joined rest gone
    → ((k : ℕ) → k < 27 → get_or remaining k 0 ≤ get_or (asked_or_none asked) k 0)
    → greater have (with_gone gone asked) ≡ joined (without (greater rest (asked_or_none asked)) remaining) (joined gone remaining)
had_by gone have rest remaining None is few =
    joined_is (greater have no_tiles) (without (greater rest no_tiles) remaining) (joined gone remaining) (length-greater have no_tiles)
    (λ k below.
    let fewer = few k below in
    let none = get-no_tiles k below in
    let of_have : get_or have k 0 ≡ get_or rest k 0 + get_or gone k 0 = ap (λ (xs : List ℕ). get_or xs k 0) is ∙ get-joined rest gone k below in
    let one = get-greater have no_tiles k below in
    let two = get-without (greater rest no_tiles) remaining k below in
    let three = get-greater rest no_tiles k below in
    let four = get-joined gone remaining k below in
    omega arith)
had_by gone have rest remaining (Some tiles) is few =
    joined_is (greater have (joined gone tiles)) (without (greater rest tiles) remaining) (joined gone remaining) (length-greater have (joined gone tiles))
    (λ k below.
    let fewer = few k below in
    let of_have : get_or have k 0 ≡ get_or rest k 0 + get_or gone k 0 = ap (λ (xs : List ℕ). get_or xs k 0) is ∙ get-joined rest gone k below in
    let of_gone = get-joined gone tiles k below in
    let one = get-greater have (joined gone tiles) k below in
    let two = get-without (greater rest tiles) remaining k below in
    let three = get-greater rest tiles k below in
    let four = get-joined gone remaining k below in
    omega arith)

-- the two forms
pub wanted_is_by : (seat : Seat) (steps : List Step) (gone have rest : List ℕ) → have ≡ joined rest gone → wanted seat steps gone have ≡ wanted_by seat steps rest
wanted_is_by seat [] gone have rest is = refl
wanted_is_by seat (s ∷ steps) gone have rest is =
    let here = lacking_by gone have rest (needed seat s) is in
    let had = had_by gone have rest (remaining_in seat s) (needed seat s) is (remaining_asked seat s.player s.act) in
    let later = wanted_is_by seat steps (joined gone (remaining_in seat s)) (greater have (with_gone gone (needed seat s))) (rest_after seat s rest) had in
    ap (λ (xs : List ℕ). xs ++ (if ends_epoch seat s then [] else wanted seat steps (joined gone (remaining_in seat s)) (greater have (with_gone gone (needed seat s))))) here
    ∙ ap (λ (xs : List ℕ). lacking (asked_or_none (needed seat s)) rest ++ (if ends_epoch seat s then [] else xs)) later

pub want_list_by : (seat : Seat) (steps : List Step) (rack : List ℕ) → length rack ≡ 27 → want_list seat steps rack ≡ wanted_by seat steps rack
want_list_by seat steps rack long =
    wanted_is_by seat steps no_tiles rack rack
    (joined_is rack rack no_tiles long (λ k below. let none = get-no_tiles k below in omega arith))

-- one more step
pub want_more : (seat : Seat) (s : Step) (steps : List Step) (rest xs ys : List ℕ) → ends_epoch seat s ≡ false → xs ++ wanted_by seat (s ∷ steps) rest ≡ ys
    → (xs ++ lacking (asked_or_none (needed seat s)) rest) ++ wanted_by seat steps (rest_after seat s rest) ≡ ys
want_more seat s steps rest xs ys goes_on e =
    append_assoc xs (lacking (asked_or_none (needed seat s)) rest) (wanted_by seat steps (rest_after seat s rest))
    ∙ ap (λ (b : Bool). xs ++ (lacking (asked_or_none (needed seat s)) rest ++ (if b then [] else wanted_by seat steps (rest_after seat s rest)))) (sym goes_on)
    ∙ e

-- and the last one
pub want_last : (seat : Seat) (s : Step) (steps : List Step) (rest xs ys : List ℕ) → ends_epoch seat s ≡ true → xs ++ wanted_by seat (s ∷ steps) rest ≡ ys
    → xs ++ lacking (asked_or_none (needed seat s)) rest ≡ ys
want_last seat s steps rest xs ys ends e =
    ap (λ (zs : List ℕ). xs ++ zs) (sym (append-nil (lacking (asked_or_none (needed seat s)) rest)))
    ∙ ap (λ (b : Bool). xs ++ (lacking (asked_or_none (needed seat s)) rest ++ (if b then [] else wanted_by seat steps (rest_after seat s rest)))) (sym ends)
    ∙ e

-- A step that asks a player for nothing changes nothing for the player.
pub none_ends : (seat player : Seat) (what : Act) → needed_of seat player what ≡ None → (same_seat player seat && throws_unknown what) ≡ false
none_ends seat player (act.Turns shown what) none =
    elim (same_seat player seat) as (λ b. ((if b then Some (greater shown (used_by what)) else None) ≡ None) → (b && throws_unknown (act.Turns shown what)) ≡ false)
    [ true ↦ (λ some. absurd (cc)) | false ↦ (λ _. refl) ] none
none_ends seat player (act.TakesBack used) none = elim (same_seat player seat) as (λ b. (b && false) ≡ false) [ true ↦ refl | false ↦ refl ]
none_ends seat player (act.Ends holder tiles) none = elim (same_seat player seat) as (λ b. (b && false) ≡ false) [ true ↦ refl | false ↦ refl ]
none_ends seat player act.Rests none = elim (same_seat player seat) as (λ b. (b && false) ≡ false) [ true ↦ refl | false ↦ refl ]

pub want_past : (seat : Seat) (s : Step) (steps : List Step) (rest xs ys : List ℕ) → length rest ≡ 27 → needed seat s ≡ None → xs ++ wanted_by seat (s ∷ steps) rest ≡ ys
    → xs ++ wanted_by seat steps rest ≡ ys
want_past seat s steps rest xs ys long none e =
    let more = want_more seat s steps rest xs ys (none_ends seat s.player s.act none) e in
    let nothing : lacking (asked_or_none (needed seat s)) rest ≡ [] = ap (λ (o : Option (List ℕ)). lacking (asked_or_none o) rest) none ∙ lacking_none rest in
    let same : rest_after seat s rest ≡ rest =
    same_numbers (rest_after seat s rest) rest (length-without (greater rest (asked_or_none (needed seat s))) (remaining_in seat s)) long
    (λ k below.
    let one = get-without (greater rest (asked_or_none (needed seat s))) (remaining_in seat s) k below in
    let two = get-greater rest (asked_or_none (needed seat s)) k below in
    let three : get_or (asked_or_none (needed seat s)) k 0 ≡ 0 = ap (λ (o : Option (List ℕ)). get_or (asked_or_none o) k 0) none ∙ get-no_tiles k below in
    let four : get_or (remaining_in seat s) k 0 ≤ get_or (asked_or_none (needed seat s)) k 0 = remaining_asked seat s.player s.act k below in
    omega arith) in
    ap (λ (r : List ℕ). xs ++ wanted_by seat steps r) (sym same)
    ∙ ap (λ (zs : List ℕ). zs ++ wanted_by seat steps (rest_after seat s rest)) (sym (append-nil xs) ∙ ap (λ (zs : List ℕ). xs ++ zs) (sym nothing))
    ∙ more

-- ---- the loop

-- the step at a place
pub want_at : (seat : Seat) (steps : List Step) (i : ℕ) (s : Step) (rest xs ys : List ℕ) → i < length steps → s ≡ get_or steps i s
    → xs ++ wanted_by seat (drop i steps) rest ≡ ys → xs ++ wanted_by seat (s ∷ drop (i + 1) steps) rest ≡ ys
want_at seat steps i s rest xs ys within is e =
    let parts : drop i steps ≡ s ∷ drop (i + 1) steps = drop_more steps i s within ∙ ap (λ (x : Step). x ∷ drop (i + 1) steps) (sym is) in
    sym (ap (λ (zs : List Step). xs ++ wanted_by seat zs rest) parts) ∙ e

-- it asks for tiles, and the list continues
pub asked_more : (seat : Seat) (s : Step) (steps : List Step) (asked rest new xs zs ys : List ℕ) → needed seat s ≡ Some asked → ends_epoch seat s ≡ false
    → zs ≡ xs ++ lacking asked rest → new ≡ without (greater rest asked) (remaining_in seat s) → xs ++ wanted_by seat (s ∷ steps) rest ≡ ys
    → zs ++ wanted_by seat steps new ≡ ys
asked_more seat s steps asked rest new xs zs ys asks goes_on list_is rest_is e =
    let tiles : asked_or_none (needed seat s) ≡ asked = ap asked_or_none asks in
    ap (λ (l : List ℕ). l ++ wanted_by seat steps new) (list_is ∙ ap (λ (t : List ℕ). xs ++ lacking t rest) (sym tiles))
    ∙ ap (λ (r : List ℕ). (xs ++ lacking (asked_or_none (needed seat s)) rest) ++ wanted_by seat steps r)
    (rest_is ∙ ap (λ (t : List ℕ). without (greater rest t) (remaining_in seat s)) (sym tiles))
    ∙ want_more seat s steps rest xs ys goes_on e

-- or it ends there
pub asked_last : (seat : Seat) (s : Step) (steps : List Step) (asked rest xs zs ys : List ℕ) → needed seat s ≡ Some asked → ends_epoch seat s ≡ true
    → zs ≡ xs ++ lacking asked rest → xs ++ wanted_by seat (s ∷ steps) rest ≡ ys → zs ≡ ys
asked_last seat s steps asked rest xs zs ys asks ends list_is e =
    let tiles : asked_or_none (needed seat s) ≡ asked = ap asked_or_none asks in
    list_is ∙ ap (λ (t : List ℕ). xs ++ lacking t rest) (sym tiles) ∙ want_last seat s steps rest xs ys ends e
