-- If racks fit, no bound is exceeded: what must be on a rack is on it.
use Rattle.std.proofs.Common.{◌≡◌, ℕ, ◌+◌, ◌<◌, ◌≤◌, List, [], ◌∷◌, length, get_or, sum, None, refl, sym, ap, ◌∙◌, arith}
use Rattle.std.proofs.lemmas.Bool.{le-ltb}
use Rattle.ref_tiles.specs.Counting.{no_tiles, IsContainedIn}
use Rattle.ref_tiles.specs.declared.rulebook.Rules.{Rules}
use Rattle.gcg_read.specs.Players.{other_seat}
use Rattle.gcg_read.specs.declared.events.Seat.{Seat}
use Rattle.gcg_read.specs.declared.events.Seat.TheVariants.{First, Second}
use Rattle.deal_steps.specs.declared.steps.Motion.TheVariants as motion
use Rattle.deal_steps.specs.declared.steps.Act.{Act}
use Rattle.deal_steps.specs.declared.steps.Act.TheVariants as act
use Rattle.deal_steps.specs.declared.steps.Step.{Step}
use Rattle.deal_steps.specs.declared.deals.Racks.{Racks}
use Rattle.deal_steps.specs.declared.deals.Held.{Held}
use Rattle.deal_steps.specs.declared.known.Known.{Known}
use Rattle.deal_steps.specs.Piles.{joined, without, greater}
use Rattle.deal_steps.specs.Steps.{used_by, size_of}
use Rattle.deal_steps.specs.Fitting.{rack_of, in_bag, AddsUp, AllowsAct, ActsTo, FollowsTo, Fits}
use Rattle.deal_steps.specs.Bounds.{first_bound_after, first_bound, bound_at}
use Rattle.deal_steps.specs.Knowing.{known_of, IsKnown, excess_of, excess, shown_by, moved_by}
use Rattle.deal_steps.specs.Runs.{Course, none_waiting, MayAct, act_course, IsOnCourse, IsRunFrom, first_course, IsRun}
use Rattle.deal_steps.proofs.PileLaws.{get-joined, get-without, get-greater, get-no_tiles, sum_is, sum_kinds_le}
use Rattle.deal_steps.proofs.Refills.{refilled_kinds}
use Rattle.deal_steps.proofs.KnownLaws.{known_bound, known_after, shown_first_long, shown_second_long, no_short, nothing_known, known_at_start}

-- What must be on a rack is on it, or in the play that is about to be taken back; the tiles on the board are known.
pub record IsHad (c : Course) (known : Known) (racks : Racks) : Type 0 where
  pub first : (k : ℕ) → k < 27 → get_or known.first k 0 ≤ get_or racks.first k 0 + get_or c.waiting.first k 0
  pub second : (k : ℕ) → k < 27 → get_or known.second k 0 ≤ get_or racks.second k 0 + get_or c.waiting.second k 0
  pub laid : known.laid ≡ c.laid

-- ---- a moment

-- the tiles that a line states and those that it uses are on the rack, and so is all that is known about it
raised_is_had : (known shown used rack waiting : List ℕ) (k : ℕ) → k < 27 → get_or known k 0 ≤ get_or rack k 0 + get_or waiting k 0
    → IsContainedIn shown rack → IsContainedIn used rack
    → get_or (greater known (greater shown used)) k 0 ≤ get_or rack k 0 + get_or waiting k 0
raised_is_had known shown used rack waiting k below had has_shown has_used =
    let more = get-greater known (greater shown used) k below in
    let most = get-greater shown used k below in
    let one = has_shown k in
    let two = has_used k in
    omega (arith, had, more, most, one, two)

last_is_had : (known tiles rack waiting : List ℕ) (k : ℕ) → k < 27 → get_or known k 0 ≤ get_or rack k 0 + get_or waiting k 0 → rack ≡ tiles
    → get_or (greater known tiles) k 0 ≤ get_or rack k 0 + get_or waiting k 0
last_is_had known tiles rack waiting k below had is =
    let more = get-greater known tiles k below in
    let same = ap (λ (xs : List ℕ). get_or xs k 0) is in
    omega (arith, had, more, same)

-- what a moment shows is there
shown_is_had : (c : Course) (player : Seat) (what : Act) (known : Known) (held : Held) → IsHad c known held.racks → AllowsAct player what held
    → IsHad c (shown_by player what known) held.racks
shown_is_had c First (act.Turns shown what) known held had allows =
    record {
      first = λ k below. raised_is_had known.first shown (used_by what) held.racks.first c.waiting.first k below (had.first k below) allows.has_shown allows.has_used;
      second = had.second;
      laid = had.laid;
    }
shown_is_had c Second (act.Turns shown what) known held had allows =
    record {
      first = had.first;
      second = λ k below. raised_is_had known.second shown (used_by what) held.racks.second c.waiting.second k below (had.second k below) allows.has_shown allows.has_used;
      laid = had.laid;
    }
shown_is_had c player (act.TakesBack used) known held had allows = had
shown_is_had c player (act.Ends First tiles) known held had allows =
    record {
      first = λ k below. last_is_had known.first tiles held.racks.first c.waiting.first k below (had.first k below) allows.1;
      second = had.second;
      laid = had.laid;
    }
shown_is_had c player (act.Ends Second tiles) known held had allows =
    record {
      first = had.first;
      second = λ k below. last_is_had known.second tiles held.racks.second c.waiting.second k below (had.second k below) allows.1;
      laid = had.laid;
    }
shown_is_had c player act.Rests known held had allows = had

-- a rack has at least as many tiles as are known about it
fewer_known : (known rack waiting : List ℕ) → length known ≡ 27 → length rack ≡ 27
    → ((k : ℕ) → k < 27 → get_or known k 0 ≤ get_or rack k 0 + get_or waiting k 0) → waiting ≡ no_tiles → sum known ≤ sum rack
fewer_known known rack waiting long long2 had none =
    let one = sum_is known long in
    let two = sum_is rack long2 in
    let both = sum_kinds_le (λ k. get_or known k 0) (λ k. get_or rack k 0) (λ k below.
    let here = had k below in
    let waits = ap (λ (xs : List ℕ). get_or xs k 0) none in
    let zero_there = get-no_tiles k below in
    omega (arith, here, waits, zero_there)) in
    omega (arith, one, two, both)

-- the tiles on the board and all that is known about the racks are in the game
known_within : (rules : Rules) (c : Course) (s : Step) (known : Known) (racks : Racks) → IsOnCourse c s → AddsUp rules s racks → IsHad c known racks
    → (k : ℕ) → k < 27 → get_or known.laid k 0 + get_or known.first k 0 + get_or known.second k 0 ≤ get_or rules.counts k 0
known_within rules c s known racks on adds had k below =
    let whole = adds.within k below in
    let board = ap (λ (xs : List ℕ). get_or xs k 0) on.board in
    let parts = get-joined c.laid (joined c.waiting.first c.waiting.second) k below in
    let waits = get-joined c.waiting.first c.waiting.second k below in
    let laid = ap (λ (xs : List ℕ). get_or xs k 0) had.laid in
    let one = had.first k below in
    let two = had.second k below in
    omega (arith, whole, board, parts, waits, laid, one, two)

-- if all that is known about a rack fits on it, no bound is exceeded
fitting_exceeds_none : (rules : Rules) (c : Course) (s : Step) (seat : Seat) (known : Known) (racks : Racks) → IsOnCourse c s → AddsUp rules s racks → IsHad c known racks
    → sum (known_of known seat) ≤ size_of s seat → excess_of rules seat s known ≡ None
unfolding excess_of
fitting_exceeds_none rules c s seat known racks on adds had fewer =
    let fits = le-ltb (size_of s seat) (sum (known_of known seat)) fewer in
    let short = no_short rules known (known_within rules c s known racks on adds had) in
    rw fits (rw short refl)

-- and so if what is known is there, and nothing waits
none_exceeded : (rules : Rules) (c : Course) (s : Step) (seat : Seat) (known : Known) (racks : Racks) → IsOnCourse c s → AddsUp rules s racks → IsHad c known racks
    → length known.first ≡ 27 → length known.second ≡ 27 → c.waiting ≡ none_waiting → excess_of rules seat s known ≡ None
none_exceeded rules c s First known racks on adds had long long2 none =
    let fewer = fewer_known known.first racks.first c.waiting.first long adds.first_kinds had.first (ap (λ (w : Racks). w.first) none) in
    let size = adds.first in
    fitting_exceeds_none rules c s First known racks on adds had (omega (arith, fewer, size))
none_exceeded rules c s Second known racks on adds had long long2 none =
    let fewer = fewer_known known.second racks.second c.waiting.second long2 adds.second_kinds had.second (ap (λ (w : Racks). w.second) none) in
    let size = adds.second in
    fitting_exceeds_none rules c s Second known racks on adds had (omega (arith, fewer, size))

none_at : (rules : Rules) (c : Course) (s : Step) (what : Act) (known : Known) (racks : Racks) → IsOnCourse c s → AddsUp rules s racks → IsHad c known racks
    → length known.first ≡ 27 → length known.second ≡ 27 → MayAct c s.player what → excess rules s what known ≡ None
none_at rules c s (act.Turns shown what) known racks on adds had long long2 may = none_exceeded rules c s s.player known racks on adds had long long2 may.0
none_at rules c s (act.TakesBack used) known racks on adds had long long2 may = refl
none_at rules c s (act.Ends holder tiles) known racks on adds had long long2 may = none_exceeded rules c s holder known racks on adds had long long2 may.0
none_at rules c s act.Rests known racks on adds had long long2 may = refl

-- ---- what is known after a step is on the racks after it

-- tiles leave a rack, and it is filled up again
refilled_is_had : (known used rack new waiting : List ℕ) (k : ℕ) → k < 27 → get_or known k 0 ≤ get_or rack k 0 + get_or waiting k 0
    → get_or rack k 0 ≤ get_or new k 0 + get_or used k 0
    → get_or (without known used) k 0 ≤ get_or new k 0 + get_or waiting k 0
refilled_is_had known used rack new waiting k below had gone =
    let rest = get-without known used k below in
    omega (arith, had, gone, rest)

stays_had : (known rack new waiting waits : List ℕ) (k : ℕ) → get_or known k 0 ≤ get_or rack k 0 + get_or waiting k 0 → new ≡ rack → waiting ≡ waits
    → get_or known k 0 ≤ get_or new k 0 + get_or waits k 0
stays_had known rack new waiting waits k had is goes_on =
    let same = ap (λ (xs : List ℕ). get_or xs k 0) is in
    let still = ap (λ (xs : List ℕ). get_or xs k 0) goes_on in
    omega (arith, had, same, still)

-- a play that does not stand waits
waits_had : (known used rack new waiting : List ℕ) (k : ℕ) → k < 27 → get_or known k 0 ≤ get_or rack k 0 + get_or waiting k 0 → waiting ≡ no_tiles
    → get_or new k 0 + get_or used k 0 ≡ get_or rack k 0
    → get_or known k 0 ≤ get_or new k 0 + get_or used k 0
waits_had known used rack new waiting k below had none less =
    let same = ap (λ (xs : List ℕ). get_or xs k 0) none in
    let zero_there = get-no_tiles k below in
    omega (arith, had, same, zero_there, less)

-- and comes back
back_had : (known used rack new waiting : List ℕ) (k : ℕ) → get_or known k 0 ≤ get_or rack k 0 + get_or waiting k 0 → waiting ≡ used
    → get_or rack k 0 + get_or used k 0 ≡ get_or new k 0
    → get_or known k 0 ≤ get_or new k 0 + get_or no_tiles k 0
back_had known used rack new waiting k had is less =
    let same = ap (λ (xs : List ℕ). get_or xs k 0) is in
    omega (arith, had, same, less)

anew_had : (new waiting : List ℕ) (k : ℕ) → k < 27 → get_or no_tiles k 0 ≤ get_or new k 0 + get_or waiting k 0
anew_had new waiting k below = let none = get-no_tiles k below in omega (arith, none)

off_is : (thrown tiles rack new : List ℕ) (k : ℕ) → thrown ≡ tiles → get_or rack k 0 ≤ get_or new k 0 + get_or thrown k 0 → get_or rack k 0 ≤ get_or new k 0 + get_or tiles k 0
off_is thrown tiles rack new k is gone = let same = ap (λ (xs : List ℕ). get_or xs k 0) is in omega (arith, gone, same)

-- neither rack changes, nor the tiles that wait
same_had : (c : Course) (known : Known) (racks next : Racks) → IsHad c known racks → next.first ≡ racks.first → next.second ≡ racks.second → IsHad c known next
same_had c known racks next had first second =
    record {
      first = λ k below. stays_had known.first racks.first next.first c.waiting.first c.waiting.first k (had.first k below) first refl;
      second = λ k below. stays_had known.second racks.second next.second c.waiting.second c.waiting.second k (had.second k below) second refl;
      laid = had.laid;
    }

had_after : (bag : List ℕ) (c : Course) (player : Seat) (what : Act) (known : Known) (held : Held) (next : Racks)
    → IsHad c known held.racks → MayAct c player what → AllowsAct player what held
    → ActsTo bag what held.thrown (rack_of held.racks player) (rack_of next player)
    → rack_of next (other_seat player) ≡ rack_of held.racks (other_seat player)
    → IsHad (act_course c player what) (moved_by player what known) next
had_after bag c First (act.Turns shown motion.Keeps) known held next had may allows acts stays = same_had c known held.racks next had acts stays
had_after bag c First (act.Turns shown (motion.Lays used drawn)) known held next had may allows acts stays =
    record {
      first = λ k below. refilled_is_had known.first used held.racks.first next.first c.waiting.first k below (had.first k below) (refilled_kinds bag drawn used _ _ acts k below).0;
      second = λ k below. stays_had known.second held.racks.second next.second c.waiting.second _ k (had.second k below) stays refl;
      laid = ap (λ (xs : List ℕ). joined xs used) had.laid;
    }
had_after bag c First (act.Turns shown (motion.Tries used)) known held next had may allows acts stays =
    record {
      first = λ k below. waits_had known.first used held.racks.first next.first c.waiting.first k below (had.first k below) (ap (λ (w : Racks). w.first) may.0) (acts k below);
      second = λ k below. stays_had known.second held.racks.second next.second c.waiting.second _ k (had.second k below) stays (ap (λ (w : Racks). w.second) may.0);
      laid = had.laid;
    }
had_after bag c First (act.Turns shown (motion.Throws tiles)) known held next had may allows acts stays =
    record {
      first = λ k below. refilled_is_had known.first tiles held.racks.first next.first c.waiting.first k below (had.first k below) (off_is held.thrown tiles held.racks.first next.first k allows.throws (refilled_kinds bag _ held.thrown _ _ acts k below).0);
      second = λ k below. stays_had known.second held.racks.second next.second c.waiting.second _ k (had.second k below) stays refl;
      laid = had.laid;
    }
had_after bag c First (act.Turns shown (motion.ThrowsUnknown n)) known held next had may allows acts stays =
    record {
      first = λ k below. anew_had next.first c.waiting.first k below;
      second = λ k below. stays_had known.second held.racks.second next.second c.waiting.second _ k (had.second k below) stays refl;
      laid = had.laid;
    }
had_after bag c First (act.TakesBack used) known held next had may allows acts stays =
    record {
      first = λ k below. back_had known.first used held.racks.first next.first c.waiting.first k (had.first k below) (ap (λ (w : Racks). w.first) may) (acts k below);
      second = λ k below. stays_had known.second held.racks.second next.second c.waiting.second _ k (had.second k below) stays (ap (λ (w : Racks). w.second) may);
      laid = had.laid;
    }
had_after bag c First (act.Ends holder tiles) known held next had may allows acts stays = same_had c known held.racks next had acts stays
had_after bag c First act.Rests known held next had may allows acts stays = same_had c known held.racks next had acts stays
had_after bag c Second (act.Turns shown motion.Keeps) known held next had may allows acts stays = same_had c known held.racks next had stays acts
had_after bag c Second (act.Turns shown (motion.Lays used drawn)) known held next had may allows acts stays =
    record {
      first = λ k below. stays_had known.first held.racks.first next.first c.waiting.first _ k (had.first k below) stays refl;
      second = λ k below. refilled_is_had known.second used held.racks.second next.second c.waiting.second k below (had.second k below) (refilled_kinds bag drawn used _ _ acts k below).0;
      laid = ap (λ (xs : List ℕ). joined xs used) had.laid;
    }
had_after bag c Second (act.Turns shown (motion.Tries used)) known held next had may allows acts stays =
    record {
      first = λ k below. stays_had known.first held.racks.first next.first c.waiting.first _ k (had.first k below) stays (ap (λ (w : Racks). w.first) may.0);
      second = λ k below. waits_had known.second used held.racks.second next.second c.waiting.second k below (had.second k below) (ap (λ (w : Racks). w.second) may.0) (acts k below);
      laid = had.laid;
    }
had_after bag c Second (act.Turns shown (motion.Throws tiles)) known held next had may allows acts stays =
    record {
      first = λ k below. stays_had known.first held.racks.first next.first c.waiting.first _ k (had.first k below) stays refl;
      second = λ k below. refilled_is_had known.second tiles held.racks.second next.second c.waiting.second k below (had.second k below) (off_is held.thrown tiles held.racks.second next.second k allows.throws (refilled_kinds bag _ held.thrown _ _ acts k below).0);
      laid = had.laid;
    }
had_after bag c Second (act.Turns shown (motion.ThrowsUnknown n)) known held next had may allows acts stays =
    record {
      first = λ k below. stays_had known.first held.racks.first next.first c.waiting.first _ k (had.first k below) stays refl;
      second = λ k below. anew_had next.second c.waiting.second k below;
      laid = had.laid;
    }
had_after bag c Second (act.TakesBack used) known held next had may allows acts stays =
    record {
      first = λ k below. stays_had known.first held.racks.first next.first c.waiting.first _ k (had.first k below) stays (ap (λ (w : Racks). w.first) may);
      second = λ k below. back_had known.second used held.racks.second next.second c.waiting.second k (had.second k below) (ap (λ (w : Racks). w.second) may) (acts k below);
      laid = had.laid;
    }
had_after bag c Second (act.Ends holder tiles) known held next had may allows acts stays = same_had c known held.racks next had stays acts
had_after bag c Second act.Rests known held next had may allows acts stays = same_had c known held.racks next had stays acts

-- ---- step by step

-- what is known is on the first racks, if there are any
abbrev IsHadFirst : Course → Known → List Held → Type 0
IsHadFirst c known [] = Unit {0}
IsHadFirst c known (held ∷ rest) = IsHad c known held.racks

had_next : (rules : Rules) (c : Course) (s : Step) (known : Known) (held : Held) (rest : List Held)
    → IsHad c known held.racks → MayAct c s.player s.act → AllowsAct s.player s.act held → FollowsTo rules s held rest
    → IsHadFirst (act_course c s.player s.act) (moved_by s.player s.act known) rest
had_next rules c s known held [] had may allows follows = tt
had_next rules c s known held (next ∷ rest) had may allows follows =
    had_after (in_bag rules s held.racks) c s.player s.act known held next.racks had may allows follows.acts follows.stays

no_bound_after : (rules : Rules) (c : Course) (past : List Step) (known : Known) (steps : List Step) (deal : List Held)
    → IsRunFrom c steps → Fits rules steps deal → IsKnown past known → IsHadFirst c known deal → first_bound_after rules past steps ≡ None
no_bound_after rules c past known [] deal run fits is had = refl
no_bound_after rules c past known (s ∷ steps) [] run fits is had = absurd fits
no_bound_after rules c past known (s ∷ steps) (held ∷ rest) run fits is had =
    let at = fits.0 in
    let on = run.0 in
    let shown = shown_is_had c s.player s.act known held had at.allows in
    let now = shown_by s.player s.act known in
    let none = none_at rules c s s.act now held.racks on at.adds_up shown (shown_first_long s.player s.act known is.first_long) (shown_second_long s.player s.act known is.second_long) on.may in
    let here : bound_at rules s past ≡ None = sym (known_bound rules s past known is) ∙ none in
    let more =
    no_bound_after rules (act_course c s.player s.act) (s ∷ past) (moved_by s.player s.act now) steps rest run.1 fits.2 (known_after s past known is)
    (had_next rules c s now held rest shown on.may at.allows fits.1)
    in
    rw here more

had_at_start : (rules : Rules) (deal : List Held) → IsHadFirst (first_course rules) nothing_known deal
unfolding nothing_known
had_at_start rules [] = tt
had_at_start rules (held ∷ rest) =
    record {
      first = λ k below. anew_had held.racks.first no_tiles k below;
      second = λ k below. anew_had held.racks.second no_tiles k below;
      laid = refl;
    }

-- The law: if racks fit, no bound is exceeded.
pub no_bound_where_racks_fit : (rules : Rules) (steps : List Step) (deal : List Held) → IsRun rules steps → Fits rules steps deal → first_bound rules steps ≡ None
no_bound_where_racks_fit rules steps deal run fits =
    no_bound_after rules (first_course rules) [] nothing_known steps deal run fits known_at_start (had_at_start rules deal)
