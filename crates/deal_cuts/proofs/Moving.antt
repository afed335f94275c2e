-- What moves at a step, in every deal that fits: the known tiles that leave a rack, those that are thrown without being known,
-- those that come back from the board, and those that are drawn.
use Rattle.std.proofs.Common.{◌≡◌, ℕ, ◌+◌, ◌<◌, ◌≤◌, Bool, cond, List, length, get_or, refl, ap, ◌∙◌, arith}
use Rattle.ref_tiles.specs.Counting.{no_tiles}
use Rattle.gcg_read.specs.Players.{other_seat, same_seat}
use Rattle.gcg_read.specs.declared.events.Seat.{Seat}
use Rattle.gcg_read.specs.declared.events.Seat.TheVariants.{First, Second}
use Rattle.deal_steps.specs.declared.steps.Motion.{Motion}
use Rattle.deal_steps.specs.declared.steps.Motion.TheVariants as motion
use Rattle.deal_steps.specs.declared.steps.Act.{Act}
use Rattle.deal_steps.specs.declared.steps.Act.TheVariants as act
use Rattle.deal_steps.specs.declared.deals.Racks.{Racks}
use Rattle.deal_steps.specs.declared.deals.Held.{Held}
use Rattle.deal_steps.specs.Piles.{greater}
use Rattle.deal_steps.specs.Steps.{used_by, of_act, needed_of}
use Rattle.deal_steps.specs.Fitting.{rack_of, AllowsAct, ActsTo, IsRefilled}
use Rattle.deal_steps.proofs.PileLaws.{get-no_tiles, get-greater}
use Rattle.deal_steps.proofs.Refills.{refilled_kinds}
use Rattle.deal_cuts.specs.Cutting.{number_in, number_beside}
use Rattle.deal_cuts.specs.Flowing.{tiles_of, taken_back, unknown_of}
use Rattle.deal_cuts.proofs.Parts.{IsCounting, counting_in, counting_beside, whole_within}

-- ---- by player and act

-- the tiles that an act throws without their being known
abbrev pub strays_by : Motion → (thrown : List ℕ) → List ℕ
strays_by motion.Keeps thrown = no_tiles
strays_by (motion.Lays used drawn) thrown = no_tiles
strays_by (motion.Tries used) thrown = no_tiles
strays_by (motion.Throws tiles) thrown = no_tiles
strays_by (motion.ThrowsUnknown n) thrown = thrown

abbrev pub strays_in : Act → (thrown : List ℕ) → List ℕ
strays_in (act.Turns shown what) thrown = strays_by what thrown
strays_in (act.TakesBack used) thrown = no_tiles
strays_in (act.Ends holder tiles) thrown = no_tiles
strays_in act.Rests thrown = no_tiles

-- what leaves a rack, comes back to it, and strays from it
abbrev pub leaves : Seat → (player : Seat) → Act → List ℕ
leaves seat player what = cond (same_seat player seat) (of_act used_by what) no_tiles

abbrev pub comes : Seat → (player : Seat) → Act → List ℕ
comes seat player what = cond (same_seat player seat) (taken_back what) no_tiles

abbrev pub strays : Seat → (player : Seat) → Act → (thrown : List ℕ) → List ℕ
strays seat player what thrown = cond (same_seat player seat) (strays_in what thrown) no_tiles

-- ---- one rack, kind by kind

-- Tiles leave a rack, others come to it, from the board or from the bag.
record Moves (bag rack new remaining thrown back : List ℕ) : Type 0 where
  off : (k : ℕ) → k < 27 → get_or remaining k 0 + get_or thrown k 0 ≤ get_or rack k 0
  gone : (k : ℕ) → k < 27 → get_or rack k 0 + get_or back k 0 ≤ get_or new k 0 + get_or remaining k 0 + get_or thrown k 0
  drawn : (k : ℕ) → k < 27 → get_or new k 0 + get_or remaining k 0 + get_or thrown k 0 ≤ get_or rack k 0 + get_or back k 0 + get_or bag k 0

stays : (bag rack new : List ℕ) → new ≡ rack → Moves bag rack new no_tiles no_tiles no_tiles
stays bag rack new same =
    record {
      off = λ k small. let none = get-no_tiles k small in omega (arith, none);
      gone = λ k small. let none = get-no_tiles k small in let here = ap (λ (xs : List ℕ). get_or xs k 0) same in omega (arith, none, here);
      drawn = λ k small. let none = get-no_tiles k small in let here = ap (λ (xs : List ℕ). get_or xs k 0) same in omega (arith, none, here);
    }

known_refill : (bag : List ℕ) (number : ℕ) (off tiles rack new : List ℕ) → off ≡ tiles → ((k : ℕ) → get_or tiles k 0 ≤ get_or rack k 0) → IsRefilled bag number off rack new
    → Moves bag rack new tiles no_tiles no_tiles
known_refill bag number off tiles rack new same there is =
    record {
      off = λ k small. let none = get-no_tiles k small in let has = there k in omega (arith, none, has);
      gone = λ k small.
          let none = get-no_tiles k small in
          let here = ap (λ (xs : List ℕ). get_or xs k 0) same in
          let parts = refilled_kinds bag number off rack new is k small in
          omega (arith, none, here, parts.0);
      drawn = λ k small.
          let none = get-no_tiles k small in
          let here = ap (λ (xs : List ℕ). get_or xs k 0) same in
          let parts = refilled_kinds bag number off rack new is k small in
          omega (arith, none, here, parts.1);
    }

unknown_refill : (bag : List ℕ) (number : ℕ) (thrown rack new : List ℕ) → ((k : ℕ) → get_or thrown k 0 ≤ get_or rack k 0) → IsRefilled bag number thrown rack new
    → Moves bag rack new no_tiles thrown no_tiles
unknown_refill bag number thrown rack new there is =
    record {
      off = λ k small. let none = get-no_tiles k small in let has = there k in omega (arith, none, has);
      gone = λ k small.
          let none = get-no_tiles k small in
          let parts = refilled_kinds bag number thrown rack new is k small in
          omega (arith, none, parts.0);
      drawn = λ k small.
          let none = get-no_tiles k small in
          let parts = refilled_kinds bag number thrown rack new is k small in
          omega (arith, none, parts.1);
    }

tried : (bag used rack new : List ℕ) → ((k : ℕ) → k < 27 → get_or new k 0 + get_or used k 0 ≡ get_or rack k 0) → Moves bag rack new used no_tiles no_tiles
tried bag used rack new less =
    record {
      off = λ k small. let none = get-no_tiles k small in let here = less k small in omega (arith, none, here);
      gone = λ k small. let none = get-no_tiles k small in let here = less k small in omega (arith, none, here);
      drawn = λ k small. let none = get-no_tiles k small in let here = less k small in omega (arith, none, here);
    }

came_back : (bag used rack new : List ℕ) → ((k : ℕ) → k < 27 → get_or rack k 0 + get_or used k 0 ≡ get_or new k 0) → Moves bag rack new no_tiles no_tiles used
came_back bag used rack new less =
    record {
      off = λ k small. let none = get-no_tiles k small in omega (arith, none);
      gone = λ k small. let none = get-no_tiles k small in let here = less k small in omega (arith, none, here);
      drawn = λ k small. let none = get-no_tiles k small in let here = less k small in omega (arith, none, here);
    }

-- the rack of the player of a step
moves_own : (bag : List ℕ) (player : Seat) (what : Act) (held : Held) (new : List ℕ) → AllowsAct player what held → ActsTo bag what held.thrown (rack_of held.racks player) new
    → Moves bag (rack_of held.racks player) new (of_act used_by what) (strays_in what held.thrown) (taken_back what)
moves_own bag player (act.Turns shown motion.Keeps) held new allows acts = stays bag (rack_of held.racks player) new acts
moves_own bag player (act.Turns shown (motion.Lays used drawn)) held new allows acts = known_refill bag drawn used used (rack_of held.racks player) new refl allows.has_used acts
moves_own bag player (act.Turns shown (motion.Tries used)) held new allows acts = tried bag used (rack_of held.racks player) new acts
moves_own bag player (act.Turns shown (motion.Throws tiles)) held new allows acts =
    known_refill bag _ held.thrown tiles (rack_of held.racks player) new allows.throws allows.has_used acts
moves_own bag player (act.Turns shown (motion.ThrowsUnknown n)) held new allows acts =
    unknown_refill bag _ held.thrown (rack_of held.racks player) new allows.has_thrown acts
moves_own bag player (act.TakesBack used) held new allows acts = came_back bag used (rack_of held.racks player) new acts
moves_own bag player (act.Ends holder tiles) held new allows acts = stays bag (rack_of held.racks player) new acts
moves_own bag player act.Rests held new allows acts = stays bag (rack_of held.racks player) new acts

-- ---- by number

-- Tiles leave a rack, and others come.
pub record Moved (rack new remaining thrown back : ℕ) : Type 0 where
  pub off : remaining + thrown ≤ rack
  pub gone : rack + back ≤ new + remaining + thrown

off_by : (n : List ℕ → ℕ) → IsCounting n → (bag rack new remaining thrown back : List ℕ) → Moves bag rack new remaining thrown back
    → Moved (n rack) (n new) (n remaining) (n thrown) (n back)
off_by n counting bag rack new remaining thrown back moves =
    let none = counting.none in
    let off = counting.sums remaining thrown no_tiles no_tiles rack no_tiles no_tiles no_tiles
    (λ k small. let zero_there = get-no_tiles k small in let here = moves.off k small in omega (arith, zero_there, here)) in
    let gone = counting.sums rack back no_tiles no_tiles new remaining thrown no_tiles
    (λ k small. let zero_there = get-no_tiles k small in let here = moves.gone k small in omega (arith, zero_there, here)) in
    record { off = omega (arith, none, off); gone = omega (arith, none, gone) }

drawn_by : (n : List ℕ → ℕ) → IsCounting n → (bag rack new remaining thrown back : List ℕ) → Moves bag rack new remaining thrown back
    → n new + n remaining + n thrown ≤ n rack + n back + n bag
drawn_by n counting bag rack new remaining thrown back moves =
    let none = counting.none in
    let drawn = counting.sums new remaining thrown no_tiles rack back bag no_tiles
    (λ k small. let zero_there = get-no_tiles k small in let here = moves.drawn k small in omega (arith, zero_there, here)) in
    omega (arith, none, drawn)

-- and what is drawn to one rack if the other stays
drawn_beside : (n : List ℕ → ℕ) → IsCounting n → (bag rack new remaining thrown back other next : List ℕ) → Moves bag rack new remaining thrown back → next ≡ other
    → n new + n remaining + n thrown + (n next + n no_tiles + n no_tiles) ≤ n rack + n back + (n other + n no_tiles) + n bag
drawn_beside n counting bag rack new remaining thrown back other next moves same =
    let drawn = drawn_by n counting bag rack new remaining thrown back moves in
    let number = ap n same in
    let none = counting.none in
    omega (arith, drawn, number, none)

-- Both racks at a step, and what comes from the bag to them.
pub record BothMoved (n : List ℕ → ℕ) (bag : List ℕ) (player : Seat) (what : Act) (held : Held) (next : Racks) : Type 0 where
  pub first : Moved (n held.racks.first) (n next.first) (n (leaves First player what)) (n (strays First player what held.thrown)) (n (comes First player what))
  pub second : Moved (n held.racks.second) (n next.second) (n (leaves Second player what)) (n (strays Second player what held.thrown)) (n (comes Second player what))
  pub drawn :
      n next.first + n (leaves First player what) + n (strays First player what held.thrown)
      + (n next.second + n (leaves Second player what) + n (strays Second player what held.thrown))
      ≤ n held.racks.first + n (comes First player what) + (n held.racks.second + n (comes Second player what)) + n bag

pub both_moved : (n : List ℕ → ℕ) → IsCounting n → (bag : List ℕ) (player : Seat) (what : Act) (held : Held) (next : Racks) → AllowsAct player what held
    → ActsTo bag what held.thrown (rack_of held.racks player) (rack_of next player) → rack_of next (other_seat player) ≡ rack_of held.racks (other_seat player)
    → BothMoved n bag player what held next
both_moved n counting bag First what held next allows acts same =
    let own = moves_own bag First what held next.first allows acts in
    let other = stays bag held.racks.second next.second same in
    record {
      first = off_by n counting bag _ _ _ _ _ own;
      second = off_by n counting bag _ _ _ _ _ other;
      drawn = drawn_beside n counting bag _ _ _ _ _ held.racks.second next.second own same;
    }
both_moved n counting bag Second what held next allows acts same =
    let own = moves_own bag Second what held next.second allows acts in
    let other = stays bag held.racks.first next.first same in
    let drawn = drawn_beside n counting bag _ _ _ _ _ held.racks.first next.first own same in
    record {
      first = off_by n counting bag _ _ _ _ _ other;
      second = off_by n counting bag _ _ _ _ _ own;
      drawn = omega (arith, drawn);
    }

-- ---- what is thrown without being known

none_in : (chosen : List Bool) → number_in chosen no_tiles + number_beside chosen no_tiles ≡ 0
none_in chosen =
    let one = (counting_in chosen).none in
    let two = (counting_beside chosen).none in
    omega (arith, one, two)

strays_are : (chosen : List Bool) (player : Seat) (what : Act) (held : Held) → AllowsAct player what held → length (rack_of held.racks player) ≡ 27
    → number_in chosen (strays_in what held.thrown) + number_beside chosen (strays_in what held.thrown) ≡ unknown_of what
strays_are chosen player (act.Turns shown motion.Keeps) held allows long = none_in chosen
strays_are chosen player (act.Turns shown (motion.Lays used drawn)) held allows long = none_in chosen
strays_are chosen player (act.Turns shown (motion.Tries used)) held allows long = none_in chosen
strays_are chosen player (act.Turns shown (motion.Throws tiles)) held allows long = none_in chosen
strays_are chosen player (act.Turns shown (motion.ThrowsUnknown n)) held allows long =
    whole_within chosen held.thrown (rack_of held.racks player) long allows.has_thrown ∙ allows.throws
strays_are chosen player (act.TakesBack used) held allows long = none_in chosen
strays_are chosen player (act.Ends holder tiles) held allows long = none_in chosen
strays_are chosen player act.Rests held allows long = none_in chosen

pub strays_number : (chosen : List Bool) (seat player : Seat) (what : Act) (held : Held) → AllowsAct player what held
    → length held.racks.first ≡ 27 → length held.racks.second ≡ 27
    → number_in chosen (strays seat player what held.thrown) + number_beside chosen (strays seat player what held.thrown) ≡ cond (same_seat player seat) (unknown_of what) 0
strays_number chosen First First what held allows long long2 = strays_are chosen First what held allows long
strays_number chosen First Second what held allows long long2 = none_in chosen
strays_number chosen Second First what held allows long long2 = none_in chosen
strays_number chosen Second Second what held allows long long2 = strays_are chosen Second what held allows long2

-- ---- what is known about a rack

number_less : (n : List ℕ → ℕ) → IsCounting n → (tiles rack : List ℕ) → ((k : ℕ) → k < 27 → get_or tiles k 0 ≤ get_or rack k 0) → n tiles ≤ n rack
number_less n counting tiles rack less =
    let none = counting.none in
    let sums = counting.sums tiles no_tiles no_tiles no_tiles rack no_tiles no_tiles no_tiles
    (λ k small. let zero_there = get-no_tiles k small in let here = less k small in omega (arith, zero_there, here)) in
    omega (arith, none, sums)

has_none : (n : List ℕ → ℕ) → IsCounting n → (rack : List ℕ) → n no_tiles ≤ n rack
has_none n counting rack = let none = counting.none in omega (arith, none)

has_turn : (n : List ℕ → ℕ) → IsCounting n → (shown used rack : List ℕ) → ((k : ℕ) → get_or shown k 0 ≤ get_or rack k 0) → ((k : ℕ) → get_or used k 0 ≤ get_or rack k 0)
    → n (greater shown used) ≤ n rack
has_turn n counting shown used rack one two =
    number_less n counting (greater shown used) rack
    (λ k small. let most = get-greater shown used k small in let first = one k in let second = two k in omega (arith, most, first, second))

has_last : (n : List ℕ → ℕ) → IsCounting n → (tiles rack : List ℕ) → rack ≡ tiles → n tiles ≤ n rack
has_last n counting tiles rack same = let number = ap n same in omega (arith, number)

pub known_there : (n : List ℕ → ℕ) → IsCounting n → (seat player : Seat) (what : Act) (held : Held) → AllowsAct player what held
    → n (tiles_of (needed_of seat player what)) ≤ n (rack_of held.racks seat)
known_there n counting First First (act.Turns shown what) held allows = has_turn n counting shown (used_by what) held.racks.first allows.has_shown allows.has_used
known_there n counting First Second (act.Turns shown what) held allows = has_none n counting held.racks.first
known_there n counting Second First (act.Turns shown what) held allows = has_none n counting held.racks.second
known_there n counting Second Second (act.Turns shown what) held allows = has_turn n counting shown (used_by what) held.racks.second allows.has_shown allows.has_used
known_there n counting seat player (act.TakesBack used) held allows = has_none n counting (rack_of held.racks seat)
known_there n counting First player (act.Ends First tiles) held allows = has_last n counting tiles held.racks.first allows.1
known_there n counting First player (act.Ends Second tiles) held allows = has_none n counting held.racks.first
known_there n counting Second player (act.Ends First tiles) held allows = has_none n counting held.racks.second
known_there n counting Second player (act.Ends Second tiles) held allows = has_last n counting tiles held.racks.second allows.1
known_there n counting seat player act.Rests held allows = has_none n counting (rack_of held.racks seat)
