-- The least and the greatest number that is inside before a step.
use Rattle.std.proofs.Common.{◌≡◌, inl, inr, ℕ, ◌+◌, ◌-◌, ◌≤◌, not, Bool, true, false, List, length, arith}
use Rattle.ref_tiles.specs.declared.rulebook.Rules.{Rules}
use Rattle.gcg_read.specs.declared.events.Seat.TheVariants.{First, Second}
use Rattle.deal_steps.specs.declared.steps.Step.{Step}
use Rattle.deal_steps.specs.Fitting.{in_bag}
use Rattle.deal_cuts.specs.declared.cuts.Places.{Places}
use Rattle.deal_cuts.specs.Cutting.{where_so, number_in, number_beside, inside_of, AreInside, AreTooMany}
use Rattle.deal_cuts.specs.Flowing.{known_at, at_least, IsOver}
use Rattle.deal_cuts.proofs.Parts.{counting_in, counting_beside, whole, bag_is, bag_size}
use Rattle.deal_cuts.proofs.Moving.{known_there}

-- a place has no more than its size, whether it is inside or outside
inside_by : (bag first second : Bool) (there one two beside_bag beside_one beside_two whole laid out_bag out_one out_two : ℕ)
    → laid + one + two + there ≡ whole → there + beside_bag ≡ out_bag → one + beside_one ≡ out_one → two + beside_two ≡ out_two
    → whole - laid - (where_so (not bag) out_bag + where_so (not first) out_one + where_so (not second) out_two)
    ≤ where_so bag there + where_so first one + where_so second two
unfolding where_so
inside_by true true true there one two bb b1 b2 whole laid ob o1 o2 sums bag first second = omega arith
inside_by true true false there one two bb b1 b2 whole laid ob o1 o2 sums bag first second = omega arith
inside_by true false true there one two bb b1 b2 whole laid ob o1 o2 sums bag first second = omega arith
inside_by true false false there one two bb b1 b2 whole laid ob o1 o2 sums bag first second = omega arith
inside_by false true true there one two bb b1 b2 whole laid ob o1 o2 sums bag first second = omega arith
inside_by false true false there one two bb b1 b2 whole laid ob o1 o2 sums bag first second = omega arith
inside_by false false true there one two bb b1 b2 whole laid ob o1 o2 sums bag first second = omega arith
inside_by false false false there one two bb b1 b2 whole laid ob o1 o2 sums bag first second = omega arith

pub least_inside : (chosen : List Bool) (places : Places) (rules : Rules) (s : Step) → length rules.counts ≡ 27 → length s.board ≡ 27
    → AreInside chosen places rules s (at_least chosen places rules s)
unfolding inside_of at_least
least_inside chosen places rules s long long2 held fits =
    let adds = fits.adds_up in
    let racks = held.racks in
    let first = whole chosen racks.first adds.first_kinds in
    let second = whole chosen racks.second adds.second_kinds in
    inside_by places.bag places.first places.second
    (number_in chosen (in_bag rules s racks)) (number_in chosen racks.first) (number_in chosen racks.second)
    (number_beside chosen (in_bag rules s racks)) (number_beside chosen racks.first) (number_beside chosen racks.second)
    (number_in chosen rules.counts) (number_in chosen s.board) s.bag s.first s.second
    (bag_is (number_in chosen) (counting_in chosen) rules s racks adds)
    (bag_size chosen rules s racks long long2 adds)
    (let size = adds.first in omega (arith, first, size))
    (let size = adds.second in omega (arith, second, size))

-- the places that are inside have room for all that is in them
room_by : (bag first second : Bool) (there one two beside_bag beside_one beside_two out_bag out_one out_two known_one known_two inside : ℕ)
    → there + beside_bag ≡ out_bag → one + beside_one ≡ out_one → two + beside_two ≡ out_two → known_one ≤ beside_one → known_two ≤ beside_two
    → inside ≤ where_so bag there + where_so first one + where_so second two
    → inside + where_so first known_one + where_so second known_two ≤ where_so bag out_bag + where_so first out_one + where_so second out_two
unfolding where_so
room_by true true true there one two bb b1 b2 ob o1 o2 k1 k2 inside bag first second has has2 below = omega arith
room_by true true false there one two bb b1 b2 ob o1 o2 k1 k2 inside bag first second has has2 below = omega arith
room_by true false true there one two bb b1 b2 ob o1 o2 k1 k2 inside bag first second has has2 below = omega arith
room_by true false false there one two bb b1 b2 ob o1 o2 k1 k2 inside bag first second has has2 below = omega arith
room_by false true true there one two bb b1 b2 ob o1 o2 k1 k2 inside bag first second has has2 below = omega arith
room_by false true false there one two bb b1 b2 ob o1 o2 k1 k2 inside bag first second has has2 below = omega arith
room_by false false true there one two bb b1 b2 ob o1 o2 k1 k2 inside bag first second has has2 below = omega arith
room_by false false false there one two bb b1 b2 ob o1 o2 k1 k2 inside bag first second has has2 below = omega arith

-- all tiles that are inside, on the board or known to be outside are in the game
shown_by : (bag first second : Bool) (there one two whole laid known_one known_two inside : ℕ)
    → laid + one + two + there ≡ whole → known_one ≤ one → known_two ≤ two
    → inside ≤ where_so bag there + where_so first one + where_so second two
    → laid + inside + where_so (not first) known_one + where_so (not second) known_two ≤ whole
unfolding where_so
shown_by true true true there one two whole laid k1 k2 inside sums has has2 below = omega arith
shown_by true true false there one two whole laid k1 k2 inside sums has has2 below = omega arith
shown_by true false true there one two whole laid k1 k2 inside sums has has2 below = omega arith
shown_by true false false there one two whole laid k1 k2 inside sums has has2 below = omega arith
shown_by false true true there one two whole laid k1 k2 inside sums has has2 below = omega arith
shown_by false true false there one two whole laid k1 k2 inside sums has has2 below = omega arith
shown_by false false true there one two whole laid k1 k2 inside sums has has2 below = omega arith
shown_by false false false there one two whole laid k1 k2 inside sums has has2 below = omega arith

-- if more are inside than there can be, there is no deal
pub over_is_too_many : (chosen : List Bool) (places : Places) (rules : Rules) (s : Step) (inside : ℕ) → length rules.counts ≡ 27 → length s.board ≡ 27
    → IsOver chosen places rules s inside → AreTooMany chosen places rules s inside
unfolding inside_of
over_is_too_many chosen places rules s inside long long2 (inl over) held fits below =
    let adds = fits.adds_up in
    let racks = held.racks in
    let first = whole chosen racks.first adds.first_kinds in
    let second = whole chosen racks.second adds.second_kinds in
    let size = adds.first in
    let size2 = adds.second in
    let one : number_in chosen racks.first + number_beside chosen racks.first ≡ s.first = omega (arith, first, size) in
    let two : number_in chosen racks.second + number_beside chosen racks.second ≡ s.second = omega (arith, second, size2) in
    let room = room_by places.bag places.first places.second
    (number_in chosen (in_bag rules s racks)) (number_in chosen racks.first) (number_in chosen racks.second)
    (number_beside chosen (in_bag rules s racks)) (number_beside chosen racks.first) (number_beside chosen racks.second)
    s.bag s.first s.second (number_beside chosen (known_at First s)) (number_beside chosen (known_at Second s)) inside
    (bag_size chosen rules s racks long long2 adds) one two
    (known_there (number_beside chosen) (counting_beside chosen) First s.player s.act held fits.allows)
    (known_there (number_beside chosen) (counting_beside chosen) Second s.player s.act held fits.allows)
    below
    in
    omega (arith, over, room)
over_is_too_many chosen places rules s inside long long2 (inr over) held fits below =
    let adds = fits.adds_up in
    let racks = held.racks in
    let shown = shown_by places.bag places.first places.second
    (number_in chosen (in_bag rules s racks)) (number_in chosen racks.first) (number_in chosen racks.second)
    (number_in chosen rules.counts) (number_in chosen s.board) (number_in chosen (known_at First s)) (number_in chosen (known_at Second s)) inside
    (bag_is (number_in chosen) (counting_in chosen) rules s racks adds)
    (known_there (number_in chosen) (counting_in chosen) First s.player s.act held fits.allows)
    (known_there (number_in chosen) (counting_in chosen) Second s.player s.act held fits.allows)
    below
    in
    omega (arith, over, shown)

-- ---- in the parts that the code makes

pub least_is : (chosen : List Bool) (places : Places) (rules : Rules) (s : Step) (all laid one two three unlaid : ℕ) {least : ℕ}
    → all ≡ number_in chosen rules.counts → laid ≡ number_in chosen s.board
    → one ≡ where_so (not places.bag) s.bag → two ≡ where_so (not places.first) s.first → three ≡ where_so (not places.second) s.second
    → unlaid ≡ all - laid → least ≡ unlaid - (one + two + three) → least ≡ at_least chosen places rules s
unfolding at_least
least_is chosen places rules s all laid one two three unlaid is is2 is3 is4 is5 is6 is7 = cc

-- what is inside, or known about a rack
pub beside_is : (chosen : List Bool) (so : Bool) (tiles known : List ℕ) {number counted : ℕ} → known ≡ tiles → number ≡ number_beside chosen known → counted ≡ where_so so number
    → counted ≡ where_so so (number_beside chosen tiles)
beside_is chosen so tiles known is is2 is3 = cc

pub within_is : (chosen : List Bool) (so : Bool) (tiles known : List ℕ) {number counted : ℕ} → known ≡ tiles → number ≡ number_in chosen known → counted ≡ where_so so number
    → counted ≡ where_so so (number_in chosen tiles)
within_is chosen so tiles known is is2 is3 = cc
