-- What is inside before a step is inside before the next, except for what gets out.
use Rattle.std.proofs.Common.{◌≡◌, ℕ, ◌+◌, ◌-◌, ◌≤◌, min, ◌&&◌, not, Bool, true, false, List, length, refl, arith}
use Rattle.ref_tiles.specs.declared.rulebook.Rules.{Rules}
use Rattle.gcg_read.specs.declared.events.Seat.{Seat}
use Rattle.gcg_read.specs.declared.events.Seat.TheVariants.{First, Second}
use Rattle.deal_steps.specs.declared.steps.Step.{Step}
use Rattle.deal_steps.specs.declared.deals.Racks.{Racks}
use Rattle.deal_steps.specs.declared.deals.Held.{Held}
use Rattle.deal_steps.specs.Steps.{size_of, swaps}
use Rattle.deal_steps.specs.Fitting.{rack_of, in_bag, AddsUp}
use Rattle.deal_cuts.specs.declared.cuts.Places.{Places}
use Rattle.deal_cuts.specs.declared.flows.Flow.{Flow}
use Rattle.deal_cuts.specs.Cutting.{where_so, number_in, number_beside, inside_of, Carries}
use Rattle.deal_cuts.specs.Flowing.{leaving, coming, known_at, unknown_at, flow_of, gained_by, lost_by, BoardFollows, carried_to}
use Rattle.deal_cuts.proofs.Numbers.{bag_law}
use Rattle.deal_cuts.proofs.Parts.{counting_in, counting_beside, whole, bag_is, bag_size}
use Rattle.deal_cuts.proofs.RackFlows.{Passes, drawn_in, rack_law, drawn_law}
use Rattle.deal_cuts.proofs.Moving.{Moved, BothMoved, both_moved, strays, strays_number, known_there}

-- the tiles that are thrown without being known
abbrev stray : Seat → Step → Held → List ℕ
stray seat s held = strays seat s.player s.act held.thrown

-- a rack's numbers at a step
passes_by : (chosen : List Bool) (seat : Seat) (s next : Step) (held next_held : Held)
    → number_in chosen (rack_of held.racks seat) + number_beside chosen (rack_of held.racks seat) ≡ size_of s seat
    → number_in chosen (rack_of next_held.racks seat) + number_beside chosen (rack_of next_held.racks seat) ≡ size_of next seat
    → number_in chosen (known_at seat s) ≤ number_in chosen (rack_of held.racks seat)
    → number_beside chosen (known_at seat s) ≤ number_beside chosen (rack_of held.racks seat)
    → number_in chosen (stray seat s held) + number_beside chosen (stray seat s held) ≡ unknown_at seat s
    → Moved (number_in chosen (rack_of held.racks seat)) (number_in chosen (rack_of next_held.racks seat)) (number_in chosen (leaving seat s)) (number_in chosen (stray seat s held)) (number_in chosen (coming seat s))
    → Moved (number_beside chosen (rack_of held.racks seat)) (number_beside chosen (rack_of next_held.racks seat)) (number_beside chosen (leaving seat s)) (number_beside chosen (stray seat s held)) (number_beside chosen (coming seat s))
    → Passes (flow_of chosen seat s next)
    (number_in chosen (rack_of held.racks seat)) (number_beside chosen (rack_of held.racks seat))
    (number_in chosen (rack_of next_held.racks seat)) (number_beside chosen (rack_of next_held.racks seat))
    (number_in chosen (stray seat s held)) (number_beside chosen (stray seat s held)) (number_beside chosen (coming seat s))
unfolding flow_of
passes_by chosen seat s next held next_held size size2 known known_beside unknown moved moved_beside =
    record {
      size = size;
      known = known;
      known_beside = known_beside;
      off = moved.off;
      off_beside = moved_beside.off;
      gone = moved.gone;
      gone_beside = moved_beside.gone;
      unknown = unknown;
      drawn =
          let off = moved.off in
          let off_beside = moved_beside.off in
          let gone = moved.gone in
          let gone_beside = moved_beside.gone in
          omega (arith, size, size2, unknown, off, off_beside, gone, gone_beside);
    }

size_first : (chosen : List Bool) (rules : Rules) (s : Step) (racks : Racks) → AddsUp rules s racks → number_in chosen racks.first + number_beside chosen racks.first ≡ s.first
size_first chosen rules s racks adds = let all = whole chosen racks.first adds.first_kinds in let size = adds.first in omega (arith, all, size)

size_second : (chosen : List Bool) (rules : Rules) (s : Step) (racks : Racks) → AddsUp rules s racks → number_in chosen racks.second + number_beside chosen racks.second ≡ s.second
size_second chosen rules s racks adds = let all = whole chosen racks.second adds.second_kinds in let size = adds.second in omega (arith, all, size)

-- what is in the bag before the next step
bag_after : (gets : Bool) (board board_after one two bag after one_after two_after stray1 stray2 left1 left2 back1 back2 drawn1 drawn2 counts : ℕ)
    → board + one + two + bag ≡ counts → board_after + one_after + two_after + after ≡ counts
    → board_after + (back1 + back2) ≡ board + where_so (not gets) (left1 + left2)
    → one + back1 ≤ one_after + left1 + stray1 → two + back2 ≤ two_after + left2 + stray2
    → drawn1 ≡ one_after + left1 + stray1 - (one + back1) → drawn2 ≡ two_after + left2 + stray2 - (two + back2)
    → after + drawn1 + drawn2 ≡ bag + stray1 + stray2 + where_so gets (left1 + left2)
unfolding where_so
bag_after true board board_after one two bag after one_after two_after stray1 stray2 left1 left2 back1 back2 drawn1 drawn2 counts before next_sum follows gone1 gone2 is1 is2 = omega arith
bag_after false board board_after one two bag after one_after two_after stray1 stray2 left1 left2 back1 back2 drawn1 drawn2 counts before next_sum follows gone1 gone2 is1 is2 = omega arith

-- What is inside is carried over.
pub carries_on : (chosen : List Bool) (s next : Step) (from to : Places) (inside : ℕ) → length s.board ≡ 27 → BoardFollows chosen s next
    → Carries chosen s next from to inside (carried_to chosen s next from to inside)
unfolding inside_of carried_to BoardFollows flow_of
carries_on chosen s next from to inside long follows_board rules held next_held all fits follows fits_next below =
    let racks = held.racks in
    let racks2 = next_held.racks in
    let adds = fits.adds_up in
    let adds2 = fits_next.adds_up in
    let bag = in_bag rules s racks in
    let moved : BothMoved (number_in chosen) (in_bag rules s held.racks) s.player s.act held next_held.racks = both_moved (number_in chosen) (counting_in chosen) (in_bag rules s held.racks) s.player s.act held next_held.racks fits.allows follows.acts follows.stays in
    let beside : BothMoved (number_beside chosen) (in_bag rules s held.racks) s.player s.act held next_held.racks = both_moved (number_beside chosen) (counting_beside chosen) (in_bag rules s held.racks) s.player s.act held next_held.racks fits.allows follows.acts follows.stays in
    let first = passes_by chosen First s next held next_held (size_first chosen rules s racks adds) (size_first chosen rules next racks2 adds2)
    (known_there (number_in chosen) (counting_in chosen) First s.player s.act held fits.allows)
    (known_there (number_beside chosen) (counting_beside chosen) First s.player s.act held fits.allows)
    (strays_number chosen First s.player s.act held fits.allows adds.first_kinds adds.second_kinds) moved.first beside.first in
    let second = passes_by chosen Second s next held next_held (size_second chosen rules s racks adds) (size_second chosen rules next racks2 adds2)
    (known_there (number_in chosen) (counting_in chosen) Second s.player s.act held fits.allows)
    (known_there (number_beside chosen) (counting_beside chosen) Second s.player s.act held fits.allows)
    (strays_number chosen Second s.player s.act held fits.allows adds.first_kinds adds.second_kinds) moved.second beside.second in
    let f = flow_of chosen First s next in
    let g = flow_of chosen Second s next in
    let law1 = rack_law f from.bag from.first to.first to.bag _ _ _ _ _ _ _ first in
    let law2 = rack_law g from.bag from.second to.second to.bag _ _ _ _ _ _ _ second in
    let drawn1 = drawn_in f (number_in chosen racks.first) (number_in chosen racks2.first) (number_in chosen (stray First s held)) in
    let drawn2 = drawn_in g (number_in chosen racks.second) (number_in chosen racks2.second) (number_in chosen (stray Second s held)) in
    let before = bag_is (number_in chosen) (counting_in chosen) rules s racks adds in
    let after = bag_is (number_in chosen) (counting_in chosen) rules next racks2 adds2 in
    let whole_bag = bag_size chosen rules s racks all long adds in
    let both = drawn_law f g _ _ _ _ _ _ _ _ _ _ _ _ _ _ (number_in chosen bag) (number_beside chosen bag) s.bag first second moved.drawn beside.drawn whole_bag in
    let bags = bag_law from.bag to.bag (swaps s.act) (number_in chosen (in_bag rules s racks)) (number_in chosen (in_bag rules next racks2))
    drawn1 drawn2 (number_in chosen (stray First s held)) (number_in chosen (stray Second s held)) f.remaining_in g.remaining_in s.bag (f.drawn + g.drawn)
    (bag_after (swaps s.act) _ _ _ _ _ _ _ _ _ _ _ _ _ _ _ _ _ before after follows_board moved.first.gone moved.second.gone refl refl)
    both.0 both.1
    in
    omega (arith, bags, law1, law2, below)

-- ---- in the parts that the code makes

pub carried_is : (chosen : List Bool) (s next : Step) (from to : Places) (inside : ℕ) (f g : Flow) (gained1 gained2 lost1 lost2 rest out remaining : ℕ) {after : ℕ}
    → f ≡ flow_of chosen First s next → g ≡ flow_of chosen Second s next
    → gained1 ≡ gained_by f from.first to.first to.bag → gained2 ≡ gained_by g from.second to.second to.bag
    → lost1 ≡ lost_by f from.bag from.first to.first to.bag → lost2 ≡ lost_by g from.bag from.second to.second to.bag
    → rest ≡ s.bag - (f.drawn + g.drawn) → out ≡ where_so (from.bag && not to.bag) rest
    → remaining ≡ inside + (gained1 + gained2) - (lost1 + lost2 + out) → after ≡ min remaining 4294967296
    → after ≡ carried_to chosen s next from to inside
unfolding carried_to
carried_is chosen s next from to inside f g gained1 gained2 lost1 lost2 rest out remaining is is2 is3 is4 is5 is6 is7 is8 is9 is10 = cc
