-- What a rack gains and loses.
use Rattle.std.proofs.Common.{◌≡◌, ℕ, ◌+◌, ◌-◌, ◌≤◌, ◌&&◌, Bool, true, false, arith}
use Rattle.deal_cuts.specs.declared.flows.Flow.{Flow}
use Rattle.deal_cuts.specs.Cutting.{where_so}
use Rattle.deal_cuts.specs.Flowing.{others_of, strays_of, gained_by, lost_by}

-- The tiles of a rack before a step and before the next, those that were thrown without being known, and those that came back from
-- the board: the numbers of chosen kinds and of others.
pub record Passes (f : Flow) (rack beside new new_beside thrown thrown_beside back_beside : ℕ) : Type 0 where
  pub size : rack + beside ≡ f.size
  pub known : f.known_in ≤ rack
  pub known_beside : f.known_beside ≤ beside
  pub off : f.remaining_in + thrown ≤ rack
  pub off_beside : f.remaining_beside + thrown_beside ≤ beside
  pub gone : rack + f.back_in ≤ new + f.remaining_in + thrown
  pub gone_beside : beside + back_beside ≤ new_beside + f.remaining_beside + thrown_beside
  pub unknown : thrown + thrown_beside ≡ f.unknown
  pub drawn : f.drawn + (f.size + f.back_in + back_beside) ≡ new + new_beside + f.remaining_in + f.remaining_beside + f.unknown

-- the number of tiles of the chosen kinds that are drawn
abbrev pub drawn_in : Flow → (rack new thrown : ℕ) → ℕ
drawn_in f rack new thrown = new + f.remaining_in + thrown - (rack + f.back_in)

pub rack_law : (f : Flow) (bag_was was stays bag : Bool) (rack beside new new_beside thrown thrown_beside back_beside : ℕ)
    → Passes f rack beside new new_beside thrown thrown_beside back_beside
    → gained_by f was stays bag + where_so was rack + where_so bag_was (drawn_in f rack new thrown)
    ≤ lost_by f bag_was was stays bag + where_so stays new + where_so bag thrown + where_so (f.to_bag && bag) f.remaining_in
unfolding others_of strays_of gained_by lost_by where_so
rack_law f true true true true rack beside new new_beside thrown thrown_beside back_beside p = omega arith
rack_law f true true true false rack beside new new_beside thrown thrown_beside back_beside p = omega arith
rack_law f true true false true rack beside new new_beside thrown thrown_beside back_beside p = omega arith
rack_law f true true false false rack beside new new_beside thrown thrown_beside back_beside p = omega arith
rack_law f true false true true rack beside new new_beside thrown thrown_beside back_beside p = omega arith
rack_law f true false true false rack beside new new_beside thrown thrown_beside back_beside p = omega arith
rack_law f true false false true rack beside new new_beside thrown thrown_beside back_beside p = omega arith
rack_law f true false false false rack beside new new_beside thrown thrown_beside back_beside p = omega arith
rack_law f false true true true rack beside new new_beside thrown thrown_beside back_beside p = omega arith
rack_law f false true true false rack beside new new_beside thrown thrown_beside back_beside p = omega arith
rack_law f false true false true rack beside new new_beside thrown thrown_beside back_beside p = omega arith
rack_law f false true false false rack beside new new_beside thrown thrown_beside back_beside p = omega arith
rack_law f false false true true rack beside new new_beside thrown thrown_beside back_beside p = omega arith
rack_law f false false true false rack beside new new_beside thrown thrown_beside back_beside p = omega arith
rack_law f false false false true rack beside new new_beside thrown thrown_beside back_beside p = omega arith
rack_law f false false false false rack beside new new_beside thrown thrown_beside back_beside p = omega arith

-- For two racks: the tiles of the chosen kinds that are drawn are in the bag, and so are the others that are drawn.
pub drawn_law : (f g : Flow) (one one_beside new new_beside thrown thrown_beside back_beside two two_beside new2 new2_beside thrown2 thrown2_beside back2_beside bag bag_beside size : ℕ)
    → Passes f one one_beside new new_beside thrown thrown_beside back_beside
    → Passes g two two_beside new2 new2_beside thrown2 thrown2_beside back2_beside
    → new + f.remaining_in + thrown + (new2 + g.remaining_in + thrown2) ≤ one + f.back_in + (two + g.back_in) + bag
    → new_beside + f.remaining_beside + thrown_beside + (new2_beside + g.remaining_beside + thrown2_beside) ≤ one_beside + back_beside + (two_beside + back2_beside) + bag_beside
    → bag + bag_beside ≡ size
    → (drawn_in f one new thrown + drawn_in g two new2 thrown2 ≤ bag) × (bag + (f.drawn + g.drawn) ≤ size + drawn_in f one new thrown + drawn_in g two new2 thrown2)
drawn_law f g one one_beside new new_beside thrown thrown_beside back_beside two two_beside new2 new2_beside thrown2 thrown2_beside back2_beside bag bag_beside size p q few few_beside whole =
    (omega arith, omega arith)
