-- What the machine keeps of racks and of the latest play.
use Rattle.std.proofs.Common.{◌≡◌, ℕ, ℤ, ◌+◌, ◌-◌, ◌≤◌, ◌&&◌, not, Bool, true, false, List, length, Option, refl, sym, ap, ◌∙◌, subst, arith}
use Rattle.ref_tiles.specs.declared.tiles.Tile.{Tile}
use Rattle.std.specs.Prelude.{if◌then◌else◌}
use Rattle.ref_play.specs.declared.plays.Play.{Play}
use Rattle.ref_play.specs.Placements.{HasTiles}
use Rattle.gcg_read.specs.declared.events.Seat.{Seat}
use Rattle.gcg_read.specs.declared.events.Seat.TheVariants.{First, Second}
use Rattle.game_turns.specs.declared.latest.Laid.{Laid}
use Rattle.game_turns.specs.declared.latest.LatestEvent.{LatestEvent}
use Rattle.game_turns.specs.declared.latest.LatestEvent.TheVariants as latest
use Rattle.game_turns.specs.declared.sides.Side.{Side}
use Rattle.game_turns.specs.declared.sides.Sides.{Sides}
use Rattle.game_turns.specs.Seats.{same_seat, side_of, with_side, with_total, with_rack}
use Rattle.game_turns.specs.LatestEvents.{waiting_tiles, FitRacks, HoldsLatest}

-- the racks are the same
abbrev SameRacks : Sides → Sides → Type 0
SameRacks old new = (seat : Seat) → (side_of new seat).rack ≡ (side_of old seat).rack

-- racks that stay fit if no play awaits its withdrawal
idle_racks : (old new : Sides) (event : LatestEvent) → SameRacks old new → FitRacks old event → FitRacks new latest.Other
idle_racks old new event same fit seat = let s = same seat in let f = fit seat in omega arith

total_racks : (sides : Sides) (seat : Seat) (total : ℤ) → SameRacks sides (with_total sides seat total)
total_racks sides First total First = refl
total_racks sides First total Second = refl
total_racks sides Second total First = refl
total_racks sides Second total Second = refl

-- a side with other flags
flagged_racks : (sides : Sides) (seat : Seat) (side : Side) → side.rack ≡ (side_of sides seat).rack → SameRacks sides (with_side sides seat side)
flagged_racks sides First side is First = is
flagged_racks sides First side is Second = refl
flagged_racks sides Second side is First = refl
flagged_racks sides Second side is Second = is

pub fit_scored : (sides new : Sides) (event : LatestEvent) (seat : Seat) (total : ℤ) → FitRacks sides event → new ≡ with_total sides seat total → FitRacks new latest.Other
fit_scored sides new event seat total fit is =
    subst (λ s. FitRacks s latest.Other) (sym is) (idle_racks sides (with_total sides seat total) event (total_racks sides seat total) fit)

-- one player's other flags change no rack
pub fit_flagged : (sides new : Sides) (event : LatestEvent) (seat : Seat) (side : Side) → FitRacks sides event → side.rack ≡ (side_of sides seat).rack
    → new ≡ with_side sides seat side → FitRacks new event
fit_flagged sides new event seat side fit same is =
    subst (λ s. FitRacks s event) (sym is) (λ other. let s = flagged_racks sides seat side same other in let f = fit other in omega arith)

rack_same : (sides : Sides) (seat : Seat) (rack : ℕ) → (side_of (with_rack sides seat rack) seat).rack ≡ rack
rack_same sides First rack = refl
rack_same sides Second rack = refl

rack_other : (sides : Sides) (seat other : Seat) (rack : ℕ) → same_seat seat other ≡ false → (side_of (with_rack sides seat rack) other).rack ≡ (side_of sides other).rack
rack_other sides First First rack e = cc
rack_other sides First Second rack e = refl
rack_other sides Second First rack e = refl
rack_other sides Second Second rack e = cc

-- one player's rack is changed to a number that leaves room for the tiles of a play that awaits its withdrawal
fit_rack : (sides new : Sides) (old event : LatestEvent) (seat : Seat) (rack : ℕ) → FitRacks sides old → rack + waiting_tiles seat event ≤ 7
    → ((other : Seat) → same_seat seat other ≡ false → waiting_tiles other event ≡ 0) → new ≡ with_rack sides seat rack → FitRacks new event
fit_rack sides new old event First rack fit here none is =
    subst (λ s. FitRacks s event) (sym is) (λ seat. elim seat as (λ s. (side_of (with_rack sides First rack) s).rack + waiting_tiles s event ≤ 7) [
      | First ↦ here
      | Second ↦ let n = none Second refl in let f = fit Second in omega arith
    ])
fit_rack sides new old event Second rack fit here none is =
    subst (λ s. FitRacks s event) (sym is) (λ seat. elim seat as (λ s. (side_of (with_rack sides Second rack) s).rack + waiting_tiles s event ≤ 7) [
      | First ↦ let n = none First refl in let f = fit First in omega arith
      | Second ↦ here
    ])

-- no play that stands awaits a withdrawal
stands_none : (laid : Laid) (seat : Seat) → laid.stands ≡ true → waiting_tiles seat (latest.Played laid) ≡ 0
stands_none laid seat e = ap (λ b. if not b && same_seat laid.player seat then length laid.play.tiles.items else 0) e

-- the rack of a player whose total is set is the same
scored_rack : (sides new : Sides) (seat : Seat) (total : ℤ) → new ≡ with_total sides seat total → (side_of new seat).rack ≡ (side_of sides seat).rack
scored_rack sides new seat total is = ap (λ s. (side_of s seat).rack) is ∙ total_racks sides seat total seat

-- a play that stands: its player's total is set, and then the rack, which is no larger
pub fit_standing : (sides scored new : Sides) (event : LatestEvent) (seat : Seat) (total : ℤ) (rack : ℕ) (laid : Laid) → FitRacks sides event → scored ≡ with_total sides seat total
    → rack ≤ (side_of sides seat).rack → laid.stands ≡ true → new ≡ with_rack scored seat rack → FitRacks new (latest.Played laid)
fit_standing sides scored new event seat total rack laid fit totals less stands is =
    let idle = fit_scored sides scored event seat total fit totals in
    fit_rack scored new latest.Other (latest.Played laid) seat rack idle
    (let none = stands_none laid seat stands in let f = idle seat in let same = scored_rack sides scored seat total totals in omega arith)
    (λ other e. stands_none laid other stands) is

nothing : (b : Bool) (n : ℕ) → (if b && false then n else 0) ≡ 0
nothing true n = refl
nothing false n = refl

at_most : (a b : Bool) (n : ℕ) → (if a && b then n else 0) ≤ n
at_most true true n = omega arith
at_most true false n = omega arith
at_most false true n = omega arith
at_most false false n = omega arith

waits_few : (laid : Laid) (seat : Seat) → waiting_tiles seat (latest.Played laid) ≤ length laid.play.tiles.items
waits_few laid seat = at_most (not laid.stands) (same_seat laid.player seat) (length laid.play.tiles.items)

waits_other : (laid : Laid) (seat other : Seat) → laid.player ≡ seat → same_seat seat other ≡ false → waiting_tiles other (latest.Played laid) ≡ 0
waits_other laid seat other p e =
    ap (λ s. if not laid.stands && same_seat s other then length laid.play.tiles.items else 0) p
    ∙ ap (λ b. if not laid.stands && b then length laid.play.tiles.items else 0) e ∙ nothing (not laid.stands) (length laid.play.tiles.items)

-- a play that waits: its player's total is set, and its tiles are not on the rack
pub fit_waiting : (sides scored new : Sides) (event : LatestEvent) (seat : Seat) (total : ℤ) (rack : ℕ) (laid : Laid) → FitRacks sides event → scored ≡ with_total sides seat total
    → length laid.play.tiles.items ≤ (side_of sides seat).rack → rack ≡ (side_of sides seat).rack - length laid.play.tiles.items
    → laid.player ≡ seat → new ≡ with_rack scored seat rack → FitRacks new (latest.Played laid)
fit_waiting sides scored new event seat total rack laid fit totals few remaining player is =
    let idle = fit_scored sides scored event seat total fit totals in
    fit_rack scored new latest.Other (latest.Played laid) seat rack idle
    (let most = waits_few laid seat in let f = idle seat in let same = scored_rack sides scored seat total totals in omega arith)
    (λ other e. waits_other laid seat other player e) is

-- a play that was taken back left room on the rack
pub fit_taken : (sides new : Sides) (seat : Seat) (rack : ℕ) (play : Play) → FitRacks sides latest.Other → rack ≤ 7
    → new ≡ with_rack sides seat rack → FitRacks new (latest.TakenBack play)
fit_taken sides new seat rack play fit less is =
    fit_rack sides new latest.Other (latest.TakenBack play) seat rack fit (omega arith) (λ other e. refl) is

pub room_for : (sides : Sides) (laid : Laid) (seat : Seat) → FitRacks sides (latest.Played laid) → laid.stands ≡ false → same_seat laid.player seat ≡ true
    → (side_of sides seat).rack + length laid.play.tiles.items ≤ 7
room_for sides laid seat fit stands player =
    let is : waiting_tiles seat (latest.Played laid) ≡ length laid.play.tiles.items =
    ap (λ b. if not b && same_seat laid.player seat then length laid.play.tiles.items else 0) stands
    ∙ ap (λ b. if b then length laid.play.tiles.items else 0) player in
    let f = fit seat in omega arith

-- the board of the latest play
pub holds_other : (board : List (Option Tile)) → HoldsLatest board latest.Other
holds_other board laid e = cc

pub holds_taken : (board : List (Option Tile)) (play : Play) → HoldsLatest board (latest.TakenBack play)
holds_taken board play laid e = cc

pub holds_played : (board : List (Option Tile)) (laid : Laid) → HasTiles board laid.play.tiles.items → HoldsLatest board (latest.Played laid)
holds_played board laid has other e =
    let same : laid ≡ other = cc in subst (λ (x : Laid). HasTiles board x.play.tiles.items) same has
