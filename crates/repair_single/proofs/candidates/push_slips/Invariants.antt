use Rattle.std.proofs.Common.{◌≡◌, List, map, length}
use Rattle.repair_slips.specs.Changes.{change_at}
use Rattle.repair_changes.specs.declared.slips.Change.{Change}
use Rattle.repair_single.specs.Weighers.{wrong_by}
use Rattle.repair_single.specs.Candidates.{AddsAllOf}
use Rattle.repair_single.specs.Listing.{changes_with}
use Rattle.repair_single.proofs.PlaceChanges.{IsUpTo}
use Rattle.repair_single.proofs.candidates.push_slips.Given as goal

abbrev pub invariant-loop-slip : goal.invariant-loop-slip
invariant-loop-slip l =
    record {
      so_far : (plays : List Change) → map (change_at l.place) l.fn.slips.items ≡ changes_with l.rules l.events plays l.place
          → AddsAllOf (wrong_by l.weigher) l.rules l.list l.events plays l.below (IsUpTo l.place l.index) l.fn.found.items l.found.items;
      counted : l.index ≡ length l.yielded;
    }
