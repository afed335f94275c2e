use Rattle.std.proofs.Common.{◌≡◌, List, length}
use Rattle.repair_changes.specs.declared.slips.Change.{Change}
use Rattle.repair_single.specs.Weighers.{wrong_by}
use Rattle.repair_single.specs.Candidates.{AreCandidates}
use Rattle.repair_single.proofs.FirstOnes.{AreSoFar}
use Rattle.repair_single.proofs.finding.first_repairs.Given as goal

abbrev pub invariant-loop-candidate : goal.invariant-loop-candidate
invariant-loop-candidate l =
    record {
      so_far : (plays : List Change) → AreCandidates (wrong_by l.weigher) l.rules l.list l.events plays l.fn.below l.fn.from l.fn.found.items
          → AreSoFar (wrong_by l.weigher) l.rules l.list l.events plays l.fn.below l.most l.fn.found.items (length l.yielded) l.first.reported.items l.first.remaining.items;
      from : l.first.from ≡ l.fn.from;
    }
