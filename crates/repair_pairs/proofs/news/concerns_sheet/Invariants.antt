use Rattle.std.proofs.Common.{◌≡◌, ℕ, ◌<◌, ◌≤◌, slice_get, Some}
use Rattle.gcg_read.specs.declared.events.Event.{Event}
use Rattle.repair_pairs.proofs.news.concerns_sheet.Given as goal

abbrev pub invariant-loop-place : goal.invariant-loop-place
invariant-loop-place l = record { on_sheet : (k : ℕ) (e : Event) → l.change.place ≤ k → k < l.place → slice_get l.made k ≡ Some e → e.line ≡ 0 → ⊥ }
