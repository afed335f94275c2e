-- The loop that looks for the first turn.
use Rattle.std.proofs.Common.{◌≡◌, ℕ, ◌+◌, ◌<◌, Bool, true, false, List, ◌∷◌, drop, length, get_or, sym, ap, ◌∙◌, if◌then◌else◌}
use Rattle.std.proofs.lemmas.List.{drop_more}
use Rattle.gcg_read.specs.declared.events.Seat.{Seat}
use Rattle.deal_steps.specs.declared.steps.Step.{Step}
use Rattle.deal_steps.specs.Steps.{opener}

step_at : (steps : List Step) (i : ℕ) (s : Step) → i < length steps → s ≡ get_or steps i s → drop i steps ≡ s ∷ drop (i + 1) steps
step_at steps i s within is = drop_more steps i s within ∙ ap (λ (x : Step). x ∷ drop (i + 1) steps) (sym is)

pub opener_here : (steps : List Step) (i : ℕ) (s : Step) (seat : Seat) → i < length steps → s ≡ get_or steps i s → s.counted ≡ true → opener (drop i steps) ≡ seat
    → s.player ≡ seat
opener_here steps i s seat within is counted e =
    ap (λ (b : Bool). if b then s.player else opener (drop (i + 1) steps)) (sym counted) ∙ sym (ap opener (step_at steps i s within is)) ∙ e

pub opener_later : (steps : List Step) (i : ℕ) (s : Step) (seat : Seat) → i < length steps → s ≡ get_or steps i s → s.counted ≡ false → opener (drop i steps) ≡ seat
    → opener (drop (i + 1) steps) ≡ seat
opener_later steps i s seat within is uncounted e =
    ap (λ (b : Bool). if b then s.player else opener (drop (i + 1) steps)) (sym uncounted) ∙ sym (ap opener (step_at steps i s within is)) ∙ e
