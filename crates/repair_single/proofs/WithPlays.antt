-- The changes at a place, with plays that were added there.
use Rattle.std.proofs.Common.{◌≡◌, ℕ, ◌+◌, ◌<◌, ◌≤◌, ◌==◌, List, [], ◌∷◌, ◌++◌, length, take, get_or, sym, ap, ◌∙◌, append-nil, append_assoc, take_all, arith}
use Rattle.std.proofs.lemmas.List.{take_more}
use Rattle.std.proofs.lemmas.List.Elements.{filter-append}
use Rattle.ref_tiles.specs.declared.rulebook.Rules.{Rules}
use Rattle.gcg_read.specs.declared.events.Event.{Event}
use Rattle.repair_changes.specs.declared.slips.Change.{Change}
use Rattle.repair_slips.specs.Changes.{changes_at}
use Rattle.repair_single.specs.Listing.{those_at, changes_with}

-- the first `i` plays are added, and then the next one
pub one_more : (all now next plays : List Change) (place i : ℕ) (play : Change) → i < length plays → play ≡ get_or plays i play → now ≡ all ++ those_at (take i plays) place
    → next ≡ now ++ those_at (play ∷ []) place → next ≡ all ++ those_at (take (i + 1) plays) place
one_more all now next plays place i play within is so_far adds =
    let more : those_at (take i plays) place ++ those_at (play ∷ []) place ≡ those_at (take (i + 1) plays) place =
    sym (filter-append (λ (c : Change). c.place == place) (take i plays) (play ∷ []))
    ∙ ap (λ (cs : List Change). those_at cs place) (ap (λ (c : Change). take i plays ++ c ∷ []) is ∙ sym (take_more plays i play within)) in
    adds ∙ ap (λ (cs : List Change). cs ++ those_at (play ∷ []) place) so_far ∙ append_assoc all (those_at (take i plays) place) (those_at (play ∷ []) place)
    ∙ ap (λ (cs : List Change). all ++ cs) more

pub all_added : (all now plays : List Change) (place i : ℕ) → length plays ≤ i → now ≡ all ++ those_at (take i plays) place → now ≡ all ++ those_at plays place
all_added all now plays place i past so_far = so_far ∙ ap (λ (cs : List Change). all ++ those_at cs place) (take_all i plays (omega (arith, past)))

-- if none is added, these are the changes of the list
pub none_with : (rules : Rules) (written : List Event) (place : ℕ) → changes_with rules written [] place ≡ changes_at rules written place
none_with rules written place = append-nil (changes_at rules written place)
