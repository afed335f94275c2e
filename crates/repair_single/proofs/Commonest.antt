-- The records that differ slightly from a sheet are tried.
use Rattle.std.proofs.Common.{◌≡◌, ℕ, zero, suc, ◌<◌, List, [], ◌∷◌, ◌++◌, length, slice_get, refl, sym, ap, ◌∙◌, subst, arith}
use Rattle.std.proofs.lemmas.List.Elements.{All-map, All-contains}
use Rattle.std.proofs.lemmas.Option.{slice_get_read}
use Rattle.ref_tiles.specs.declared.rulebook.Rules.{Rules}
use Rattle.gcg_read.specs.declared.events.Event.{Event}
use Rattle.game_turns.specs.Tallies.{tally_at}
use Rattle.repair_changes.specs.declared.slips.Change.{Change}
use Rattle.repair_slips.specs.Changes.{slips_by, change_at, changes_at}
use Rattle.repair_slips.specs.Commonest.{IsTriedAt}
use Rattle.repair_slips.proofs.Tried as slight
use Rattle.repair_single.specs.Laws.{IsTried, CommonestAreTried, CommonestAreAnswered}
use Rattle.repair_single.specs.Listing.{those_at, changes_with}
use Rattle.repair_single.specs.Trying.{IsWritable}

get_remaining : {A : Type 0} (xs ys : List A) (k : ℕ) → k < length xs → slice_get (xs ++ ys) k ≡ slice_get xs k
get_remaining [] ys k within = absurd (omega (arith, within))
get_remaining (x ∷ xs) ys zero within = refl
get_remaining (x ∷ xs) ys (suc k) within = get_remaining xs ys k (omega (arith, within))

listed_at : (rules : Rules) (written : List Event) (plays : List Change) (place : ℕ) (other : List Event) → IsTriedAt rules place written other → IsTried rules written plays other
listed_at rules written plays place other t =
    let k = t.listed.0 in
    let below = t.listed.1 in
    let inside = t.within in
    let changes = changes_at rules written place in
    let there : t.change.place ≡ place =
    All-contains (λ (c : Change). c.place ≡ place) changes t.change
    (All-map (λ (c : Change). c.place ≡ place) (change_at place) (slips_by rules (tally_at rules written place) written place) (λ i d less. refl)) t.listed in
    record {
      listed = record { change = t.change; index = k };
      single = record {
        within = omega (arith, there, inside);
        there = ap (λ p. slice_get (changes_with rules written plays p) k) there ∙ get_remaining changes (those_at plays place) k below
            ∙ slice_get_read changes (length changes) k t.change refl below (sym t.listed.2);
      };
      makes = t.makes;
    }

pub commonest_are_tried : CommonestAreTried
commonest_are_tried rules written plays place other d = listed_at rules written plays place other (slight.commonest_are_tried rules place written other d)

pub commonest_are_answered : CommonestAreAnswered
commonest_are_answered rules list written plays most reported remaining first place other right d correction game =
    let t = commonest_are_tried rules written plays place other d in
    record {
      tried = t;
      given = first.others t.listed right (omega arith)
          (record { single = t.single; correction = subst (λ (es : List Event). IsWritable rules list es right) (sym t.makes) correction; game = game; fewer = tt });
    }
