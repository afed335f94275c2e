-- What the best choice is worth, and what two equal sheets say.
use Rattle.std.proofs.Common.{◌≡◌, inl, inr, ℕ, ◌<◌, List, [], length, Option, Some, refl, ap, ◌∙◌, subst, arith}
use Rattle.std.specs.Prelude.{Contains}
use Rattle.ref_tiles.specs.declared.rulebook.Rules.{Rules}
use Rattle.gcg_read.specs.declared.events.Event.{Event}
use Rattle.gcg_read.specs.declared.records.Record.{Record}
use Rattle.game_deal.specs.Verdicts.{IsGame}
use Rattle.compare_alignments.specs.declared.lacking.Lacks.{Lacks}
use Rattle.compare_alignments.specs.declared.merging.NumbersOf.TheVariants.{Taken}
use Rattle.compare_alignments.specs.declared.pairs.Pair.{Pair}
use Rattle.compare_alignments.specs.Alignments.{own_pairs}
use Rattle.compare_alignments.specs.Merging.{merged}
use Rattle.compare_alignments.proofs.Merged.{own_record}
use Rattle.compare_choices.specs.declared.sheets.Sheets.{Sheets}
use Rattle.compare_choices.specs.declared.best.Best.{Best}
use Rattle.compare_choices.specs.declared.finds.Find.{Find}
use Rattle.compare_choices.specs.Sheets.{AreSheets}
use Rattle.compare_choices.specs.Choices.{choice_events, MakesGame, cost_of}
use Rattle.compare_choices.specs.Finds.{IsAccounted, IsFoundTo}

none_in : (choice : ℕ) → Contains [] choice → ⊥
none_in choice there = let less = there.1 in omega (arith, less)

ahead_by : (rules : Rules) (list : List (List ℕ)) (right : List Event) (b : Best) (choice cost : ℕ) → IsAccounted rules list right (Some b) [] [] choice cost → IsGame rules list right
    → (choice ≡ b.choice → ⊥) → b.cost < cost
ahead_by rules list right b choice cost (inl none) game other = absurd (none game)
ahead_by rules list right b choice cost (inr (inl there)) game other = absurd (none_in choice there)
ahead_by rules list right b choice cost (inr (inr (inl it))) game other = absurd (other it)
ahead_by rules list right b choice cost (inr (inr (inr (inl less)))) game other = less
ahead_by rules list right b choice cost (inr (inr (inr (inr there)))) game other = absurd (none_in choice there)

pub best_ahead : (rules : Rules) (list : List (List ℕ)) (s : Sheets) (end : ℕ) (f : Find) (b : Best) → IsFoundTo rules list s end f → f.best ≡ Some b → f.rivals.items ≡ [] → f.remaining.items ≡ []
    → (choice : ℕ) (right : List Event) → choice < end → (choice ≡ b.choice → ⊥) → MakesGame rules list s choice right → b.cost < cost_of rules list s choice right
best_ahead rules list s end f b is best rivals remaining choice right before other makes =
    let cost = cost_of rules list s choice right in
    ahead_by rules list right b choice cost
    (subst (λ (o : Option Best). IsAccounted rules list right o [] [] choice cost) best
    (subst (λ (xs : List ℕ). IsAccounted rules list right f.best xs [] choice cost) rivals
    (subst (λ (xs : List ℕ). IsAccounted rules list right f.best f.rivals.items xs choice cost) remaining (is.others choice right before makes.is))))
    makes.game other

pub own_events : (sheet : Record) (lacks : Option Lacks) (s : Sheets) (choice : ℕ) → AreSheets sheet sheet lacks s → choice_events s Taken choice ≡ sheet.events
unfolding choice_events
own_events sheet lacks s choice is =
    let pairs : s.pairs.items ≡ own_pairs (length sheet.events) = is.itself refl in
    ap (λ (x : Record). merged s.owner Taken choice x.events s.second.events s.pairs.items) is.is_first
    ∙ ap (λ (x : Record). merged s.owner Taken choice sheet.events x.events s.pairs.items) is.is_second
    ∙ ap (λ (xs : List Pair). merged s.owner Taken choice sheet.events sheet.events xs) pairs
    ∙ own_record s.owner choice sheet.events
