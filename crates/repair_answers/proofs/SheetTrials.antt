-- Trying one slip of the whole sheet.
use Rattle.std.proofs.Common.{◌≡◌, ℕ, ◌+◌, ◌<◌, ◌≤◌, List, length, Option, Some, None, refl, sym, ap, ◌∙◌, subst, arith}
use Rattle.std.proofs.lemmas.List.{length-map}
use Rattle.ref_tiles.specs.declared.rulebook.Rules.{Rules}
use Rattle.gcg_read.specs.declared.events.Event.{Event}
use Rattle.game_turns.specs.declared.unlisted.SpelledWord.{SpelledWord}
use Rattle.game_corrections.specs.WrongNumbers.{wrong_lines}
use Rattle.game_corrections.proofs.Fronts.{one_correction}
use Rattle.repair_single.specs.Remaining.{unlisted_words}
use Rattle.repair_single.specs.Trying.{IsWritable}
use Rattle.repair_sheets.specs.declared.slips.SheetSlip.{SheetSlip}
use Rattle.repair_sheets.specs.Undoing.{without_slip}
use Rattle.repair_sheets.specs.Weights.{weight_of}
use Rattle.repair_answers.specs.Choices.{alone_cost}
use Rattle.repair_answers.specs.Sheets.{count_wrong, IsGameBut, IsRighted, IsRepairBy, IsTrial}
use Rattle.repair_answers.specs.Unchanged.{AreNumbersAlone}
use Rattle.repair_answers.specs.declared.numbers_alone.NumbersAlone.{NumbersAlone}
use Rattle.repair_answers.specs.declared.sheet_repair.SheetRepair.{SheetRepair}
use Rattle.repair_answers.specs.declared.sheet_repair.Righted.{Righted}

one_record : (a b : List Event) → Some a ≡ Some b → a ≡ b
one_record a b e = cc

not_both : (made : List Event) (none : Option (List Event)) → none ≡ None → none ≡ Some made → ⊥
not_both made none a b = cc

-- there is no record without the slip
pub none_made : (rules : Rules) (list : List (List ℕ)) (text : List ℕ) (written : List Event) (room number : ℕ) (s : SheetSlip) → None ≡ without_slip s text written
    → IsTrial rules list text written room number s None
none_made rules list text written room number s none = λ right game. not_both game.made (without_slip s text written) (sym none) game.without

-- it is not a game with any numbers
pub none_right : (rules : Rules) (list : List (List ℕ)) (text : List ℕ) (written made : List Event) (room number : ℕ) (s : SheetSlip) → Some made ≡ without_slip s text written
    → IsRighted rules list made None → IsTrial rules list text written room number s None
none_right rules list text written made room number s is none =
    λ right game.
    let same : game.made ≡ made = one_record game.made made (sym game.without ∙ sym is) in
    none right (subst (λ (es : List Event). IsWritable rules list es right) same game.correction) game.game

-- as many numbers and words are wrong with each correction
count_same : (rules : Rules) (list : List (List ℕ)) (made right : List Event) (alone : NumbersAlone) → AreNumbersAlone rules list made alone → IsWritable rules list made right
    → count_wrong alone ≡ length (wrong_lines None made right) + length (unlisted_words rules list right)
count_same rules list made right alone are writable =
    let same : are.right ≡ right = one_correction rules list made are.right right are.correction.correction writable.correction in
    let wrong = ap (λ ws. length ws) are.wrong ∙ ap (λ (es : List Event). length (wrong_lines None made es)) same in
    let words = sym (length-map alone.remains.unlisted.items (λ (w : SpelledWord). w.letters.items)) ∙ ap (λ (ws : List (List ℕ)). length ws) are.unlisted
    ∙ ap (λ (es : List Event). length (unlisted_words rules list es)) same in
    omega (arith, wrong, words)

-- too many numbers and words are wrong
pub none_fewer : (rules : Rules) (list : List (List ℕ)) (text : List ℕ) (written made : List Event) (room number : ℕ) (s : SheetSlip) (righted : Righted) → Some made ≡ without_slip s text written
    → IsRighted rules list made (Some righted) → room ≤ count_wrong righted.alone → IsTrial rules list text written room number s None
none_fewer rules list text written made room number s righted is are many =
    λ right game.
    let same : game.made ≡ made = one_record game.made made (sym game.without ∙ sym is) in
    let here = count_same rules list made right righted.alone are.alone (subst (λ (es : List Event). IsWritable rules list es right) same game.correction) in
    let there : length (wrong_lines None made right) + length (unlisted_words rules list right) < room =
    subst (λ (es : List Event). length (wrong_lines None es right) + length (unlisted_words rules list right) < room) same game.fewer in
    absurd (omega (arith, here, there, many))

-- few enough are
pub one_tried : (rules : Rules) (list : List (List ℕ)) (text : List ℕ) (written made : List Event) (room number : ℕ) (s : SheetSlip) (righted : Righted) (r : SheetRepair)
    → Some made ≡ without_slip s text written → IsRighted rules list made (Some righted) → count_wrong righted.alone < room → r.number ≡ number → r.slip ≡ s → r.right ≡ righted.right
    → r.alone ≡ righted.alone → r.cost ≡ weight_of s + alone_cost righted.alone → IsTrial rules list text written room number s (Some r)
one_tried rules list text written made room number s righted r is are few at of_slip of_right of_alone costs =
    let game : IsGameBut rules list text written room s righted.right righted.alone = record { made = made; without = sym is; numbered = are.numbered; alone = are.alone; fewer = few } in
    record {
      number = at;
      slip = of_slip;
      game = subst (λ (t : SheetSlip). IsGameBut rules list text written room t r.right r.alone) (sym of_slip)
          (subst (λ (a : NumbersAlone). IsGameBut rules list text written room s r.right a) (sym of_alone)
          (subst (λ (es : List Event). IsGameBut rules list text written room s es righted.alone) (sym of_right) game));
      costs = costs ∙ ap (λ (t : SheetSlip). weight_of t + alone_cost righted.alone) (sym of_slip) ∙ ap (λ (a : NumbersAlone). weight_of r.slip + alone_cost a) (sym of_alone);
    }

pub ruleset trials = (none_made, none_right, none_fewer, one_tried)
