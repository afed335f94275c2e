-- The likely repair of a record, by what was found of the record after its numbers were put back.
use Rattle.std.proofs.Common.{◌≡◌, ◌∙◌, ℕ, ◌*◌, ◌≤◌, List, length, Option, subst}
use Rattle.ref_tiles.specs.declared.rulebook.Rules.{Rules}
use Rattle.gcg_read.specs.declared.events.Event.{Event}
use Rattle.game_walk.specs.declared.walking.Walk.{Walk}
use Rattle.game_walk.specs.Walks.{IsWalkOf}
use Rattle.repair_plays.specs.PlayChanges.{ArePlayChanges}
use Rattle.repair_changes.specs.declared.slips.Change.{Change}
use Rattle.repair_single.specs.declared.found.Found.{Found}
use Rattle.repair_single.specs.declared.repair.Repair.{Repair}
use Rattle.repair_pairs.specs.Pairs.{ArePairs}
use Rattle.repair_pairs.specs.declared.found.Pair.{Pair}
use Rattle.repair_pairs.specs.declared.found.Pairs.{Pairs}
use Rattle.repair_answers.specs.Answers.{below_of}
use Rattle.repair_answers.specs.Amounts.{IsAmountOf, IsAmount}
use Rattle.repair_answers.specs.Choices.{all_known}
use Rattle.repair_answers.specs.Likely.{IsLikelyOf, IsLikely}
use Rattle.repair_answers.specs.Sheets.{sheet_room, slips_tried, AreSheetRepairs}
use Rattle.repair_answers.specs.Trades.{AreReported}
use Rattle.repair_answers.specs.Tried.{count_walked}
use Rattle.repair_answers.specs.Unchanged.{IsUnchanged}
use Rattle.repair_answers.specs.declared.numbers_alone.NumbersAlone.{NumbersAlone}
use Rattle.repair_answers.specs.declared.sheet_repair.SheetRepair.{SheetRepair}
use Rattle.repair_answers.specs.declared.likely.Likely.{Likely}

pub likely_of : (rules : Rules) (list words : List (List ℕ)) (text : List ℕ) (written now then last : List Event) (numbers : Option NumbersAlone) (below : Option ℕ) (walk : Walk) (plays : List Change)
    (found : Found) (singles : List Repair) (two : Pairs) (pairs : List Pair) (sheets : List SheetRepair) (likely : Option Likely) → words ≡ list → now ≡ written → then ≡ written → last ≡ then
    → IsUnchanged rules words written numbers → below ≡ below_of numbers → IsWalkOf rules list written walk → ArePlayChanges now walk plays
    → AreReported rules list now numbers plays below found.from 4 found.reported.items found.remaining.items → singles ≡ found.reported.items → ArePairs rules words then singles 1 two → pairs ≡ two.reported.items
    → AreSheetRepairs rules words text last (sheet_room numbers) (slips_tried text last walk) sheets → IsLikelyOf numbers found.reported.items (all_known found.remaining.items found.from) pairs sheets likely
    → (count_walked rules written walk * length written ≤ 500000 → found.from ≡ 0) → IsLikely rules list text written likely
likely_of rules list words text written now then last numbers below walk plays found singles two pairs sheets likely is_list same same_too kept alone by walked are_plays repairs are_singles are_pairs are_reported
    are_sheets chosen all =
    let there : last ≡ written = kept ∙ same_too in
    record {
      numbers = numbers;
      alone = subst (λ (ws : List (List ℕ)). IsUnchanged rules ws written numbers) is_list alone;
      walk = walk;
      walked = walked;
      plays = plays;
      are_plays = subst (λ (es : List Event). ArePlayChanges es walk plays) same are_plays;
      reported = found.reported.items;
      remaining = found.remaining.items;
      from = found.from;
      repairs = subst (λ (b : Option ℕ). AreReported rules list written numbers plays b found.from 4 found.reported.items found.remaining.items) by
          (subst (λ (es : List Event). AreReported rules list es numbers plays below found.from 4 found.reported.items found.remaining.items) same repairs);
      all = all;
      two = two;
      pairs = subst (λ (ws : List (List ℕ)). ArePairs rules ws written found.reported.items 1 two) is_list
          (subst (λ (es : List Event). ArePairs rules words es found.reported.items 1 two) same_too
          (subst (λ (ss : List Repair). ArePairs rules words then ss 1 two) are_singles are_pairs));
      sheets = sheets;
      are_sheets = subst (λ (ws : List (List ℕ)). AreSheetRepairs rules ws text written (sheet_room numbers) (slips_tried text written walk) sheets) is_list
          (subst (λ (es : List Event). AreSheetRepairs rules words text es (sheet_room numbers) (slips_tried text es walk) sheets) there are_sheets);
      chosen = subst (λ (ps : List Pair). IsLikelyOf numbers found.reported.items (all_known found.remaining.items found.from) ps sheets likely) are_reported chosen;
    }

-- the same for a repair of a bonus or a penalty
pub amount_of : (rules : Rules) (list words here_words : List (List ℕ)) (written now walked : List Event) (numbers : Option NumbersAlone) (below : Option ℕ) (walk : Walk) (plays : List Change)
    (found : Found) (amount : Option Repair) → words ≡ list → here_words ≡ list → now ≡ written → walked ≡ now → IsUnchanged rules words written numbers → below ≡ below_of numbers
    → IsWalkOf rules here_words now walk → ArePlayChanges walked walk plays → AreReported rules list walked numbers plays below found.from 1 found.reported.items found.remaining.items
    → IsAmountOf numbers found.reported.items amount → (count_walked rules written walk * length written ≤ 500000 → found.from ≡ 0) → IsAmount rules list written amount
amount_of rules list words here_words written now walked numbers below walk plays found amount is_list is_here same still alone by of_walk are_plays repairs chosen all =
    let here : walked ≡ written = still ∙ same in
    record {
      numbers = numbers;
      alone = subst (λ (ws : List (List ℕ)). IsUnchanged rules ws written numbers) is_list alone;
      walk = walk;
      walked = subst (λ (ws : List (List ℕ)). IsWalkOf rules ws written walk) is_here (subst (λ (es : List Event). IsWalkOf rules here_words es walk) same of_walk);
      plays = plays;
      are_plays = subst (λ (es : List Event). ArePlayChanges es walk plays) here are_plays;
      reported = found.reported.items;
      remaining = found.remaining.items;
      from = found.from;
      repairs = subst (λ (b : Option ℕ). AreReported rules list written numbers plays b found.from 1 found.reported.items found.remaining.items) by
          (subst (λ (es : List Event). AreReported rules list es numbers plays below found.from 1 found.reported.items found.remaining.items) here repairs);
      all = all;
      chosen = chosen;
    }
