-- What is wrong with a draft of which only written numbers are wrong.
use Rattle.std.proofs.Common.{◌≡◌, ◌∙◌, ℕ, List, Bool, Some, ap, sym, subst}
use Rattle.ref_tiles.specs.declared.rulebook.Rules.{Rules}
use Rattle.gcg_read.specs.declared.events.Event.{Event}
use Rattle.game_turns.specs.Unlisted.{letters_in}
use Rattle.game_walk.specs.declared.numbers.Numbers.{Numbers}
use Rattle.gcg_drafts.specs.declared.missing.Missing.{Missing}
use Rattle.repair_answers.specs.Unchanged.{IsKnown, IsUnchanged}
use Rattle.repair_answers.specs.declared.numbers_alone.NumbersAlone.{NumbersAlone}
use Rattle.draft_numbers.specs.Numbers.{wrong_written}
use Rattle.repair_answers.specs.Drafts.{AreWrittenAlone}

-- the same as of its sheet, but for the numbers that are wrong
pub alone_on_draft : (rules : Rules) (list : List (List ℕ)) (lacks : List Missing) (written : List Event) (alone reported : NumbersAlone) → IsUnchanged rules list written (Some alone)
    → reported.right.items ≡ alone.right.items → reported.is_game ≡ alone.is_game → letters_in reported.remains.unlisted.items ≡ letters_in alone.remains.unlisted.items
    → reported.remains.wrong.items ≡ wrong_written lacks written alone.right.items → AreWrittenAlone rules list lacks written reported
alone_on_draft rules list lacks written alone reported is right game words wrong =
    record {
      right = is.right;
      correction = is.correction;
      numbers = right ∙ is.numbers;
      game = subst (λ (b : Bool). IsKnown b rules list is.right) (sym game) is.game;
      wrong = wrong ∙ ap (λ (ns : List Numbers). wrong_written lacks written ns) is.numbers;
      unlisted = words ∙ is.unlisted;
    }
