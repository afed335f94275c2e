-- What a change costs if a record has a correction with it.
use Rattle.std.proofs.Common.{◌≡◌, ℕ, ◌+◌, List, length, ◌++◌, Option, sym, ap, ◌∙◌, subst}
use Rattle.std.proofs.lemmas.List.{length-map, map-append}
use Rattle.ref_tiles.specs.declared.rulebook.Rules.{Rules}
use Rattle.gcg_read.specs.declared.events.Event.{Event}
use Rattle.game_corrections.specs.declared.wrong_numbers.WrongNumber.{WrongNumber}
use Rattle.game_corrections.proofs.Fronts.{one_correction}
use Rattle.game_turns.specs.declared.unlisted.SpelledWord.{SpelledWord}
use Rattle.game_turns.specs.Unlisted.{letters_in}
use Rattle.repair_changes.specs.declared.slips.Change.{Change}
use Rattle.repair_single.specs.Costs.{costs, cost_of}
use Rattle.repair_single.specs.Remaining.{Weighing, AreFewer, Remain, count_by, count_remaining, unlisted_words}
use Rattle.repair_single.specs.Trying.{IsWritable, HaveNone, NoneFewer, NoneReported, NoneReportedBy}
use Rattle.repair_single.specs.RackStops.{MakeNoGame}
use Rattle.repair_changes.specs.Applied.{applied}
use Rattle.repair_single.specs.Weighers.{wrong_by, room_of}
use Rattle.repair_single.specs.declared.remains.Remains.{Remains}
use Rattle.repair_single.specs.declared.weighers.Weigher.{Weigher}
use Rattle.repair_single.specs.declared.weighers.Weigher.TheVariants as weigher

letters_many : (words : List SpelledWord) → length words ≡ length (letters_in words)
letters_many words = sym (length-map words (λ (word : SpelledWord). word.letters.items))

wrong_many : (weigh : Weighing) (rules : Rules) (list : List (List ℕ)) (change : Change) (written right : List Event) (remaining : Remains) → Remain weigh rules list change written right remaining
    → length remaining.wrong.items ≡ length (weigh change written right)
wrong_many weigh rules list change written right remaining is = ap (λ (xs : List WrongNumber). length xs) is.wrong

words_many : (weigh : Weighing) (rules : Rules) (list : List (List ℕ)) (change : Change) (written right : List Event) (remaining : Remains) → Remain weigh rules list change written right remaining
    → length remaining.unlisted.items ≡ length (unlisted_words rules list right)
words_many weigh rules list change written right remaining is = letters_many remaining.unlisted.items ∙ ap (λ (xs : List (List ℕ)). length xs) is.unlisted

pub count_is : (weigh : Weighing) (rules : Rules) (list : List (List ℕ)) (change : Change) (written right : List Event) (remaining : Remains) (many : ℕ) → Remain weigh rules list change written right remaining
    → many ≡ length remaining.wrong.items + length remaining.unlisted.items → many ≡ count_by weigh rules list change written right
count_is weigh rules list change written right remaining many is sum =
    sum ∙ ap (λ n. n + length remaining.unlisted.items) (wrong_many weigh rules list change written right remaining is)
    ∙ ap (λ n. length (weigh change written right) + n) (words_many weigh rules list change written right remaining is)

pub cost_is : (weigh : Weighing) (rules : Rules) (list : List (List ℕ)) (change : Change) (written right : List Event) (remaining : Remains) (number : ℕ) → Remain weigh rules list change written right remaining
    → number ≡ costs (length remaining.wrong.items) (length remaining.unlisted.items) change.slip → number ≡ cost_of weigh rules list change written right
unfolding cost_of
cost_is weigh rules list change written right remaining number is sum =
    sum ∙ ap (λ n. costs n (length remaining.unlisted.items) change.slip) (wrong_many weigh rules list change written right remaining is)
    ∙ ap (λ n. costs (length (weigh change written right)) n change.slip) (words_many weigh rules list change written right remaining is)

-- if too much stays wrong with the correction, there is no other
pub none_fewer : (weigh : Weighing) (rules : Rules) (list : List (List ℕ)) (change : Change) (written changed right other : List Event) (below : Option ℕ) (many : ℕ) → IsWritable rules list changed right
    → many ≡ count_by weigh rules list change written right → (AreFewer below many → ⊥) → IsWritable rules list changed other → AreFewer below (count_by weigh rules list change written other) → ⊥
none_fewer weigh rules list change written changed right other below many is sum more of_other fewer =
    let same : other ≡ right = one_correction rules list changed other right of_other.correction is.correction in
    let here : AreFewer below (count_by weigh rules list change written right) = subst (λ (es : List Event). AreFewer below (count_by weigh rules list change written es)) same fewer in
    more (subst (AreFewer below) (sym sum) here)

-- ---- that a change is not a repair

pub reported_by_fewer : (rules : Rules) (list : List (List ℕ)) (written : List Event) (below : Option ℕ) (change : Change) → NoneFewer rules list written below change
    → NoneReported rules list written below change
reported_by_fewer rules list written below change none = λ right writable fewer game. none right writable fewer

pub reported_by_none : (weigh : Weighing) (rules : Rules) (list : List (List ℕ)) (written : List Event) (below : Option ℕ) (change : Change) → HaveNone rules list (applied change written)
    → NoneReportedBy weigh rules list written below change
reported_by_none weigh rules list written below change none = λ right writable fewer game. none right writable

pub reported_by_racks : (rules : Rules) (list : List (List ℕ)) (written : List Event) (below : Option ℕ) (change : Change) → MakeNoGame rules list (applied change written)
    → NoneReported rules list written below change
reported_by_racks rules list written below change none = λ right writable fewer game. none right writable game

-- if few of the numbers that count stay wrong, no more of the sheet do than there is room for
pub within_room : (w : Weigher) (rules : Rules) (list : List (List ℕ)) (change : Change) (written right : List Event) (below : Option ℕ) → AreFewer below (count_by (wrong_by w) rules list change written right)
    → AreFewer (room_of w below) (count_remaining rules list change written right)
within_room weigher.Sheet rules list change written right below fewer = fewer
within_room (weigher.Draft lacks) rules list change written right below fewer = tt

pub reported_within : (w : Weigher) (rules : Rules) (list : List (List ℕ)) (written : List Event) (below room : Option ℕ) (change : Change) → room ≡ room_of w below
    → NoneReported rules list written room change → NoneReportedBy (wrong_by w) rules list written below change
reported_within w rules list written below room change is none =
    λ right writable fewer game.
    none right writable (subst (λ (o : Option ℕ). AreFewer o (count_remaining rules list change written right)) (sym is) (within_room w rules list change written right below fewer)) game

pub letters_joined : (words more all : List SpelledWord) → all ≡ words ++ more → letters_in all ≡ letters_in words ++ letters_in more
letters_joined words more all is =
    ap letters_in is ∙ map-append (λ (word : SpelledWord). word.letters.items) words more
