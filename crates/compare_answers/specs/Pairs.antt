-- What is found of each pair of lines of two sheets.
use Rattle.std.specs.Prelude.{◌≡◌, ℕ, ◌+◌, List, length, take, slice_get, Option, Some, None}
use Rattle.compare_alignments.specs.declared.pairs.Pair.{Pair}
use Rattle.compare_alignments.specs.Merging.{items_of, rack_items}
use Rattle.compare_choices.specs.declared.sheets.Sheets.{Sheets}
use Rattle.compare_choices.specs.declared.best.Best.{Best}
use Rattle.compare_choices.specs.declared.comparing.Comparison.{Comparison}
use Rattle.compare_answers.specs.Lines.{IsLinesAnswer}
use Rattle.compare_answers.specs.Racks.{IsRacksAnswer}
use Rattle.compare_answers.specs.declared.pairs.PairAnswer.{PairAnswer}

-- the best choice, or the first if none is known to make a game
abbrev pub best_choice : Option Best → ℕ
best_choice None = 0
best_choice (Some b) = b.choice

-- the number of the item that the lines of the pair at an index are, if they differ: how many pairs before it do
abbrev pub item_at : List Pair → (index : ℕ) → ℕ
item_at pairs index = length (items_of (take index pairs))

-- the number of the item that its racks are, if they are one
abbrev pub rack_item_at : List Pair → (index : ℕ) → ℕ
rack_item_at pairs index = length (items_of pairs) + length (rack_items (take index pairs))

-- what is found of the pair at an index
pub record IsPairAnswer (s : Sheets) (c : Comparison) (index : ℕ) (p : Pair) (a : PairAnswer) : Type 0 where
  pub lines : IsLinesAnswer s p index (item_at s.pairs.items index) c.find.best (slice_get c.flips.items (item_at s.pairs.items index)) a.lines
  pub racks : IsRacksAnswer s p (best_choice c.find.best) (rack_item_at s.pairs.items index) (slice_get c.flips.items (rack_item_at s.pairs.items index)) a.racks

abbrev pub IsAnswerAt : Sheets → Comparison → (index : ℕ) → Option Pair → PairAnswer → Type 0
IsAnswerAt s c index None a = ⊥
IsAnswerAt s c index (Some p) a = IsPairAnswer s c index p a

-- what is found of each of the first pairs
pub record ArePairAnswersTo (s : Sheets) (c : Comparison) (end : ℕ) (answers : List PairAnswer) : Type 0 where
  pub as_many : length answers ≡ end
  pub each : (index : ℕ) (a : PairAnswer) → slice_get answers index ≡ Some a → IsAnswerAt s c index (slice_get s.pairs.items index) a

abbrev pub ArePairAnswers : Sheets → Comparison → List PairAnswer → Type 0
ArePairAnswers s c answers = ArePairAnswersTo s c (length s.pairs.items) answers
