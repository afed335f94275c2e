-- What is wrong with a record of which only the numbers are wrong.
use Rattle.std.proofs.Common.{◌≡◌, ℕ, List, true, false, Option, Some, None, map, refl, ap, ◌∙◌, subst}
use Rattle.std.specs.Option.{is_some}
use Rattle.std.specs.List.{filter}
use Rattle.ref_tiles.specs.declared.rulebook.Rules.{Rules}
use Rattle.gcg_read.specs.declared.events.Event.{Event}
use Rattle.gcg_read.specs.declared.players.Players.{Players}
use Rattle.gcg_read.specs.declared.records.Record.{Record}
use Rattle.game_turns.specs.Unlisted.{letters_in}
use Rattle.game_corrections.specs.declared.wrong_numbers.WrongNumber.{WrongNumber}
use Rattle.game_corrections.specs.Auditing.{IsAudited}
use Rattle.game_corrections.specs.Corrections.{IsCorrection, HavePoints}
use Rattle.game_corrections.proofs.Fronts.{one_correction}
use Rattle.game_walk.specs.declared.refusals.Stop.{Stop}
use Rattle.game_walk.specs.declared.walking.Walk.{Walk}
use Rattle.game_walk.specs.Numbers.{numbers_in}
use Rattle.game_walk.specs.Refusals.{EndsAt}
use Rattle.game_walk.specs.Walks.{IsWalk, GoesThrough}
use Rattle.game_walk.proofs.WalkLaws.{through_right}
use Rattle.game_deal.specs.Verdicts.{IsGame}
use Rattle.repair_single.specs.Remaining.{is_on_line}
use Rattle.repair_single.specs.Trying.{IsWritable}
use Rattle.repair_single.proofs.Audits.{audited_right, audited_words}
use Rattle.repair_single.proofs.WrongLines.{lines_alone}
use Rattle.repair_answers.specs.declared.numbers_alone.NumbersAlone.{NumbersAlone}
use Rattle.repair_answers.specs.Unchanged.{IsKnown, AreNumbersAlone, AreRemaining}

-- ---- a correction that stops, and one that does not

stopped_none : (rules : Rules) (list : List (List ℕ)) (written right : List Event) (end : ℕ) (stopped : Option Stop) → EndsAt rules list written right end stopped → is_some stopped ≡ true
    → (other : List Event) → IsWritable rules list written other → IsGame rules list other → ⊥
stopped_none rules list written right end None ends stops other is game = cc
stopped_none rules list written right end (Some stop) ends stops other is game = ends.none other is.points is.correction

pub none_stopped : (rules : Rules) (list : List (List ℕ)) (written right : List Event) (walk : Walk) → IsWalk rules list written right walk → is_some walk.stopped ≡ true
    → (other : List Event) → IsWritable rules list written other → IsGame rules list other → ⊥
none_stopped rules list written right walk is stops other writable game = stopped_none rules list written right is.end walk.stopped is.ends stops other writable game

whole_by : (rules : Rules) (list : List (List ℕ)) (written right : List Event) (end : ℕ) (stopped : Option Stop) → EndsAt rules list written right end stopped → is_some stopped ≡ false
    → IsCorrection rules list written right
whole_by rules list written right end None ends goes = ends.1
whole_by rules list written right end (Some stop) ends goes = cc

-- the correction of a record through all of which the walk goes
pub whole : (rules : Rules) (list : List (List ℕ)) (written right : List Event) (walk : Walk) → IsWalk rules list written right walk → is_some walk.stopped ≡ false
    → IsCorrection rules list written right
whole rules list written right walk is goes = whole_by rules list written right is.end walk.stopped is.ends goes

none_of : (stopped : Option Stop) → is_some stopped ≡ false → stopped ≡ None
none_of None goes = refl
none_of (Some stop) goes = cc

-- the walk went through the right events
pub goes_through : (rules : Rules) (list : List (List ℕ)) (written right : List Event) (walk : Walk) → IsWalk rules list written right walk → is_some walk.stopped ≡ false → GoesThrough rules list right walk
goes_through rules list written right walk is goes = through_right rules list written right walk is (none_of walk.stopped goes)

-- if the right events are not a game, no correction is one
pub none_game : (rules : Rules) (list : List (List ℕ)) (written right : List Event) → IsCorrection rules list written right → (IsGame rules list right → ⊥)
    → (other : List Event) → IsWritable rules list written other → IsGame rules list other → ⊥
none_game rules list written right is none other writable game =
    none (subst (λ (es : List Event). IsGame rules list es) (one_correction rules list written other right writable.correction is) game)

-- ---- only the numbers are wrong

pub numbers_alone : (rules : Rules) (list : List (List ℕ)) (written right : List Event) (wrong : List WrongNumber) (walk : Walk) (alone : NumbersAlone) → IsCorrection rules list written right
    → HavePoints right → alone.right.items ≡ map numbers_in right → IsKnown alone.is_game rules list right → IsAudited rules list written right wrong → IsWalk rules list written right walk
    → AreRemaining list wrong walk.rows.items alone.remains → AreNumbersAlone rules list written alone
numbers_alone rules list written right wrong walk alone is points numbers known audited walked remaining =
    let writable : IsWritable rules list written right = record { correction = is; points = points } in
    let audit = audited_right rules list written written right right wrong writable is.renumbered audited in
    record {
      right = right;
      correction = writable;
      numbers = numbers;
      game = known;
      wrong = remaining.wrong ∙ ap (filter is_on_line) audit.all ∙ lines_alone None written right;
      unlisted = audited_words rules list written written right right wrong walk (letters_in alone.remains.unlisted.items) writable is.renumbered audit walked remaining.unlisted;
    }

-- ---- the record with the numbers that it had

pub same_again : (old : Record) (players : Players) (events : List Event) → players ≡ old.players → events ≡ old.events
    → ◌≡◌ {A = Record} (record { players = players; events = events }) old
same_again old players events kept back = λ i. record { players = kept i; events = back i }
