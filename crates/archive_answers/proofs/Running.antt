-- What a run has told, from its parts.
use Rattle.std.proofs.Common.{◌≡◌, ◌∙◌, inl, inr, ℕ, max, Bool, List, is_some, Result, Ok, Err, OnOk, refl, sym, ap, subst}
use Rattle.std.specs.Borrow.{Bor}
use Rattle.game_exits.specs.declared.exits.Exit.{Exit}
use Rattle.game_exits.specs.Exits.{status_of}
use Rattle.archive_lines.specs.declared.answers.Unread.TheVariants as why
use Rattle.archive_lines.specs.declared.fields.Fields.{Fields}
use Rattle.archive_lines.specs.declared.pages.PageField.TheVariants as field
use Rattle.archive_answers.specs.declared.asked.Asked.{Asked}
use Rattle.archive_answers.specs.declared.games.ArchivedGame.{ArchivedGame}
use Rattle.archive_answers.specs.declared.runs.RunLines.{RunLines}
use Rattle.archive_answers.specs.Exits.{status_of_line}
use Rattle.archive_answers.specs.Games.{IsUnreadGame}
use Rattle.archive_answers.specs.Runs.{IsLine, HasLine, without_page, IsLostGame, HasLineOf}
use Rattle.archive_answers.proofs.Greatest.{one_more}

-- a line by its form
pub line_by : (json known : Bool) (f : Fields) (line : List ℕ) → json ≡ known → IsLine known f line → IsLine json f line
line_by json known f line e is = subst (λ (b : Bool). IsLine b f line) (sym e) is

-- a line that was made, and the status after it
pub has_line : (f : Fields) (old new : RunLines) → new.json ≡ old.json → IsLine old.json f new.line.items → status_of new.worst ≡ max (status_of old.worst) (status_of_line f) → HasLine f old new
has_line f old new form line status = record { form = form; line = line; ends = λ lines ends. one_more lines f old new status ends }

-- of a run that has the form and the status of another
has_later : (f : Fields) (old mid new : RunLines) → mid.json ≡ old.json → mid.worst ≡ old.worst → HasLine f mid new → HasLine f old new
has_later f old mid new form worst has =
    record {
      form = has.form ∙ form;
      line = subst (λ (b : Bool). IsLine b f new.line.items) form has.line;
      ends = λ lines ends. has.ends lines (ap (λ (x : Exit). status_of x) worst ∙ ends);
    }

-- a game was told by its own line
pub has_own : (asked : Asked) (game : ArchivedGame) (old new : RunLines) → HasLine game.fields old new → HasLineOf asked game old new
has_own asked game old new has = (game.fields, inl refl, has)

-- or there was no memory for that
pub has_lost : (asked : Asked) (game lost : ArchivedGame) (old mid new : RunLines) → IsLostGame asked game.fields.name lost → mid.json ≡ old.json → mid.worst ≡ old.worst
    → HasLine lost.fields mid new → HasLineOf asked game old new
has_lost asked game lost old mid new is form worst has = (lost.fields, inr (lost, is, refl), has_later lost.fields old mid new form worst has)

-- the same, if its line could be made
pub if_lost : {A E : Type 0} (r : Result A E) (asked : Asked) (game lost : ArchivedGame) (old mid new : RunLines) → IsLostGame asked game.fields.name lost → mid.json ≡ old.json → mid.worst ≡ old.worst
    → OnOk r (HasLine lost.fields mid new) → OnOk r (HasLineOf asked game old new)
if_lost (Ok a) asked game lost old mid new is form worst has = has_lost asked game lost old mid new is form worst has
if_lost (Err e) asked game lost old mid new is form worst has = tt

-- a game that is lost, by whether pages are asked for
pub lost_by : (asked : Asked) (paged : Bool) (name : Bor (List ℕ)) (unread game : ArchivedGame) → is_some asked.page ≡ paged → IsUnreadGame asked name why.NoMemory unread
    → game ≡ without_page paged unread → IsLostGame asked name game
lost_by asked paged name unread game e is same = (unread, is, subst (λ (b : Bool). game ≡ without_page b unread) (sym e) same)
