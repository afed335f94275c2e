-- What is told of a game, from its parts.
use Rattle.std.proofs.Common.{◌≡◌, ◌∙◌, ℕ, Bool, false, List, is_some, Option, Ok, sym, ap, subst}
use Rattle.std.specs.Borrow.{Bor}
use Rattle.io_devices.specs.Devices.{Device}
use Rattle.ref_tiles.specs.declared.rulebook.Rules.{Rules}
use Rattle.engine_stages.specs.Stages.{IsRead}
use Rattle.game_case.specs.declared.explains.Case.{Case}
use Rattle.game_case.specs.Explaining.{IsCaseOf}
use Rattle.repair_answers.specs.declared.likely.Likely.{Likely}
use Rattle.page_answers.specs.Pages.{IsLikelyAsked}
use Rattle.archive_lines.specs.declared.answers.Unread.{Unread}
use Rattle.archive_lines.specs.declared.fields.Fields.{Fields}
use Rattle.archive_lines.specs.declared.likely.LikelyFields.{LikelyFields}
use Rattle.archive_lines.specs.declared.pages.PageField.{PageField}
use Rattle.archive_lines.specs.Said.{SaysUnread}
use Rattle.archive_answers.specs.declared.asked.Asked.{Asked}
use Rattle.archive_answers.specs.declared.games.ArchivedGame.{ArchivedGame}
use Rattle.archive_answers.specs.declared.sheets.GameSheet.{GameSheet}
use Rattle.archive_answers.specs.declared.sheets.GameSheet.TheVariants as kept
use Rattle.archive_answers.specs.declared.words.RowWords.{RowWords}
use Rattle.archive_answers.specs.Lines.{SaysRead, has_repair, SaysLikely, with_asked}
use Rattle.archive_answers.specs.Sheets.{IsSheetOf, page_before}
use Rattle.archive_answers.specs.Words.{AreWordsAsked, no_words}
use Rattle.archive_answers.specs.Games.{ReportsCase, IsReportedGame, IsUnreadGame}

-- a line with what it says on request
line_by : (asked paged : Bool) (plain fields : Fields) (page : Option PageField) (said : Option LikelyFields) (sheet : GameSheet) → paged ≡ asked → page ≡ page_before paged sheet
    → fields ≡ with_asked plain page said → fields ≡ with_asked plain (page_before asked sheet) fields.likely
line_by asked paged plain fields page said sheet e page_is is =
    is ∙ ap (λ (p : Option PageField). with_asked plain p said) (page_is ∙ ap (λ (b : Bool). page_before b sheet) e)
    ∙ ap (λ (l : Option LikelyFields). with_asked plain (page_before asked sheet) l) (sym (ap (λ (f : Fields). f.likely) is))

said_by : (asked repaired : Bool) (plain fields : Fields) (page : Option PageField) (said : Option LikelyFields) → fields ≡ with_asked plain page said → SaysLikely asked repaired said
    → SaysLikely asked repaired fields.likely
said_by asked repaired plain fields page said is says = subst (λ (l : Option LikelyFields). SaysLikely asked repaired l) (sym (ap (λ (f : Fields). f.likely) is)) says

-- of the case that is held after its likely repair was looked for
held_reports : (asked : Asked) (rules : Rules) (list : List (List ℕ)) (name : Bor (List ℕ)) (text : List ℕ) (case : Case) (paged : Bool) (likely : Option Likely) (plain fields : Fields)
    (page : Option PageField) (said : Option LikelyFields) (words : RowWords) (sheet : GameSheet) → IsCaseOf rules list text case → paged ≡ is_some asked.page
    → IsLikelyAsked asked.likely rules list text case.read likely → SaysRead name case.text.items case.read plain → SaysLikely asked.likely (has_repair case.read likely) said
    → AreWordsAsked paged case.text.items case.read words
    → ((t : List ℕ) → IsCaseOf rules list t case → IsLikelyAsked asked.likely rules list t case.read likely → IsSheetOf asked.likely asked.page rules list t case likely sheet)
    → page ≡ page_before paged sheet → fields ≡ with_asked plain page said
    → ReportsCase asked rules list name text case (record { fields = fields; words = words; sheet = sheet })
held_reports asked rules list name text case paged likely plain fields page said words sheet is e repair says reported more keeps page_is line =
    record {
      likely = likely;
      repair = repair;
      plain = plain;
      read = subst (λ (t : List ℕ). SaysRead name t case.read plain) is.0 says;
      said = said_by asked.likely (has_repair case.read likely) plain fields page said line reported;
      line = line_by (is_some asked.page) paged plain fields page said sheet e page_is line;
      more =
          subst (λ (b : Bool). AreWordsAsked b text case.read words) e
          (subst (λ (t : List ℕ). AreWordsAsked paged t case.read words) is.0 more);
      sheet = keeps text is repair;
    }

pub reports : (asked : Asked) (rules : Rules) (list : List (List ℕ)) (name : Bor (List ℕ)) (text : List ℕ) (case held : Case) (paged : Bool) (likely : Option Likely) (plain fields : Fields)
    (page : Option PageField) (said : Option LikelyFields) (words : RowWords) (sheet : GameSheet) → held ≡ case → IsCaseOf rules list text case → paged ≡ is_some asked.page
    → IsLikelyAsked asked.likely rules list case.text.items case.read likely → SaysRead name held.text.items held.read plain → SaysLikely asked.likely (has_repair held.read likely) said
    → AreWordsAsked paged held.text.items held.read words
    → ((t : List ℕ) → IsCaseOf rules list t held → IsLikelyAsked asked.likely rules list t held.read likely → IsSheetOf asked.likely asked.page rules list t held likely sheet)
    → page ≡ page_before paged sheet → fields ≡ with_asked plain page said
    → ReportsCase asked rules list name text case (record { fields = fields; words = words; sheet = sheet })
reports asked rules list name text case held paged likely plain fields page said words sheet same is e repair says reported more keeps page_is line =
    let held_is : IsCaseOf rules list text held = subst (λ (k : Case). IsCaseOf rules list text k) (sym same) is in
    let of_text : IsLikelyAsked asked.likely rules list text case.read likely =
    subst (λ (t : List ℕ). IsLikelyAsked asked.likely rules list t case.read likely) is.0 repair in
    let of_held : IsLikelyAsked asked.likely rules list text held.read likely =
    subst (λ (k : Case). IsLikelyAsked asked.likely rules list text k.read likely) (sym same) of_text in
    subst (λ (k : Case). ReportsCase asked rules list name text k (record { fields = fields; words = words; sheet = sheet })) same
    (held_reports asked rules list name text held paged likely plain fields page said words sheet held_is e of_held says reported more keeps page_is line)

-- of a file that could not be read
pub reports_none : (asked : Asked) (name : Bor (List ℕ)) (why : Unread) (paged : Bool) (plain fields : Fields) (page : Option PageField) (said : Option LikelyFields) (words : RowWords)
    (sheet : GameSheet) → paged ≡ is_some asked.page → SaysUnread name why plain → SaysLikely asked.likely false said → page ≡ page_before paged sheet → fields ≡ with_asked plain page said
    → words ≡ no_words → sheet ≡ kept.Unread why → IsUnreadGame asked name why (record { fields = fields; words = words; sheet = sheet })
reports_none asked name why paged plain fields page said words sheet e says reported page_is line more sheet_is =
    record {
      plain = plain;
      read = says;
      said = said_by asked.likely false plain fields page said line reported;
      line = line_by (is_some asked.page) paged plain fields page said sheet e page_is line;
      more = more;
      sheet = sheet_is;
    }

-- an input that was read, and what is told of it
pub read_on : (limit : ℕ) (old new : Device) (asked : Asked) (rules : Rules) (list : List (List ℕ)) (name : Bor (List ℕ)) (case : Case) (game : ArchivedGame)
    → IsRead limit old new (IsCaseOf rules list) (Ok case) → ((text : List ℕ) → IsCaseOf rules list text case → ReportsCase asked rules list name text case game)
    → IsRead limit old new (IsReportedGame asked rules list name) (Ok game)
read_on limit old new asked rules list name case game is reported =
    let of_text : IsReportedGame asked rules list name is.taken.text game =
    record { case = case; opened = is.taken.means; reported = reported is.taken.text is.taken.means } in
    record {
      taken = record { text = is.taken.text; given = is.taken.given; means = of_text };
      worked = is.worked;
      gave_up = tt;
      within = is.within;
    }
