-- The answer to a request, by rules and the words of a list.
use Rattle.std.specs.Prelude.{◌≡◌, ℕ, Bool, List, length, Option}
use Rattle.std.specs.Option.{option_copied}
use Rattle.ref_tiles.specs.declared.rulebook.Rules.{Rules}
use Rattle.sheet_notes.specs.Notes.{IsAnnotatedSheet}
use Rattle.page_answers.specs.Pages.{IsPagedCase}
use Rattle.page_answers.specs.declared.makers.Maker.{Maker}
use Rattle.reply_answers.specs.Annotated.{notes_asked}
use Rattle.engine.specs.TopBefore.{given_rack}
use Rattle.reply_answers.specs.Audited.{IsAuditedSheet}
use Rattle.reply_answers.specs.Compared.{IsComparedOf}
use Rattle.draft_answers.specs.Nexts.{IsNextOfDraft}
use Rattle.reply_answers.specs.Drafted.{IsFilledSheet}
use Rattle.reply_answers.specs.OnDrafts.{IsExplainedAs, IsShownAs, IsRepairedAs, IsNoDraftOf, IsNoBoardOf}
use Rattle.reply_answers.specs.ReadSheets.{IsJudgedSheet}
use Rattle.reply_requests.specs.declared.requests.Request.{Request}
use Rattle.reply_requests.specs.declared.requests.Request.TheVariants as request
use Rattle.reply_answers.specs.declared.replies.Reply.{Reply}
use Rattle.reply_answers.specs.declared.replies.Reply.TheVariants as reply
use Rattle.reply_answers.specs.Given.{read_of}
use Rattle.reply_answers.specs.Plays.{bytes_named, number_asked, ArePlaysBy}
use Rattle.reply_answers.specs.Tidied.{IsTidiedOf}
use Rattle.reply_answers.specs.Words.{IsRuledOn}

-- The reply that explains a game, or the sheet of a draft; or that the text is no draft.
abbrev pub IsExplainReply : (draft : Bool) → Rules → (list : List (List ℕ)) → (game : List ℕ) → (line : Option ℕ) → (likely lead : Bool) → Reply → Type 0
IsExplainReply draft rules list game line likely lead (reply.Explained x) = IsExplainedAs draft rules list game line likely lead x
IsExplainReply draft rules list game line likely lead (reply.NoDraft f) = IsNoDraftOf draft rules list game f
IsExplainReply draft rules list game line likely lead reported = ⊥

-- the reply that shows the board of either, by the rules alone
abbrev pub IsBoardReply : (draft : Bool) → Rules → (line : Option ℕ) → (game : List ℕ) → Reply → Type 0
IsBoardReply draft rules line game (reply.Boarded x) = IsShownAs draft rules line game x
IsBoardReply draft rules line game (reply.NoDraft f) = IsNoBoardOf draft rules game f
IsBoardReply draft rules line game reported = ⊥

-- the reply with what repairs either
abbrev pub IsRepairReply : (draft : Bool) → Rules → (list : List (List ℕ)) → (game : List ℕ) → (number : Option ℕ) → (asked : Bool) → Reply → Type 0
IsRepairReply draft rules list game number asked (reply.Repaired x) = IsRepairedAs draft rules list game number asked x
IsRepairReply draft rules list game number asked (reply.NoDraft f) = IsNoDraftOf draft rules list game f
IsRepairReply draft rules list game number asked reported = ⊥

-- A reply to a request is what the command of its name finds of the bytes that are read of its record, and nothing else: the contracts of the
-- commands have the same definitions.
abbrev pub IsReplyTo : Maker → Rules → (list : List (List ℕ)) → Request → Reply → Type 0
IsReplyTo maker rules list (request.Judge game settle best) (reply.Judged x) = IsJudgedSheet best settle rules list game.now x
IsReplyTo maker rules list (request.Explain game line likely lead draft) reported = IsExplainReply draft rules list game.now line likely lead reported
IsReplyTo maker rules list (request.Audit game corrected) (reply.Audited x) = IsAuditedSheet rules list game.now corrected x
IsReplyTo maker rules list (request.Board game line draft) reported = IsBoardReply draft rules line game.now reported
IsReplyTo maker rules list (request.Top game line rack number) (reply.Found x) =
    ArePlaysBy (number_asked number) line rules list (given_rack (bytes_named (option_copied rack))) (read_of game.now) x
IsReplyTo maker rules list (request.Word words) (reply.Ruled x) = IsRuledOn list words.items x
IsReplyTo maker rules list request.Check (reply.Checked many) = many ≡ length list
IsReplyTo maker rules list (request.Tidy game) (reply.Tidied d) = IsTidiedOf (read_of game.now) d
IsReplyTo maker rules list (request.Page game likely) (reply.Paged x) = IsPagedCase likely maker rules list (read_of game.now) x
IsReplyTo maker rules list (request.Compare first second merged draft) (reply.Compared x) = IsComparedOf draft rules list (read_of first.now) (read_of second.now) merged x
IsReplyTo maker rules list (request.Repair game number repaired draft) reported = IsRepairReply draft rules list game.now number repaired reported
IsReplyTo maker rules list (request.Annotate game number) (reply.Annotated x) = IsAnnotatedSheet (notes_asked number) rules list (read_of game.now) x
IsReplyTo maker rules list (request.Fill draft filled) (reply.Filled x) = IsFilledSheet rules list draft.now filled x
IsReplyTo maker rules list (request.Next draft) (reply.Next x) = IsNextOfDraft rules list draft.now x
IsReplyTo maker rules list asked reported = ⊥

-- the reply to a request whose reply depends on no words and on no maker
pub record IsReplyByRules (rules : Rules) (asked : Request) (reply : Reply) : Type 0 where
  pub is_reply : (maker : Maker) (list : List (List ℕ)) → IsReplyTo maker rules list asked reply
