-- The audit of the sheet that a text is, whether its correction is requested, and the lines of the text that are not read.
use Rattle.std.specs.Prelude.{◌≡◌, ℕ, Bool, List}
use Rattle.ref_tiles.specs.declared.rulebook.Rules.{Rules}
use Rattle.sheet_audit.specs.Answers.{IsAuditAnswerOf}
use Rattle.gcg_unread.specs.Lines.{unread_of}
use Rattle.reply_answers.specs.Given.{read_of}
use Rattle.reply_answers.specs.declared.audited.AuditedSheet.{AuditedSheet}

pub record IsAuditedSheet (rules : Rules) (list : List (List ℕ)) (game : List ℕ) (corrected : Bool) (sheet : AuditedSheet) : Type 0 where
  pub audit : IsAuditAnswerOf rules list (read_of game) sheet.found
  pub asked : sheet.corrected ≡ corrected
  pub lines : sheet.unread.items ≡ unread_of game
