-- What is written of a reply in words.
use Rattle.std.specs.Prelude.{◌≡◌, ⊤, is_some, IfSome, MatchOption, None}
use Rattle.reply_calls.specs.declared.printed.Printed.{Printed}
use Rattle.reply_answers.specs.declared.replies.Reply.{Reply}
use Rattle.reply_answers.specs.declared.replies.Reply.TheVariants as reply
use Rattle.reply_texts.specs.Rulings.{ruled_line}
use Rattle.reply_texts.specs.Kept.{is_corrected, IsCorrectedOf, is_merged, IsMergedText, IsSheetKept, IsNoSheetKept}

-- Of the ruling on words exactly its line is written. The corrected and the merged record are kept exactly if they are to be, and so is the repaired sheet;
-- each is the one that the reply makes. Of other replies, and of the sentences, nothing is said here.
abbrev pub IsInWords : Reply → Printed → Type 0
IsInWords (reply.Ruled ruled) printed = (printed.report.items ≡ ruled_line ruled) × (printed.kept ≡ None)
IsInWords (reply.Audited sheet) printed = (is_some printed.kept ≡ is_corrected sheet) × IfSome printed.kept (λ text. IsCorrectedOf sheet.found text.items)
IsInWords (reply.Compared found) printed = (is_some printed.kept ≡ is_merged found) × IfSome printed.kept (λ text. IsMergedText found text.items)
IsInWords (reply.Repaired x) printed = MatchOption printed.kept (IsNoSheetKept x) (λ text. IsSheetKept x text.items)
IsInWords reported printed = ⊤
