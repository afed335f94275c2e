-- What is written of what was found, in each form.
use Rattle.std.specs.Prelude.{◌≡◌, ⊤, Result, Ok, Err, None}
use Rattle.engine_stages.specs.declared.decisions.Decision.{Decision}
use Rattle.reply_calls.specs.declared.printed.Printed.{Printed}
use Rattle.reply_answers.specs.declared.replies.Reply.{Reply}
use Rattle.json_trees.specs.Texts.{json_line}
use Rattle.json_base.specs.Refusals.{decision_object}
use Rattle.reply_texts.specs.Objects.{IsInObject}
use Rattle.reply_texts.specs.Words.{IsInWords}
use Rattle.cli_replies.specs.declared.forms.Form.{Form}
use Rattle.cli_replies.specs.declared.forms.Form.TheVariants as form

-- in words, a bad input is reported by its line alone
abbrev pub IsLineOf : Decision → Printed → Type 0
IsLineOf d printed = (printed.report.items ≡ d.report.items) × (printed.kept ≡ None)

-- as an object by the object that says so
abbrev pub IsObjectOf : Decision → Printed → Type 0
IsObjectOf d printed = (printed.report.items ≡ json_line (decision_object d)) × (printed.kept ≡ None)

abbrev pub IsWrittenAs : Form → Result Reply Decision → Printed → Type 0
IsWrittenAs form.Words (Err d) printed = IsLineOf d printed
IsWrittenAs form.Words (Ok reply) printed = IsInWords reply printed
IsWrittenAs form.EachWord (Err d) printed = IsLineOf d printed
IsWrittenAs form.EachWord (Ok reply) printed = ⊤
IsWrittenAs form.Object (Err d) printed = IsObjectOf d printed
IsWrittenAs form.Object (Ok reply) printed = IsInObject reply printed
