-- The names of the reasons why a line is not read.
use Rattle.std.specs.Prelude.{ℕ, List, codes}
use Rattle.gcg_unread.specs.declared.reasons.UnreadWhy.{UnreadWhy}
use Rattle.gcg_unread.specs.declared.reasons.UnreadWhy.TheVariants as why

abbrev pub name_of : UnreadWhy → List ℕ
name_of why.Blank = codes "blank before >"
name_of why.Before = codes "something before >"
name_of why.OtherSign = codes "another sign than >"
name_of why.NoMark = codes "no >"
name_of why.Parts = codes "parts of an event"
