-- What a line says of the page of a game.
use Rattle.std.specs.Prelude.{ℕ, List, codes, Option, Some, None}
use Rattle.std.specs.String.{string_bytes}
use Rattle.archive_lines.specs.declared.pages.PageField.{PageField}
use Rattle.archive_lines.specs.declared.pages.PageField.TheVariants as page

-- the name of the page, or why there is none
abbrev pub page_text : PageField → Option (List ℕ)
page_text page.Missing = None
page_text (page.Written name) = Some (string_bytes name)
page_text page.CannotWrite = Some (codes "cannot write")
page_text page.NoMemory = Some (codes "no memory")
