-- A reader has the fields of a line again.
use Rattle.std.proofs.Common.{◌≡◌, ℕ, ◌∷◌, ◌++◌, length, Option, Some, None, refl, ap, ◌∙◌}
use Rattle.archive_lines.proofs.TabReadBack as lines
use Rattle.archive_lines.specs.declared.fields.Fields.{Fields}
use Rattle.archive_lines.specs.declared.likely.LikelyFields.{LikelyFields}
use Rattle.archive_lines.specs.declared.pages.PageField.{PageField}
use Rattle.archive_lines.specs.Tabs.{verdict_reported, record_reported, rest_reported, reported}
use Rattle.archive_lines.specs.Laws.{IsReadBack, count_with, HasSoMany, IsOneLine}

pub read_again : IsReadBack
read_again f = lines.read_back f.name.now (verdict_reported f ++ (record_reported f ++ rest_reported f.page f.likely f.unread_lines))

-- 12 fields, that of the page, and those of the likely repair
counted : (f : Fields) (page : Option PageField) (likely : Option LikelyFields) (unread : Option ℕ)
    → length (f.name.now ∷ (verdict_reported f ++ (record_reported f ++ rest_reported page likely unread))) ≡ count_with page likely
counted f None None unread = refl
counted f (Some page) None unread = refl
counted f None (Some likely) unread = refl
counted f (Some page) (Some likely) unread = refl

pub so_many : HasSoMany
so_many f = ap length (read_again f) ∙ counted f f.page f.likely f.unread_lines

pub no_feed : IsOneLine
no_feed f = lines.one_line (reported f)
