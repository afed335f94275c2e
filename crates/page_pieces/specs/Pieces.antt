-- The pieces of a page, and their written forms.
use Rattle.std.specs.Prelude.{◌≡◌, ℕ, List, [], ◌∷◌, decimal, map, Option, Some, None, if◌then◌else◌}
use Rattle.std.specs.Fmt.{signed_decimal}
use Rattle.std.specs.List.{flat_map}
use Rattle.std.specs.Str.Lossy.{utf8_lossy}
use Rattle.gcg_write.specs.Fields.{play_text, tiles_text}
use Rattle.page_pieces.specs.Laws.{is_mark}
use Rattle.page_pieces.specs.Escaping.{html_text}
use Rattle.gcg_about.specs.Texts.{text_by}
use Rattle.page_pieces.specs.declared.pieces.Piece.{Piece}
use Rattle.page_pieces.specs.declared.pieces.Piece.TheVariants as piece
use Rattle.page_pieces.specs.declared.texts.PageText.{PageText}

-- the bytes of a page
abbrev pub text_in : PageText → List ℕ
text_in page = page.bytes.items

-- text of any origin in a page: as UTF-8, with the names of the signs that mean something in markup
abbrev pub shown : List ℕ → List ℕ
shown text = html_text (utf8_lossy text)

-- the written form of a piece: markup as it is, and all else as a text of any origin
abbrev pub written : Piece → List ℕ
written (piece.Markup markup) = markup.now
written (piece.Text text) = shown text.now
written (piece.Recorded text encoding) = shown (text_by encoding text.now)
written (piece.Number n) = shown (signed_decimal n)
written (piece.Many n) = shown (decimal n)
written (piece.Tiles tiles) = shown (tiles_text tiles.now)
written (piece.Play at dir word) = shown (play_text at dir word.now)

-- the same for pieces, one after the other
abbrev pub text_of : List Piece → List ℕ
text_of pieces = flat_map written pieces

-- ---- laws

-- the shape of a piece: its text if it is markup, and of any other piece that it is not
abbrev pub shape : Piece → Option (List ℕ)
shape (piece.Markup markup) = Some markup.now
shape (piece.Text text) = None
shape (piece.Recorded text encoding) = None
shape (piece.Number n) = None
shape (piece.Many n) = None
shape (piece.Tiles tiles) = None
shape (piece.Play at dir word) = None

-- the bytes `<`, `>`, `"` and `'` of a page, in their order: they begin and end each tag and each attribute
unfoldable pub marks : List ℕ → List ℕ
marks [] = []
marks (byte ∷ text) = if is_mark byte then byte ∷ marks text else marks text

-- those of a shape
abbrev pub marks_by : Option (List ℕ) → List ℕ
marks_by None = []
marks_by (Some markup) = marks markup

-- The marks of a page are those of its markup, in the same order.
abbrev pub AreOfMarkup : Type 0
AreOfMarkup = (pieces : List Piece) → marks (text_of pieces) ≡ flat_map marks_by (map shape pieces)

-- The markup of a page depends only on the shape of its pieces, and on no text, number or name in them.
abbrev pub DependOnShape : Type 0
DependOnShape = (pieces others : List Piece) → map shape pieces ≡ map shape others → marks (text_of pieces) ≡ marks (text_of others)
