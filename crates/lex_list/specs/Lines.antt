-- How a text falls into lines.
pub use Rattle.text_lines.specs.Lines.{without_mark, without_return, is_feed, lines_of, lines_after}
unfoldable pub use Rattle.text_lines.specs.Lines.{lines_in}
