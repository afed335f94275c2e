-- A text with the tokens of a value is the value.
use Rattle.std.proofs.Common.{◌≡◌, ℕ, ◌≤◌, List, [], Some, option_and_then, sym, ap, ◌∙◌, append-nil}
use Rattle.json.specs.Json.{Json, document, if_last, max_depth, value}
use Rattle.json.specs.Lex.{tokens}
use Rattle.json.specs.Tree.{depth, json_tokens}
use Rattle.json.proofs.Printed.Trees.{value-json_tokens}

pub document_of_tokens : (j : Json) (text : List ℕ) → tokens text ≡ json_tokens j → depth j ≤ max_depth → document text ≡ Some j
document_of_tokens j text same shallow =
    ap (option_and_then (λ p. if_last p.0 p.1)) (ap (value max_depth) (same ∙ sym (append-nil (json_tokens j))) ∙ value-json_tokens j max_depth [] shallow)
