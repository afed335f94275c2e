use Rattle.std.proofs.Common.{◌≡◌, rules}
use Rattle.json.specs.Lex.{tokens}
use Rattle.json.specs.Tree.{json_tokens}
use Rattle.json_trees.specs.Texts.{json_text}
use Rattle.json_trees.specs.Trees.{view}
use Rattle.json_trees.proofs.ReadBack.{document_of_tokens}
use Rattle.json_trees.proofs.writing.push_tree.Goals as goal

pub returns-clause-reads_back : goal.returns-clause-reads_back
returns-clause-reads_back c =
    let value = view c.args.tree.now in
    let same : tokens (json_text value) ≡ json_tokens value = search rules in
    λ shallow. document_of_tokens value (json_text value) same shallow
