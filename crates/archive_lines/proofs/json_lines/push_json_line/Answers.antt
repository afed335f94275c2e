use Rattle.json_trees.specs.Trees.{view}
use Rattle.archive_lines.proofs.Objects.{read_again}
use Rattle.archive_lines.proofs.json_lines.push_json_line.Goals as goal

pub returns-clause-read_back : goal.returns-clause-read_back
returns-clause-read_back c = read_again c.args.fields.now (view c.in_ok-tree.tree) c.in_ok-tree.ensures c.in_ok-push_tree.ensures.reads_back
