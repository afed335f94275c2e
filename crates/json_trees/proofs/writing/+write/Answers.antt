use Rattle.std.proofs.Common.{ap, ◌∙◌, arith, rules}
use Rattle.std.proofs.lemmas.Grind.{common_steps}
use Rattle.json.specs.Tree.{json_tokens}
use Rattle.json_trees.specs.declared.trees.Tree.{the_lemmas}
use Rattle.json_trees.specs.Trees.{view}
use Rattle.json_trees.proofs.Tokens.{values_in_order, fields_in_order}
use Rattle.json_trees.proofs.Views.{view_of_object}
use Rattle.json_trees.proofs.writing.+write.Goals as goal

pub write_values-returns-clause-done : goal.write_values-returns-clause-done
write_values-returns-clause-done t c = grind (arith, common_steps, values_in_order c.args.values.now.items)

pub write_fields-returns-clause-done : goal.write_fields-returns-clause-done
write_fields-returns-clause-done t c = grind (arith, common_steps, fields_in_order c.args.fields.now.items)

pub write_tree-returns-in_ok-begin_object-in-Object-clause-done : goal.write_tree-returns-in_ok-begin_object-in-Object-clause-done
write_tree-returns-in_ok-begin_object-in-Object-clause-done t c =
    let seen = ap (λ tree. json_tokens (view tree)) c.in-Object.is ∙ ap json_tokens (view_of_object c.in-Object.fields) in
    grind (arith, common_steps, seen)

pub write_tree-returns-in-Integer-clause-done : goal.write_tree-returns-in-Integer-clause-done
write_tree-returns-in-Integer-clause-done t c = search (rules, the_lemmas)
