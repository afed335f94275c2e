use Rattle.std.proofs.Common.{◌≡◌, ◌++◌, take}
use Rattle.std.specs.List.{flat_map}
use Rattle.json_trees.proofs.Tokens.{tree_tokens, field_tokens}
use Rattle.json_trees.proofs.writing.+write.Given as goal

abbrev pub invariant-write_values-loop-value : goal.invariant-write_values-loop-value
invariant-write_values-loop-value l =
    (l.out.tokens ≡ l.initial.out.tokens ++ flat_map tree_tokens (take l.value-index l.value-items)) × (l.out.before ≡ l.initial.out.before)

abbrev pub invariant-write_fields-loop-field : goal.invariant-write_fields-loop-field
invariant-write_fields-loop-field l =
    (l.out.tokens ≡ l.initial.out.tokens ++ flat_map field_tokens (take l.field-index l.field-items)) × (l.out.before ≡ l.initial.out.before)
