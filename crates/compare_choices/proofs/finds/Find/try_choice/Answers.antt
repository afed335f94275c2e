use Rattle.std.proofs.Common.{ap, ◌∙◌}
use Rattle.compare_alignments.specs.Merging.{count_other_racks}
use Rattle.compare_choices.proofs.Found.{dear_racks}
use Rattle.compare_choices.proofs.finds.Find.try_choice.Goals as goal

pub returns-then-is_cheaper : goal.returns-then-is_cheaper
returns-then-is_cheaper c =
    dear_racks c.args.rules.now c.args.list.now c.args.sheets.now c.args.choice c.args.self.now c.count_other_racks-racks.result c.requires
    (c.count_other_racks-racks.ensures.many ∙ ap (count_other_racks c.args.choice) c.as_slice.ensures.value) (c.is_cheaper.ensures.0 c.if-is_cheaper.true)
