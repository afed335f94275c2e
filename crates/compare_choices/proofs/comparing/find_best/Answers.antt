use Rattle.compare_choices.proofs.comparing.find_best.Goals as goal

pub loop-choice-init : goal.loop-choice-init
loop-choice-init c = record { found = c.new-found.ensures c.args.rules.now c.args.list.now c.args.sheets.now }
