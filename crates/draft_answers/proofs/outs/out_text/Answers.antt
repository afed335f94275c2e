use Rattle.draft_answers.proofs.Onlys.{if_only}
use Rattle.draft_answers.proofs.outs.out_text.Goals as goal

pub returns-clause-again : goal.returns-clause-again
returns-clause-again c =
    if_only _ c.args.filled.now c.corrected_text.result c.law_of_numbers.ensures c.law_of_other_points.ensures.points c.law_of_corrections.ensures.one c.corrected_text.ensures.again
