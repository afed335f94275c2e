use Rattle.std.proofs.Common.{sym, ◌∙◌}
use Rattle.lex_file.proofs.Walks.{branch_passed}
use Rattle.lex_file.proofs.files.LexFilePathLex.branch_from.Goals as goal

pub returns-clause-passed : goal.returns-clause-passed
returns-clause-passed c =
    let e = sym c.arc_from.ensures ∙ c.in-Some.is in
    branch_passed c.args.self.now.bytes.now c.args.self.now.shape c.args.node.first c.args.from c.in-Some.arc c.requires e
