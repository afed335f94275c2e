use Rattle.lex_file.proofs.Walks.{branch_passed}
use Rattle.lex_file.proofs.files.LexFile.walk_on.Goals as goal

pub returns-clause-passed : goal.returns-clause-passed
returns-clause-passed c =
    branch_passed c.args.self.now.bytes.now c.args.self.now.shape c.args.node.first c.args.from c.in-Some.on.arc c.requires.node c.in-Some.ensures.arc
