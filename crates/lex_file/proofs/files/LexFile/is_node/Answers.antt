use Rattle.std.proofs.Common.{◌∙◌}
use Rattle.lex_file.specs.declared.formats.Format.TheVariants as form
use Rattle.lex_file.proofs.Views.{names_are}
use Rattle.lex_file.proofs.files.LexFile.is_node.Goals as goal

pub returns-in-Gad1 : goal.returns-in-Gad1
returns-in-Gad1 c = c.is_node.ensures ∙ names_are c.args.self.now form.Gad1 c.args.number c.body.result.now c.in-Gad1.is c.body.ensures

pub returns-in-Gad2 : goal.returns-in-Gad2
returns-in-Gad2 c = c.is_mask_node.ensures ∙ names_are c.args.self.now form.Gad2 c.args.number c.body-in-Gad2.result.now c.in-Gad2.is c.body-in-Gad2.ensures
