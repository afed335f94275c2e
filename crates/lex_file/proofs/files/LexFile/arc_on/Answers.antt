use Rattle.std.proofs.Common.{◌∙◌, ◌≤◌, ℕ, length, sym, ap, subst, arith, List}
use Rattle.lex_file.specs.declared.arcs.Arc.{Arc}
use Rattle.lex_file.specs.declared.formats.Format.TheVariants as form
use Rattle.lex_file.specs.FileWords.{words_in}
use Rattle.lex_file.specs.Formats.{most_body_words}
use Rattle.lex_file.specs.Arcs as arcs
use Rattle.lex_file.specs.Nodes.{node_at}
use Rattle.lex_file.proofs.Views.{nodes_are, mask_room, if_none, if_some, both_some, rest_has, rest_of_rest, few_words}
use Rattle.std.proofs.lemmas.Bool.{leb-false}
use Rattle.lex_file.proofs.Walks.{branch_reached}
use Rattle.lex_file.proofs.files.LexFile.arc_on.Goals as goal

pub arc_from_mask-requires : goal.arc_from_mask-requires
arc_from_mask-requires c = mask_room c.args.self.now c.args.node.first c.body-in-Gad2.result.now c.in-Gad2.is c.body-in-Gad2.ensures c.requires.node

pub returns-in-Gad1-clause-none : goal.returns-in-Gad1-clause-none
returns-in-Gad1-clause-none c =
    if_none c.find_arc.result _ _
    (λ none. rest_has c.args.self.now c.args.node.first c.args.label c.args.rest c.body.result.now c.in-Gad1.is c.body.ensures c.requires.rest c.args.label (omega arith) ∙ none)
    c.find_arc.ensures.none

pub returns-in-Gad1-clause-arc : goal.returns-in-Gad1-clause-arc
returns-in-Gad1-clause-arc c =
    if_some c.find_arc.result _ _
    (λ on is. rest_has c.args.self.now c.args.node.first c.args.label c.args.rest c.body.result.now c.in-Gad1.is c.body.ensures c.requires.rest c.args.label (omega arith) ∙ is)
    c.find_arc.ensures.arc

pub returns-in-Gad1-clause-rest : goal.returns-in-Gad1-clause-rest
returns-in-Gad1-clause-rest c =
    both_some c.find_arc.result _ _ _
    (λ on is following.
    let reached = branch_reached c.args.label (node_at (words_in c.body.result.now) c.args.rest) on.arc is in
    rest_of_rest c.args.self.now c.args.node.first c.args.label c.args.rest on.arc.label on.rest c.body.result.now c.in-Gad1.is c.body.ensures c.requires.rest
    reached (λ above less. following above (λ arc passed. let below = leb-false c.args.label arc.label passed in omega (arith, below, reached, less)) less))
    c.find_arc.ensures.arc c.find_arc.ensures.rest

pub returns-in-Gad1-clause-low : goal.returns-in-Gad1-clause-low
returns-in-Gad1-clause-low c =
    let few = subst (λ (body : List ℕ). length (words_in body) ≤ most_body_words) (sym c.body.ensures) (few_words c.args.self.now.bytes.now c.args.self.now.shape) in
    if_some c.find_arc.result _ _ (λ on low. omega (arith, low, few)) c.find_arc.ensures.low

pub returns-in-Some-clause-arc : goal.returns-in-Some-clause-arc
returns-in-Some-clause-arc c =
    sym (ap (λ (found : List Arc). arcs.arc_from c.args.label found) (nodes_are c.args.self.now form.Gad2 c.args.node.first c.body-in-Gad2.result.now c.in-Gad2.is c.body-in-Gad2.ensures))
    ∙ sym c.arc_from_mask.ensures ∙ c.in-Some.is

pub returns-in-None-clause-none : goal.returns-in-None-clause-none
returns-in-None-clause-none c =
    sym (ap (λ (found : List Arc). arcs.arc_from c.args.label found) (nodes_are c.args.self.now form.Gad2 c.args.node.first c.body-in-Gad2.result.now c.in-Gad2.is c.body-in-Gad2.ensures))
    ∙ sym c.arc_from_mask.ensures ∙ c.in-None.is
