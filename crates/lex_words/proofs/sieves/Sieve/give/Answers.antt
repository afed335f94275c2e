use Rattle.std.proofs.Common.{◌≤◌, length, drop, sym, ap, ◌∙◌, arith}
use Rattle.lex_words.proofs.Steps.{remaining_handed}
use Rattle.lex_words.proofs.sieves.Sieve.give.Goals as goal

pub returns-clause-bytes : goal.returns-clause-bytes
returns-clause-bytes c = λ remaining.
    let s = c.args.self.now in
    let rest = c.rest_of-ready.ensures ∙ ap (drop s.given) c.deref.ensures.value in
    let few : c.min-most.result ≤ length (drop s.given s.ready.items) = rw (sym rest) (omega (arith, c.min-most.ensures)) in
    rw (c.copy_from_slice.ensures.after, rest)
    (remaining_handed s.ready.items s.given c.min-most.result c.args.buf.now s.line.is_first s.line.held.items (drop s.taken s.chunk.items) remaining few)
