use Rattle.std.proofs.Common.{◌≡◌, ◌+◌, ◌<◌, map, drop}
use Rattle.explain_facts.specs.Wholes.{play_in, words_in}
use Rattle.explain_facts.proofs.wholes.has_many.Given as goal

abbrev pub invariant-loop-k : goal.invariant-loop-k
invariant-loop-k l =
    record {
      some : 0 < l.remaining;
      sum : words_in (map play_in l.plays) + l.remaining ≡ 10 + words_in (map play_in (drop l.k l.plays));
    }
