use Rattle.std.proofs.Common.{◌≡◌, ◌≤◌, take, length}
use Rattle.gcg_read.specs.Texts.{bare}
use Rattle.gcg_read.proofs.texts.bare.Given as goal

abbrev pub invariant-loop-byte : goal.invariant-loop-byte
invariant-loop-byte l =
    record {
      kept : l.kept.items ≡ bare (take l.byte-index l.bytes);
      few : length l.kept.items ≤ 15;
    }
