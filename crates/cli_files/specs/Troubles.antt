-- Why the program could not finish.
use Rattle.std.specs.Prelude.{ℕ, List}
use Rattle.std.specs.Borrow.{Bor}
use Rattle.io_watch.specs.declared.reasons.Reason.{Reason}
use Rattle.engine_stages.specs.declared.faults.RunFault.{RunFault}
use Rattle.engine_stages.specs.declared.faults.RunFault.TheVariants as run
use Rattle.cli_files.specs.declared.troubles.Trouble.{Trouble}
use Rattle.cli_files.specs.declared.troubles.Trouble.TheVariants as trouble

-- why the program could not finish, if a call gave up: this is the name of the input or output that failed, if one did, and why it did
abbrev pub trouble_of : RunFault → Bor (List ℕ) → Reason → Trouble
trouble_of run.ReadFailed name reason = trouble.ReadFailed name reason
trouble_of run.WriteFailed name reason = trouble.WriteFailed name reason
trouble_of run.NoMemory name reason = trouble.NoMemory
