-- What is known of a device that bytes come from or go to.
use Rattle.std.specs.Prelude.{◌≡◌, ℕ, ◌+◌, ◌-◌, ◌%◌, ◌^◌, ◌<◌, List, Option}

-- A device: its bytes if they are known (for an input those that are left, for an output those that it took so far),
-- how many times it has failed, and how many times an output took no byte of a write of one or more. The last count
-- wraps at 2 ^ 64, the count of failures never does.
pub record Device : Type 0 where
  pub bytes : Option (List ℕ)
  pub failures : ℕ
  pub stalls : ℕ

-- one more failure can be counted
abbrev pub HasRoom : Device → Type 0
HasRoom d = d.failures < 2 ^ 64 - 1

-- the device failed exactly once, and did not stall
pub record HasFailed (old new : Device) : Type 0 where
  pub failures : new.failures ≡ old.failures + 1
  pub stalls : new.stalls ≡ old.stalls

-- the device neither failed nor stalled
pub record HasWorked (old new : Device) : Type 0 where
  pub failures : new.failures ≡ old.failures
  pub stalls : new.stalls ≡ old.stalls

-- the device took no byte of one write of one or more, and did not fail
pub record HasStalled (old new : Device) : Type 0 where
  pub failures : new.failures ≡ old.failures
  pub stalls : new.stalls ≡ (old.stalls + 1) % 2 ^ 64
