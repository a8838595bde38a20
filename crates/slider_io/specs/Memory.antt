-- Devices in memory: what they hold, and what a call of them does.
use Rattle.std.specs.Prelude.{◌≡◌, ℕ, ◌+◌, ◌-◌, ◌^◌, Bool, true, false, ◌==◌, min, List, ◌++◌, length, take, drop, Result, Ok, Err}
use Rattle.std.specs.List.{list_any}
use Rattle.slider_io.specs.declared.source.ReadFailed.{ReadFailed}
use Rattle.slider_io.specs.declared.sink.WriteFault.{WriteFault}
use Rattle.slider_io.specs.declared.sink.WriteFault.TheVariants.{Failed, Mem}

-- One more, up to the last value of a count.
abbrev pub one_more : ℕ → ℕ
one_more n = min (n + 1) (2 ^ 64 - 1)

-- A device in memory: its bytes (still to come, or taken), how many a call moves at most, the numbers of the calls
-- that fail, and how many calls and faults there were.
pub record Device : Type 0 where
  pub bytes : List ℕ
  pub most : ℕ
  pub fails : List ℕ
  pub calls : ℕ
  pub faults : ℕ

-- Whether the next call fails.
abbrev pub will_fail : Device → Bool
will_fail d = list_any (λ k. one_more d.calls == k) d.fails

-- The device after a call that fails.
abbrev pub failed : Device → Device
failed d = record d { calls = one_more d.calls; faults = one_more d.faults }

-- The device after a call that succeeds and leaves these bytes.
abbrev pub called : Device → List ℕ → Device
called d bytes = record d { calls = one_more d.calls; bytes = bytes }

-- A call of a source in memory: it fails exactly at the given calls, and otherwise gives as many bytes as fit.
abbrev pub MemTakes : Device → Device → ℕ → Result ℕ ReadFailed → Type 0
MemTakes old new room (Ok n) = (will_fail old ≡ false) × (n ≡ min (min room old.most) (length old.bytes)) × (new ≡ called old (drop n old.bytes))
MemTakes old new room (Err e) = (will_fail old ≡ true) × (new ≡ failed old)

-- A call of a sink in memory: it fails exactly at the given calls, and otherwise takes as many bytes as fit or runs out
-- of memory.
abbrev pub MemPuts : Device → Device → List ℕ → Result ℕ WriteFault → Type 0
MemPuts old new piece (Ok n) = (will_fail old ≡ false) × (n ≡ min (length piece) old.most) × (new ≡ called old (old.bytes ++ take n piece))
MemPuts old new piece (Err Failed) = (will_fail old ≡ true) × (new ≡ failed old)
MemPuts old new piece (Err Mem) = (will_fail old ≡ false) × (new ≡ called old old.bytes)
