-- The events of a call that met an entry.
use Rattle.std.specs.Prelude.{ℕ, List}
use Rattle.memo_core.specs.declared.event.Event.{Event}
use Rattle.memo_core.specs.declared.event.Event.TheVariants.{Look as LookEvent, Keep as KeepEvent}
use Rattle.memo_core.specs.declared.event.LookAnswer.TheVariants.{Hit as HitAnswer, Clash as LookClashAnswer}
use Rattle.memo_core.specs.declared.event.KeepAnswer.TheVariants.{Found as FoundAnswer, Clash as KeepClashAnswer}
use Rattle.memo_server.specs.declared.met.Asked.{Asked}
use Rattle.memo_server.specs.declared.met.Asked.TheVariants.{Look, Keep}

-- The event if the entry is that of the call's input.
abbrev pub same_event : Asked → ℕ → ℕ → List ℕ → ℕ → Event
same_event Look caller run digest id = LookEvent caller run digest (HitAnswer id)
same_event Keep caller run digest id = KeepEvent caller run digest (FoundAnswer id)

-- The event if the entry is another input's.
abbrev pub other_event : Asked → ℕ → ℕ → List ℕ → ℕ → Event
other_event Look caller run digest id = LookEvent caller run digest (LookClashAnswer id)
other_event Keep caller run digest id = KeepEvent caller run digest (KeepClashAnswer id)
