-- The views of a source and of a sink, and what becomes of lines that are tried on one.
use Rattle.std.specs.Prelude.{◌≡◌, ◌≤◌, ℕ, List, [], ◌∷◌, ◌++◌, Option}
use Rattle.definitions.specs.Outside.{Rose, Told, IsPrefix}
use Rattle.slider_io.specs.declared.source.Source as Sources
use Rattle.slider_io.specs.declared.sink.Sink as Sinks

-- The bytes that a source has left, or that a sink holds, if they are observable; and how often the device has failed.
pub record DeviceView : Type 0 where
  pub bytes : Option (List ℕ)
  pub faults : ℕ

-- The view of a source.
abbrev pub source_view : {S : Type 0} → Sources.Ghosts S → S → DeviceView
source_view g source = record { bytes = g.left source; faults = g.faults source }

-- The view of a sink.
abbrev pub sink_view : {K : Type 0} → Sinks.Ghosts K → K → DeviceView
sink_view g sink = record { bytes = g.held sink; faults = g.faults sink }

-- The lines one after the other.
abbrev pub all_lines : List (List ℕ) → List ℕ
all_lines [] = []
all_lines (line ∷ lines) = line ++ all_lines lines

-- The bytes are a prefix of each line, in the order of the lines.
abbrev pub AreCut : List (List ℕ) → List ℕ → Type 0
AreCut [] bytes = bytes ≡ []
AreCut (line ∷ lines) bytes = (a : List ℕ) × (b : List ℕ) × IsPrefix a line × AreCut lines b × (bytes ≡ a ++ b)

-- Lines were tried on a device, one after the other: it gained a prefix of each, and if `Done` holds and its count did
-- not increase, all of them.
pub record AreTried (Done : Type 0) (lines : List (List ℕ)) (before now : DeviceView) : Type 0 where
  pub cut : Told before.bytes now.bytes (λ old new. (gain : List ℕ) × AreCut lines gain × (new ≡ old ++ gain))
  pub whole : Done → (Rose before.faults now.faults → ⊥) → Told before.bytes now.bytes (λ old new. new ≡ old ++ all_lines lines)
  pub later : before.faults ≤ now.faults
