-- Inputs of lanes for leaves, and which lists a shift fits.
use Rattle.std.specs.Prelude.{◌≡◌, ℕ, ◌+◌, ◌-◌, ◌<◌, ◌≤◌, ◌==◌, List, length, map, filter, All}
use Rattle.record_text.specs.declared.shift.Shift.{Shift}
use Rattle.record_text.specs.declared.shift.Shift.TheVariants.{Slide, Splice}
use Rattle.window_manager.specs.Windows.{Leaf}
use Rattle.map_tasks.specs.Inputs.{InputView, input_digest, lane_at}

-- The texts of inputs.
abbrev pub texts_of : List InputView → List Leaf
texts_of inputs = map (λ i. i.text) inputs

-- The input of a text that is mapped into a number of parts at a setting.
abbrev pub input_for : ℕ → ℕ → Leaf → InputView
input_for parts setting text = record { text = text; parts = parts; setting = setting }

-- Each input is mapped into this number of parts at this setting.
abbrev pub AreMappedSo : ℕ → ℕ → List InputView → Type 0
AreMappedSo parts setting inputs = All (λ i. (i.parts ≡ parts) × (i.setting ≡ setting)) inputs

-- The inputs that belong to a lane, of 16.
abbrev pub goes_to : ℕ → List InputView → List InputView
goes_to lane inputs = filter (λ i. lane_at (input_digest i.text) 16 == lane) inputs

-- The shift takes away no more than a list of `count` items has.
abbrev pub FitsOld : Shift → ℕ → Type 0
FitsOld (Slide first gone places fresh) count = (gone ≤ count) × All (λ p. gone + p < count) places
FitsOld (Splice first gone fresh) count = first + gone ≤ count

-- The shift brings no more than a list of `count` items has.
abbrev pub FitsNew : Shift → ℕ → Type 0
FitsNew (Slide first gone places fresh) count = (fresh ≤ count) × All (λ p. p < count) places
FitsNew (Splice first gone fresh) count = first + fresh ≤ count

-- The shift fits a list of `count` items, and brings `news`.
abbrev pub FitsList : Shift → ℕ → ℕ → Type 0
FitsList (Slide first gone places fresh) count news = (gone ≤ count) × All (λ p. p < count - gone) places × (length places ≤ news)
FitsList (Splice first gone fresh) count news = first + gone ≤ count
