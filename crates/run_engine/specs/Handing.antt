-- What lanes must hold for the sheets of leaves.
use Rattle.std.specs.Prelude.{◌≡◌, ℕ, ◌≤◌, List, length, All}
use Rattle.map_tasks.specs.Inputs.{InputView, input_digest, lane_at}
use Rattle.map_tasks.specs.Texts.{IsMappedSo, IsHeld}
use Rattle.map_tasks.specs.Lanes.{LaneView}
use Rattle.run_engine.specs.InPlace.{EachAt}

-- Each input has at least this many parts, and the lane that it belongs to holds it; all texts of lanes are mapped in
-- the same way.
pub record HoldEach (parts : ℕ) (inputs : List InputView) (lanes : List LaneView) : Type 0 where
  pub count : length lanes ≡ 16
  pub within : All (λ i. parts ≤ i.parts) inputs
  pub held : All (λ i. EachAt (λ k l. lane_at (input_digest i.text) 16 ≡ k → IsHeld i.text l.texts × All (IsMappedSo i.parts i.setting) l.texts) lanes) inputs
