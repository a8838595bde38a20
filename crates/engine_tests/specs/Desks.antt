-- What holds of an engine with its window, as the tests have them.
use Rattle.std.specs.Prelude.{◌≡◌, ℕ, ◌≤◌}
use Rattle.record_text.specs.declared.kind.Kind.{Kind}
use Rattle.run_settings.specs.Settings.{AreWithin}
use Rattle.window_manager.specs.Views.{WindowView}
use Rattle.window_manager.specs.Since.{IsSince}
use Rattle.run_engine.specs.Engines.{EngineView}

-- The window is of the tree's kind, and leads on from the leaves of the last completed run. It was told so many commands
-- at the most.
pub record IsDesk {J T : Type 0} (kind : Kind) (parts told : ℕ) (engine : EngineView J T) (window : WindowView) : Type 0 where
  pub within : AreWithin engine.settings
  pub parts_are : engine.settings.parts ≡ parts
  pub kind_is : window.window.kind ≡ kind
  pub places_are : window.window.places ≡ engine.settings.places
  pub since : IsSince engine.first engine.leaves window
  pub told_are : window.slid.accepted ≤ told
