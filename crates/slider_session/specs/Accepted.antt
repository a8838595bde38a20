-- What holds of every session: the records of its window are accepted, and its engine is over the leaves of the last
-- run.
use Rattle.std.specs.Prelude.{◌≡◌, All}
use Rattle.job_laws.specs.Meanings.{Meaning, AllAccepted}
use Rattle.record_text.specs.declared.kind.Kind.{Kind}
use Rattle.run_settings.specs.Settings.{AreWithin}
use Rattle.window_manager.specs.Windows.{WindowState}
use Rattle.window_manager.specs.Views.{WindowView}
use Rattle.window_manager.specs.Since.{IsSince}
use Rattle.run_engine.specs.Engines.{EngineView}

-- Each record of a window is accepted.
pub record HoldsAccepted {V : Type 0} (j : Meaning V) (w : WindowState) : Type 0 where
  pub leaves : All (AllAccepted j) w.leaves
  pub files : All (λ f. All (AllAccepted j) f.1) w.files

-- The window is of the kind and has the engine's places, its records are accepted, and its shift leads on from the
-- engine's last run.
pub record IsSession {V J T : Type 0} (j : Meaning V) (kind : Kind) (engine : EngineView J T) (w : WindowView) : Type 0 where
  pub accepted : HoldsAccepted j w.window
  pub settings_are : AreWithin engine.settings
  pub kind_is : w.window.kind ≡ kind
  pub places : w.window.places ≡ engine.settings.places
  pub since : IsSince engine.first engine.leaves w
