-- A session stays a session: after a command, and after a run that is kept.
use Rattle.std.proofs.Common.{◌≡◌, ℕ, List, refl, ap, sym, subst, ◌∙◌}
use Rattle.std.specs.Prelude.{Result, Ok, Err}
use Rattle.job_laws.specs.Meanings.{Meaning}
use Rattle.record_text.specs.Shifts.{first_after}
use Rattle.record_text.specs.declared.command.Command.{Command}
use Rattle.record_text.specs.declared.command.Command.TheVariants.{Bucket, Drop, Late, File, Remove, Edit, Load, Run}
use Rattle.record_text.specs.declared.kind.Kind.{Kind}
use Rattle.record_text.specs.declared.shift.Shift.{Shift}
use Rattle.run_settings.specs.declared.settings.Settings.{Settings}
use Rattle.run_settings.specs.Settings.{AreWithin}
use Rattle.window_manager.specs.Windows.{Leaf, WindowState, window_after, refusal_of}
use Rattle.window_manager.specs.Views.{WindowView, Done, shift_of, view_anew}
use Rattle.window_manager.specs.Since.{IsSince}
use Rattle.window_manager.specs.declared.fault.WindowFault.{WindowFault}
use Rattle.window_manager.specs.declared.fault.WindowFault.TheVariants.{NotHere, TooMany, BadRecord, WindowLarge, Mem}
use Rattle.window_manager.proofs.SinceSteps.{since_anew, since_on}
use Rattle.tree_laws.specs.Trees.{Shape, TreeView}
use Rattle.run_engine.specs.Engines.{EngineView}
use Rattle.run_engine.specs.Runs.{IsRun, IsSameEngine}
use Rattle.slider_session.specs.Accepted.{HoldsAccepted, IsSession}
use Rattle.slider_session.proofs.Accepted.{keeps_accepted}

-- A command changes neither the kind of a window nor its places.
window-stays : (w : WindowState) (c : Command) → ((window_after w c).kind ≡ w.kind) × ((window_after w c).places ≡ w.places)
window-stays w (Bucket records) = (refl, refl)
window-stays w (Drop n) = (refl, refl)
window-stays w (Late place more) = (refl, refl)
window-stays w (File name) = (refl, refl)
window-stays w (Remove name) = (refl, refl)
window-stays w (Edit at del ins) = (refl, refl)
window-stays w (Load records) = (refl, refl)
window-stays w Run = (refl, refl)

module _ {V J T : Type 0} (kind : Kind) where
  module _ (j : Meaning V) (engine : EngineView J T) (old new : WindowView) (c : Command) (s : IsSession j kind engine old) where
    -- A window that is unchanged.
    same-session : new ≡ old → IsSession j kind engine new
    same-session is = subst (IsSession j kind engine) (sym is) s

    -- Whether the window carries out a command or refuses it.
    pub done-session : (result : Result (Unit {0}) WindowFault) → Done (refusal_of j.accepts old.window c) old new c result → IsSession j kind engine new
    done-session (Ok done) d =
        let stays = window-stays old.window c in record {
          accepted = subst (HoldsAccepted j) (sym d.1.window) (keeps_accepted j old.window c d.0 s.accepted);
          settings_are = s.settings_are;
          kind_is = ap (λ (w : WindowState). w.kind) d.1.window ∙ stays.0 ∙ s.kind_is;
          places = ap (λ (w : WindowState). w.places) d.1.window ∙ stays.1 ∙ s.places;
          since = since_on j.accepts engine.first engine.leaves old new c s.since d;
        }
    done-session (Err NotHere) d = same-session d.1
    done-session (Err TooMany) d = same-session d.1
    done-session (Err (BadRecord index)) d = same-session d.1
    done-session (Err WindowLarge) d = same-session d.1
    done-session (Err Mem) d = same-session d.1

  -- A run is kept, and the window knows of it.
  pub run-session : (mean : J → Meaning V) (view : T → TreeView V) (old new : EngineView J T) (w : WindowView) → IsSession (mean old.job) kind old w → IsSameEngine old new → (shaped : Shape → Shift → Shape) (now : WindowView) (settings : Settings) → IsRun view shaped w old new → now ≡ view_anew w → settings ≡ old.settings
      → IsSession (mean new.job) kind new now × (settings ≡ new.settings)
  run-session mean view old new w s same shaped now settings run is mine =
      let anew : IsSince (first_after (shift_of w) old.first) w.window.leaves (view_anew w) = since_anew old.first old.leaves w s.since in (
        subst (IsSession (mean new.job) kind new) (sym is) (record {
          accepted = subst (λ (job : J). HoldsAccepted (mean job) w.window) (sym same.job) s.accepted;
          settings_are = subst AreWithin (sym same.settings) s.settings_are;
          kind_is = s.kind_is;
          places = s.places ∙ sym (ap (λ (t : Settings). t.places) same.settings);
          since = subst (λ (n : ℕ). IsSince n new.leaves (view_anew w)) (sym run.first) (subst (λ (l : List Leaf). IsSince (first_after (shift_of w) old.first) l (view_anew w)) (sym run.leaves) anew);
        }),
        mine ∙ sym same.settings,
      )
