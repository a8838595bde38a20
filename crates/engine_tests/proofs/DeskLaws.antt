-- How a desk stands at first, and goes on by commands and runs.
use Rattle.std.proofs.Common.{◌≡◌, ℕ, ◌+◌, ◌≤◌, Bool, List, [], Result, Ok, Err, refl, ap, sym, subst, ◌∙◌, arith}
use Rattle.job_laws.specs.declared.job.Job as Jobs
use Rattle.record_text.specs.Shifts.{first_after}
use Rattle.record_text.specs.declared.command.Command.{Command}
use Rattle.record_text.specs.declared.command.Command.TheVariants.{Bucket, Drop, Late, File, Remove, Edit, Load, Run}
use Rattle.record_text.specs.declared.kind.Kind.{Kind}
use Rattle.record_text.specs.declared.shift.Shift.{Shift}
use Rattle.run_settings.specs.declared.settings.Settings.{Settings}
use Rattle.run_settings.specs.Settings.{AreWithin}
use Rattle.pin_table.specs.Covers.{PinName}
use Rattle.window_manager.specs.Windows.{Leaf, WindowState, window_after, refusal_of}
use Rattle.window_manager.specs.Slides.{Slid, slid_after}
use Rattle.window_manager.specs.Views.{WindowView, Done, no_leaves, view_anew, shift_of}
use Rattle.window_manager.specs.Since.{IsSince}
use Rattle.window_manager.specs.declared.fault.WindowFault.{WindowFault}
use Rattle.window_manager.specs.declared.fault.WindowFault.TheVariants.{NotHere, TooMany, BadRecord, WindowLarge, Mem}
use Rattle.window_manager.proofs.SinceSteps.{since_new, since_anew, since_on}
use Rattle.tree_laws.specs.Trees.{Shape, TreeView}
use Rattle.run_engine.specs.Engines.{EngineView, IsNewEngine}
use Rattle.run_engine.specs.Runs.{IsRun, IsSameEngine}
use Rattle.engine_tests.specs.Desks.{IsDesk}

since-moved : (first now : ℕ) (leaves held : List Leaf) (w : WindowView) → now ≡ first → held ≡ leaves → IsSince first leaves w → IsSince now held w
since-moved first now leaves held w p q since = subst (λ (n : ℕ). IsSince n held w) (sym p) (subst (λ (l : List Leaf). IsSince first l w) (sym q) since)

-- An engine before its first run, over an empty window.
pub desk-new : {J V M T : Type 0} (j : Jobs.Ghosts J V M) (view : T → TreeView V) (pins : T → List PinName) (n : ℕ) (job : J) (settings : Settings) (kind : Kind) (e : EngineView J T) → AreWithin settings → IsNewEngine j view pins n job settings e → IsDesk kind settings.parts 0 e (no_leaves kind settings.places)
desk-new j view pins n job settings kind e within new = record {
  within = subst AreWithin (sym new.settings_are) within;
  parts_are = ap (λ (s : Settings). s.parts) new.settings_are;
  kind_is = refl;
  places_are = ap (λ (s : Settings). s.places) (sym new.settings_are);
  since = since-moved 0 e.first [] e.leaves (no_leaves kind settings.places) new.first new.leaves (since_new kind settings.places);
  told_are = omega arith;
}

same-kind : (w : WindowState) (c : Command) → ((window_after w c).kind ≡ w.kind) × ((window_after w c).places ≡ w.places)
same-kind w (Bucket records) = (refl, refl)
same-kind w (Drop n) = (refl, refl)
same-kind w (Late place more) = (refl, refl)
same-kind w (File name) = (refl, refl)
same-kind w (Remove name) = (refl, refl)
same-kind w (Edit at del ins) = (refl, refl)
same-kind w (Load records) = (refl, refl)
same-kind w Run = (refl, refl)

one-more : (w : WindowState) (c : Command) (s : Slid) → (slid_after w c s).accepted ≤ s.accepted + 1
one-more w (Bucket records) s = omega arith
one-more w (Drop n) s = omega arith
one-more w (Late place more) s = omega arith
one-more w (File name) s = omega arith
one-more w (Remove name) s = omega arith
one-more w (Edit at del ins) s = omega arith
one-more w (Load records) s = omega arith
one-more w Run s = omega arith

module _ {J T : Type 0} (kind : Kind) (parts told : ℕ) where
  -- One command more was told, and it was refused.
  desk-refused : (e : EngineView J T) (old new : WindowView) → new ≡ old → IsDesk kind parts told e old → IsDesk kind parts (told + 1) e new
  desk-refused e old new same d =
      let t = d.told_are in
      subst (λ (w : WindowView). IsDesk kind parts (told + 1) e w) (sym same) (record {
        within = d.within;
        parts_are = d.parts_are;
        kind_is = d.kind_is;
        places_are = d.places_are;
        since = d.since;
        told_are = omega (arith, t);
      })

  -- One command more was told.
  pub desk-told : (accepts : List ℕ → Bool) (e : EngineView J T) (old new : WindowView) (c : Command) (result : Result (Unit {0}) WindowFault) → Done (refusal_of accepts old.window c) old new c result → IsDesk kind parts told e old → IsDesk kind parts (told + 1) e new
  desk-told accepts e old new c (Ok done) did d =
      let t = d.told_are in
      let one = one-more old.window c old.slid in
      let same = same-kind old.window c in
      record {
        within = d.within;
        parts_are = d.parts_are;
        kind_is = ap (λ (w : WindowState). w.kind) did.1.window ∙ same.0 ∙ d.kind_is;
        places_are = ap (λ (w : WindowState). w.places) did.1.window ∙ same.1 ∙ d.places_are;
        since = since_on accepts e.first e.leaves old new c d.since did;
        told_are = subst (λ (s : Slid). s.accepted ≤ told + 1) (sym did.1.slid) (let h : (slid_after old.window c old.slid).accepted ≤ told + 1 = omega (arith, one, t) in h);
      }
  desk-told accepts e old new c (Err NotHere) did d = desk-refused e old new did.1 d
  desk-told accepts e old new c (Err TooMany) did d = desk-refused e old new did.1 d
  desk-told accepts e old new c (Err (BadRecord index)) did d = desk-refused e old new did.1 d
  desk-told accepts e old new c (Err WindowLarge) did d = desk-refused e old new did.1 d
  desk-told accepts e old new c (Err Mem) did d = desk-refused e old new did.1 d

  -- A run was made, and the window was told.
  pub desk-ran : {U : Type 0} (view : T → TreeView U) (shaped : Shape → Shift → Shape) (old new : EngineView J T) (w : WindowView) → IsRun view shaped w old new → IsSameEngine old new → IsDesk kind parts told old w → IsDesk kind parts told new (view_anew w)
  desk-ran view shaped old new w run same d = record {
    within = subst AreWithin (sym same.settings) d.within;
    parts_are = ap (λ (s : Settings). s.parts) same.settings ∙ d.parts_are;
    kind_is = d.kind_is;
    places_are = d.places_are ∙ ap (λ (s : Settings). s.places) (sym same.settings);
    since = since-moved (first_after (shift_of w) old.first) new.first w.window.leaves new.leaves (view_anew w) run.first run.leaves (since_anew old.first old.leaves w d.since);
    told_are = d.told_are;
  }
