use Rattle.std.proofs.Common.{◌-◌, ◌<◌, List, ℕ, All, arith, sym, subst}
use Rattle.record_text.specs.declared.shift.Shift.{Shift}
use Rattle.window_manager.specs.Slides.{FitsCount}
use Rattle.window_manager.proofs.PlaceLaws.{with_place_below}
use Rattle.window_manager.proofs.slide.mark_late.Goals as goal

pub returns-in_ok-places-in-Slide-clause-fits : goal.returns-in_ok-places-in-Slide-clause-fits
returns-in_ok-places-in-Slide-clause-fits c =
    let fits = subst (λ (s : Shift). FitsCount s c.args.count) c.in-Slide.is c.requires in
    let old : ℕ = c.args.count - c.in-Slide.fresh in (
      fits.0,
      fits.1,
      subst (λ (l : List ℕ). All (λ p. p < old) l) (sym c.in_ok-places-in-Slide.ensures) (with_place_below old c.args.place c.in-Slide.places (omega (arith, c.if-place-count.true)) fits.2),
    )
