use Rattle.std.proofs.Common.{◌≤◌, ◌+◌, ◌-◌, ◌<◌, List, ℕ, All, arith, sym, subst}
use Rattle.record_text.specs.declared.shift.Shift.{Shift}
use Rattle.window_manager.specs.Slides.{FitsCount}
use Rattle.window_manager.proofs.PlaceLaws.{lowered_below}
use Rattle.window_manager.proofs.slide.slide_on.Goals as goal

pub returns-clause-fits : goal.returns-clause-fits
returns-clause-fits c =
    let count = c.args.count in let went = c.args.went in let came = c.args.came in let fresh = c.min-in-Slide.result in
    let fits = subst (λ (s : Shift). FitsCount s count) c.in-Slide.is c.requires.fits in
    let old : ℕ = count - c.in-Slide.fresh in
    let n : ℕ = count + came - went - fresh in
    let bound : old ≤ went + n = omega (arith, c.min-in-Slide.ensures, fits.0, c.requires.within, c.requires.small.1) in (
      omega (arith, c.min-in-Slide.ensures),
      omega (arith, c.min-in-Slide.ensures, c.min.ensures, fits.0, fits.1, c.requires.within, c.requires.small.1),
      subst (λ (l : List ℕ). All (λ q. q < n) l) (sym c.in_ok-places-in-Slide.ensures) (lowered_below went n old c.in-Slide.places bound fits.2),
    )
