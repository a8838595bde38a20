-- Steps of observable bytes: none, and one call after another.
use Rattle.std.proofs.Common.{◌≡◌, ℕ, List, refl}
use Rattle.std.specs.Prelude.{Option}
use Rattle.std.specs.declared.option.Option.TheVariants.{Some, None}
use Rattle.definitions.specs.Outside.{Told}

-- a relation that holds of equal bytes holds if nothing was done
pub told_same : (a : Option (List ℕ)) (P : List ℕ → List ℕ → Type 0) → ((x : List ℕ) → P x x) → Told a a P
told_same None P same = tt
told_same (Some x) P same = same x

-- one call after another
pub told_then : (a b c : Option (List ℕ)) (P Q R : List ℕ → List ℕ → Type 0) → ((x y z : List ℕ) → P x y → Q y z → R x z) → Told a b P → Told b c Q → Told a c R
told_then None None None P Q R step p q = tt
told_then None None (Some z) P Q R step p q = q
told_then None (Some y) c P Q R step p q = absurd p
told_then (Some x) None c P Q R step p q = absurd p
told_then (Some x) (Some y) None P Q R step p q = q
told_then (Some x) (Some y) (Some z) P Q R step p q = step x y z p q

-- two relations of observable bytes
pub told_with : (a b : Option (List ℕ)) (P Q : List ℕ → List ℕ → Type 0) → Told a b P → ((x y : List ℕ) → a ≡ Some x → b ≡ Some y → P x y → Q x y) → Told a b Q
told_with None None P Q t f = tt
told_with None (Some y) P Q t f = absurd t
told_with (Some x) None P Q t f = absurd t
told_with (Some x) (Some y) P Q t f = f x y refl refl t
