-- Facts, restated.
use Rattle.std.proofs.Common.{◌≡◌, subst, Result, Ok, Err, OnOk}

pub moved-two : {A B : Type 0} (P : A → B → Type 0) (a c : A) (b d : B) → a ≡ c → b ≡ d → P a b → P c d
moved-two {A} {B} P a c b d e f h = subst (λ (y : B). P c y) f (subst (λ (x : A). P x b) e h)

pub moved-three : {A B C : Type 0} (P : A → B → C → Type 0) (a x : A) (b y : B) (c z : C) → a ≡ x → b ≡ y → c ≡ z → P a b c → P x y z
moved-three {A} {B} {C} P a x b y c z e f g h = subst (λ (v : C). P x y v) g (moved-two (λ (p : A) (q : B). P p q c) a x b y e f h)

-- What a call promised if it did not fail, restated.
pub ok-more : {A E : Type 0} (r : Result A E) (P Q : Type 0) → (P → Q) → OnOk r P → OnOk r Q
ok-more (Ok x) P Q f h = f h
ok-more (Err e) P Q f h = tt
