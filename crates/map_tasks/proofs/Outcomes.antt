-- What holds if a call succeeds, and if it fails.
use Rattle.std.proofs.Common.{Result, Ok, Err, OnOk, OnErr}

pub ok-const : {T E : Type 0} (r : Result T E) (A : Type 0) → A → OnOk r A
ok-const (Ok x) A a = a
ok-const (Err e) A a = tt

pub err-map : {T E : Type 0} (r : Result T E) (A B : Type 0) → (A → B) → OnErr r A → OnErr r B
err-map (Ok x) A B f h = tt
err-map (Err e) A B f h = f h

pub ok-map : {T E : Type 0} (r : Result T E) (A B : Type 0) → (A → B) → OnOk r A → OnOk r B
ok-map (Ok x) A B f h = f h
ok-map (Err e) A B f h = tt
