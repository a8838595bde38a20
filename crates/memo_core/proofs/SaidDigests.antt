-- A live entry has the digest that any event said of its id.
use Rattle.std.proofs.Common.{◌≡◌, ℕ, inl, inr, Bool, true, false, ◌&&◌, ◌||◌, ◌==◌, List, [], ◌∷◌, ◌++◌, Option, Some, None, refl, sym, subst, ◌∙◌, arith, append_assoc}
use Rattle.std.proofs.lemmas.Bool.{eqb-true}
use Rattle.std.proofs.lemmas.Slice.Eq.{bytes_eq-Decides}
use Rattle.std.specs.List.{list_any}
use Rattle.std.specs.Str.{bytes_eq}
use Rattle.std.specs.Option.{option_and_then}
use Rattle.memo_core.specs.declared.entries.CoreEntry.{CoreEntry}
use Rattle.memo_core.specs.declared.state.CoreState.{CoreState}
use Rattle.memo_core.specs.declared.event.Event.{Event}
use Rattle.memo_core.specs.declared.event.Event.TheVariants.{Look, Keep, Release, Sweep}
use Rattle.memo_core.specs.declared.event.LookAnswer.TheVariants.{Hit, Absent, Clash}
use Rattle.memo_core.specs.declared.event.KeepAnswer.TheVariants.{Stored, Found, Clash as KeepClash}
use Rattle.memo_core.specs.Machine.{replayed, replayed_from, after_event, start, find_id, names}
use Rattle.memo_core.specs.History.{stores, says}
use Rattle.memo_core.proofs.Lists.{RisingIds, find_id-above}
use Rattle.memo_core.proofs.Invariant.{Fits, Fits-step, Fits-replayed, Fits-start, IsLiveWith, when_some, and_true, first_true, second_true}

list_any-append : {X : Type 0} (test : X → Bool) (xs ys : List X) → list_any test (xs ++ ys) ≡ (list_any test xs || list_any test ys)
list_any-append test [] ys = refl
list_any-append test (x ∷ xs) ys = elim (test x) as (λ b. (b || list_any test (xs ++ ys)) ≡ ((b || list_any test xs) || list_any test ys)) [ true ↦ refl | false ↦ list_any-append test xs ys ]

named_live : (id : ℕ) (d : List ℕ) (es : List CoreEntry) → RisingIds es → list_any (names id d) es ≡ true → IsLiveWith id d es
named_live id d [] r h = cc
named_live id d (e ∷ es) r h = id_case (e.id == id) refl (bytes_eq e.digest d) refl h (named_live id d es r.1)
  where
    id_case : (b : Bool) → (e.id == id) ≡ b → (c : Bool) → bytes_eq e.digest d ≡ c → ((b && c) || list_any (names id d) es) ≡ true → (list_any (names id d) es ≡ true → IsLiveWith id d es) → IsLiveWith id d (e ∷ es)
    id_case true same true eq h ih = (e, (rw same refl), eq)
    id_case true same false eq h ih = absurd (let live = ih h in let none : find_id id es ≡ None = find_id-above e.id id es r.0 (let q : e.id ≡ id = eqb-true e.id id same in omega (arith, q)) in let both : None ≡ Some live.0 = sym none ∙ live.1 in cc)
    id_case false same c eq h ih = let live = ih h in (live.0, (rw same live.1), live.2)

said_now : (past : List Event) (s t : CoreState) (id i : ℕ) (d digest : List ℕ) → Fits past s → list_any (names i digest) s.entries ≡ true → ((i == id) && bytes_eq digest d) ≡ true → list_any (stores id d) past ≡ true
said_now past s t id i d digest fits named said =
    let both = and_true _ _ said in
    let same : digest ≡ d = (bytes_eq-Decides digest d).0 both.1 in
    let which : i ≡ id = eqb-true i id both.0 in
    let live = named_live id d s.entries fits.rising (subst (λ (x : List ℕ). list_any (names id x) s.entries ≡ true) same (subst (λ (k : ℕ). list_any (names k digest) s.entries ≡ true) which named)) in
    subst (λ (x : List ℕ). list_any (stores id x) past ≡ true) ((bytes_eq-Decides live.0.digest d).0 live.2) (fits.made id live.0 live.1)

-- an event that says it comes after the event that stored it, or is that event
said-step : (past : List Event) (s t : CoreState) (e : Event) (id : ℕ) (d : List ℕ) → Fits past s → after_event s e ≡ Some t → says id d e ≡ true → list_any (stores id d) (past ++ e ∷ []) ≡ true
said-step past s t (Look c run digest (Hit i)) id d fits is said = list_any-append (stores id d) past _ ∙ first_true _ _ (said_now past s t id i d digest fits (when_some _ _ _ is).0 said)
said-step past s t (Look c run digest Absent) id d fits is said = cc
said-step past s t (Look c run digest (Clash i)) id d fits is said = list_any-append (stores id d) past _ ∙ first_true _ _ (said_now past s t id i d digest fits (when_some _ _ _ is).0 said)
said-step past s t (Keep c run digest (Stored i)) id d fits is said = list_any-append (stores id d) past _ ∙ second_true (list_any (stores id d) past) _ (first_true _ _ said)
said-step past s t (Keep c run digest (Found i)) id d fits is said = list_any-append (stores id d) past _ ∙ first_true _ _ (said_now past s t id i d digest fits (when_some _ _ _ is).0 said)
said-step past s t (Keep c run digest (KeepClash i)) id d fits is said = list_any-append (stores id d) past _ ∙ first_true _ _ (said_now past s t id i d digest fits (when_some _ _ _ is).0 said)
said-step past s t (Release c i) id d fits is said = cc
said-step past s t (Sweep c h n) id d fits is said = cc

said-from : (past es : List Event) (s t : CoreState) (id : ℕ) (d : List ℕ) → Fits past s → replayed_from s es ≡ Some t → list_any (says id d) es ≡ true → list_any (stores id d) (past ++ es) ≡ true
said-from past [] s t id d fits is said = cc
said-from past (e ∷ es) s t id d fits is said = step_case (after_event s e) refl is (λ u f r q. said-from (past ++ e ∷ []) es u t id d f r q)
  where
    step_case : (o : Option CoreState) → after_event s e ≡ o → option_and_then (λ u. replayed_from u es) o ≡ Some t → ((u : CoreState) → Fits (past ++ e ∷ []) u → replayed_from u es ≡ Some t → list_any (says id d) es ≡ true → list_any (stores id d) ((past ++ e ∷ []) ++ es) ≡ true) → list_any (stores id d) (past ++ e ∷ es) ≡ true
    step_case None stepped is ih = cc
    step_case (Some u) stepped is ih = elim (says id d e) as (λ b. says id d e ≡ b → (b || list_any (says id d) es) ≡ true → list_any (stores id d) (past ++ e ∷ es) ≡ true) [
      | true ↦ λ now h. subst (λ (xs : List Event). list_any (stores id d) xs ≡ true) (append_assoc past (e ∷ []) es) (list_any-append (stores id d) (past ++ e ∷ []) es ∙ first_true _ _ (said-step past s u e id d fits stepped now))
      | false ↦ λ now h. subst (λ (xs : List Event). list_any (stores id d) xs ≡ true) (append_assoc past (e ∷ []) es) (ih u (Fits-step past s u e stepped fits) is h)
    ] refl said

-- A live entry has the digest that an event said of its id.
pub live-digest : (es : List Event) (s : CoreState) → replayed es ≡ Some s → (id : ℕ) (d : List ℕ) (x : CoreEntry) → list_any (says id d) es ≡ true → find_id id s.entries ≡ Some x → x.digest ≡ d
live-digest es s is id d x said found =
    let fits = Fits-replayed es s is in
    elim (fits.gone id d (said-from [] es start s id d Fits-start is said)) [
      | inl live ↦ let same : live.0 ≡ x = same_entry live.0 x (sym live.1 ∙ found) in subst (λ (y : CoreEntry). y.digest ≡ d) same ((bytes_eq-Decides live.0.digest d).0 live.2)
      | inr gone ↦ absurd (let none = (fits.taken id gone).0 in let both : None ≡ Some x = sym none ∙ found in cc)
    ]
  where
    same_entry : (a b : CoreEntry) → Some a ≡ Some b → a ≡ b
    same_entry a b h = cc
