-- What calls of the memo, one after another, mean for a text that is brought.
use Rattle.std.proofs.Common.{◌≡◌, ℕ, inl, inr, ⊎_elim, Bool, true, false, ◌||◌, List, [], ◌∷◌, ◌++◌, refl, ap, subst, ◌∙◌}
use Rattle.std.specs.List.{list_any, All}
use Rattle.std.proofs.lemmas.List.Elements.{All-nil, All-cons}
use Rattle.std.proofs.lemmas.Cmp.{nat_list_eq_equiv}
use Rattle.memo_core.specs.declared.event.Event.{Event}
use Rattle.memo_core.specs.declared.event.Event.TheVariants.{Look, Keep}
use Rattle.memo_core.specs.declared.event.LookAnswer.TheVariants.{Hit as HitAnswer, Absent as AbsentAnswer, Clash as ClashAnswer}
use Rattle.memo_core.specs.declared.event.KeepAnswer.TheVariants.{Stored as StoredAnswer, Found as FoundAnswer, Clash as KeepClashAnswer}
use Rattle.memo_server.specs.Callers.{frees}
use Rattle.memo_server.specs.Views.{EntryView}
use Rattle.pin_table.specs.Views.{CallerView, PinView}
use Rattle.pin_table.specs.Known.{CallerFits, Gained, WornOut, AtShard, IsWorn}
use Rattle.pin_table.specs.Answers.{HitAs, ClashAs, StoredAs, FoundAs, KeepClashAs}
use Rattle.pin_table.specs.declared.answers.Looked.TheVariants.{Hit}
use Rattle.pin_table.specs.declared.answers.Kept.TheVariants.{Stored, Found}
use Rattle.pin_table.specs.Covers.{PinName, IsLater, Got, AreGiven, gave, name_of}
use Rattle.pin_table.specs.OwnEvents.{there, gained, is_miss, Quiet}
use Rattle.pin_table.proofs.Covering.{got-then}
use Rattle.pin_table.proofs.Answering.{got-worn, looks-got, keeps-got, same-pin}
use Rattle.pin_table.proofs.OwnEvents.{gain-one, gained-then, any-append, any-later, there-later, worn-there, quiet-gained, quiet-any, absent-missed, clash-missed, hit-event, stored-event, found-event, clash-event, keep-clash-event, clash-quiet, keep-clash-quiet}
use Rattle.map_tasks.specs.Inputs.{InputView}
use Rattle.map_tasks.specs.Texts.{digest_of_input}
use Rattle.map_tasks.specs.Lanes.{clashes, Pinned, LookedFirst, KeptOrClashed}

-- An event that gives a pin on an entry with the digest.
pub pinned-by : (digest : List ℕ) (e : Event) (id : ℕ) (v w : CallerView) → AtShard (Gained v.number e) (there digest v) v w → gave id digest e ≡ true → frees id e ≡ false → Pinned digest v w
pinned-by digest e id v w at given free =
    let is = gain-one v.number (there digest v) e v w at in
    record {
      id = id;
      got = ap (list_any (gave id digest)) is ∙ rw given refl;
      still = ap (list_any (frees id)) is ∙ rw free refl;
    }

module _ (digest : List ℕ) (run id : ℕ) (v w : CallerView) where
  pub hit-pins : AtShard (Gained v.number (Look v.number run digest (HitAnswer id))) (there digest v) v w → KeptOrClashed digest v w
  hit-pins at = inl (pinned-by digest (Look v.number run digest (HitAnswer id)) id v w at (same-pin id digest) refl)

  pub stored-pins : AtShard (Gained v.number (Keep v.number run digest (StoredAnswer id))) (there digest v) v w → KeptOrClashed digest v w
  stored-pins at = inl (pinned-by digest (Keep v.number run digest (StoredAnswer id)) id v w at (same-pin id digest) refl)

  pub found-pins : AtShard (Gained v.number (Keep v.number run digest (FoundAnswer id))) (there digest v) v w → KeptOrClashed digest v w
  found-pins at = inl (pinned-by digest (Keep v.number run digest (FoundAnswer id)) id v w at (same-pin id digest) refl)

  pub look-clashes : AtShard (Gained v.number (Look v.number run digest (ClashAnswer id))) (there digest v) v w → KeptOrClashed digest v w
  look-clashes at = inr (inl (ap (list_any (clashes digest)) (gain-one v.number (there digest v) (Look v.number run digest (ClashAnswer id)) v w at) ∙ rw (nat_list_eq_equiv.refl digest) refl))

  pub keep-clashes : AtShard (Gained v.number (Keep v.number run digest (KeepClashAnswer id))) (there digest v) v w → KeptOrClashed digest v w
  keep-clashes at = inr (inl (ap (list_any (clashes digest)) (gain-one v.number (there digest v) (Keep v.number run digest (KeepClashAnswer id)) v w at) ∙ rw (nat_list_eq_equiv.refl digest) refl))

-- What a later call did, after events that give up no pin.
pub kept-before : (digest : List ℕ) (es : List Event) (v w x : CallerView) → Quiet digest es v w → ((id : ℕ) → list_any (frees id) es ≡ false) → IsLater w x → KeptOrClashed digest w x → KeptOrClashed digest v x
kept-before digest es v w x quiet free later kept =
    let is : gained digest v x ≡ es ++ gained digest w x = gained-then digest v w x quiet.got.later later ∙ ap (λ (gs : List Event). gs ++ gained digest w x) quiet.gain in
    ⊎_elim
    (λ (p : Pinned digest w x). inl (record {
      id = p.id;
      got = ap (list_any (gave p.id digest)) is ∙ any-later (gave p.id digest) es (gained digest w x) p.got;
      still = ap (list_any (frees p.id)) is ∙ (any-append (frees p.id) es (gained digest w x) ∙ both_false (list_any (frees p.id) es) (list_any (frees p.id) (gained digest w x)) (free p.id) p.still);
    }))
    (λ c. inr (⊎_elim
    (λ (h : list_any (clashes digest) (gained digest w x) ≡ true). inl (ap (list_any (clashes digest)) is ∙ any-later (clashes digest) es (gained digest w x) h))
    (λ (h : IsWorn (there digest w) x). inr (subst (λ (s : ℕ). IsWorn s x) (there-later digest v w quiet.got.later) h)) c))
    kept
  where
    both_false : (a b : Bool) → a ≡ false → b ≡ false → (a || b) ≡ false
    both_false a b p q = rw p q

-- What a call means for the pins that it gave on an input.
abbrev pub BroughtBy : InputView → List PinName → CallerView → CallerView → Type 0
BroughtBy input pins v w = All (λ p. p.digest ≡ digest_of_input input) pins × Got v pins w × AreGiven w pins × KeptOrClashed (digest_of_input input) v w

one-named : (input : InputView) (p : PinName) → p.digest ≡ digest_of_input input → All (λ q. q.digest ≡ digest_of_input input) (p ∷ [])
one-named input p h = All-cons (λ (q : PinName). q.digest ≡ digest_of_input input) p [] h (All-nil (λ (q : PinName). q.digest ≡ digest_of_input input))

module _ {O : Type 0} (fits : InputView → O → Type 0) (run : ℕ) (input : InputView) (v w : CallerView) (known : CallerFits v) where
  pub hit-brought : (p : PinView InputView O) → AtShard (HitAs fits digest_of_input v.number (there (digest_of_input input) v) run input p) (there (digest_of_input input) v) v w → BroughtBy input (name_of digest_of_input p ∷ []) v w
  hit-brought p h =
      let got = looks-got v w known {R = Unit {0}} fits digest_of_input run input (Hit p) h in
      (one-named input (name_of digest_of_input p) (ap digest_of_input h.goes.2), got.0, got.1, hit-pins (digest_of_input input) run p.id v w (hit-event fits digest_of_input run input v w p h))

  pub stored-brought : (out : O) (p : PinView InputView O) → AtShard (StoredAs fits digest_of_input v.number (there (digest_of_input input) v) run input out p) (there (digest_of_input input) v) v w → BroughtBy input (name_of digest_of_input p ∷ []) v w
  stored-brought out p h =
      let got = keeps-got v w known {R = Unit {0}} fits digest_of_input run input out (Stored p) h in
      (one-named input (name_of digest_of_input p) (ap digest_of_input h.goes.2), got.0, got.1, stored-pins (digest_of_input input) run p.id v w (stored-event fits digest_of_input run input v w out p h))

  pub found-brought : (out : O) (p : PinView InputView O) → AtShard (FoundAs fits digest_of_input v.number (there (digest_of_input input) v) run input p) (there (digest_of_input input) v) v w → BroughtBy input (name_of digest_of_input p ∷ []) v w
  found-brought out p h =
      let got = keeps-got v w known {R = Unit {0}} fits digest_of_input run input out (Found p) h in
      (one-named input (name_of digest_of_input p) (ap digest_of_input h.goes.2), got.0, got.1, found-pins (digest_of_input input) run p.id v w (found-event fits digest_of_input run input v w p h))

  pub look-clash-brought : (e : EntryView InputView O) → AtShard (ClashAs fits digest_of_input v.number run input e) (there (digest_of_input input) v) v w → BroughtBy input [] v w
  look-clash-brought e h =
      (All-nil (λ (q : PinName). q.digest ≡ digest_of_input input), (clash-quiet fits digest_of_input run input v w e known h).got, tt, look-clashes (digest_of_input input) run e.id v w (clash-event fits digest_of_input run input v w e h))

  pub keep-clash-brought : (out : O) (e : EntryView InputView O) (i : InputView) (o : O) → AtShard (KeepClashAs fits digest_of_input v.number run input out e i o) (there (digest_of_input input) v) v w → BroughtBy input [] v w
  keep-clash-brought out e i o h =
      (All-nil (λ (q : PinName). q.digest ≡ digest_of_input input), (keep-clash-quiet fits digest_of_input run input v w out e i o known h).got, tt, keep-clashes (digest_of_input input) run e.id v w (keep-clash-event fits digest_of_input run input v w out e i o h))

pub worn-brought : (input : InputView) (ticket s : ℕ) (v w : CallerView) → s ≡ there (digest_of_input input) v → AtShard (WornOut ticket) s v w → BroughtBy input [] v w
worn-brought input ticket s v w is at =
    (All-nil (λ (q : PinName). q.digest ≡ digest_of_input input), got-worn ticket s v w at, tt, inr (inr (subst (λ (i : ℕ). IsWorn i w) is (worn-there ticket s v w at))))

-- A look that found no entry, and then another call.
pub absent-then : (input : InputView) (run : ℕ) (pins : List PinName) (v w x : CallerView) → CallerFits v → AtShard (Gained v.number (Look v.number run (digest_of_input input) AbsentAnswer)) (there (digest_of_input input) v) v w → Got w pins x → Got v pins x × LookedFirst (digest_of_input input) v x × (KeptOrClashed (digest_of_input input) w x → KeptOrClashed (digest_of_input input) v x)
absent-then input run pins v w x known at got =
    let d = digest_of_input input in
    let e = Look v.number run d AbsentAnswer in
    let q : Quiet d (e ∷ []) v w = quiet-gained d e v w known (λ id. refl) (λ id. refl) at in
    (got-then v w x [] pins q.got got, inl (quiet-any d (is_miss d) (e ∷ []) v w x (absent-missed v.number run d) q got.later), λ kept. kept-before d (e ∷ []) v w x q (λ id. refl) got.later kept)

-- A look that clashed was one that did not hit.
pub clash-looked : {O : Type 0} (fits : InputView → O → Type 0) (run : ℕ) (input : InputView) (v w : CallerView) → CallerFits v → (e : EntryView InputView O) → AtShard (ClashAs fits digest_of_input v.number run input e) (there (digest_of_input input) v) v w → LookedFirst (digest_of_input input) v w
clash-looked fits run input v w known e h =
    let d = digest_of_input input in
    let q = clash-quiet fits digest_of_input run input v w e known h in
    inl (ap (list_any (is_miss d)) q.gain ∙ clash-missed v.number run e.id d)

pub worn-looked : (input : InputView) (ticket s : ℕ) (v w : CallerView) → s ≡ there (digest_of_input input) v → AtShard (WornOut ticket) s v w → LookedFirst (digest_of_input input) v w
worn-looked input ticket s v w is at = inr (subst (λ (i : ℕ). IsWorn i w) is (worn-there ticket s v w at))
