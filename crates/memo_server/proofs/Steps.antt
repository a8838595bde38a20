-- What each call of a shard adds to its history, and what the shard keeps.
use Rattle.std.proofs.Common.{◌≡◌, ℕ, ◌+◌, ◌-◌, ◌^◌, ◌<◌, ◌≤◌, Bool, true, false, not, ◌==◌, nat_lt, List, [], ◌∷◌, ◌++◌, length, filter, Some, None, slice_get, refl, sym, ap, subst, ◌∙◌, arith}
use Rattle.std.specs.List.{list_any}
use Rattle.std.proofs.lemmas.Bool.Decides.{nat_tests}
use Rattle.memo_core.specs.declared.event.Event.{Event}
use Rattle.memo_core.specs.declared.event.Event.TheVariants.{Look, Keep, Release, Sweep}
use Rattle.memo_core.specs.declared.event.LookAnswer.TheVariants.{Absent}
use Rattle.memo_core.specs.declared.event.KeepAnswer.TheVariants.{Stored}
use Rattle.memo_core.specs.Machine.{replayed, after_event, start, when, has_digest, names, has_pin}
use Rattle.memo_core.proofs.Lists.{RisingIds}
use Rattle.memo_core.proofs.Invariant.{replayed-push, Fits-replayed}
use Rattle.memo_server.specs.declared.met.Asked.{Asked}
use Rattle.memo_server.specs.declared.met.Asked.TheVariants.{Look as LookAsked, Keep as KeepAsked}
use Rattle.memo_server.specs.Asks.{same_event, other_event}
use Rattle.memo_server.specs.Views.{LiveView, EntryView, AreKeyed, entry_view, entry_of, live_view, at_live, update_at, pinned_view, released_view, is_stale, total_pins, found, core_entries, core_state}
use Rattle.memo_server.specs.Shards.{ShardView, ShardFits}
use Rattle.memo_server.specs.Calls.{IsLiveEntry}
use Rattle.memo_server.proofs.Places.{same_some, has-none, names-at, update-live, one-place, rising-places}
use Rattle.memo_server.proofs.Entries.{core-pinned, core-released, core-append, core-swept, core-stale, key-at, pin-at}

module _ {I O : Type 0} where
  -- The ids of what a legal history leads to rise.
  pub rising-from : (h : List Event) (es : List (List ℕ × LiveView I O)) (n : ℕ) → replayed h ≡ Some (core_state es n) → RisingIds (core_entries es)
  rising-from h es n is = (Fits-replayed h (core_state es n) is).rising

  -- A legal event keeps what a shard keeps.
  pub keeps-step : (digest_of : I → List ℕ) (p p' sp sp' : ℕ) (s t : ShardView I O) (e : Event) → ShardFits digest_of p sp s → t.history ≡ s.history ++ e ∷ []
      → after_event (core_state s.live s.next) e ≡ Some (core_state t.live t.next) → AreKeyed digest_of t.live → p' ≡ total_pins t.live → p' ≤ sp' → ShardFits digest_of p' sp' t
  keeps-step digest_of p p' sp sp' s t e k history legal keys pins room = record {
    replays = rw history (replayed-push start s.history (core_state s.live s.next) (core_state t.live t.next) e k.replays legal);
    keys = keys;
    pins_are = pins;
    room = room;
  }

  pub legal-absent : (es : List (List ℕ × LiveView I O)) (n c run : ℕ) (d : List ℕ) → found d es ≡ None → after_event (core_state es n) (Look c run d Absent) ≡ Some (core_state es n)
  legal-absent es n c run d none = ap (λ b. when (not b) (core_state es n)) (has-none d es none)

  pub legal-other : (asked : Asked) (es : List (List ℕ × LiveView I O)) (n c run : ℕ) (d : List ℕ) (i : ℕ) (l : LiveView I O) → slice_get es i ≡ Some (d, l) → after_event (core_state es n) (other_event asked c run d l.id) ≡ Some (core_state es n)
  legal-other LookAsked es n c run d i l at = ap (λ b. when b (core_state es n)) (names-at d es i l at)
  legal-other KeepAsked es n c run d i l at = ap (λ b. when b (core_state es n)) (names-at d es i l at)

  pinned_state : (es : List (List ℕ × LiveView I O)) (n c run id : ℕ) (b : Bool) → b ≡ true → when b (record { entries = core_entries (at_live id (pinned_view c run) es); next = n }) ≡ Some (core_state (at_live id (pinned_view c run) es) n)
  pinned_state es n c run id b is = ap (λ x. when x (core_state (at_live id (pinned_view c run) es) n)) is

  pub legal-same : (asked : Asked) (es : List (List ℕ × LiveView I O)) (n c run : ℕ) (d : List ℕ) (i : ℕ) (l : LiveView I O) → slice_get es i ≡ Some (d, l) → after_event (core_state es n) (same_event asked c run d l.id) ≡ Some (core_state (at_live l.id (pinned_view c run) es) n)
  legal-same LookAsked es n c run d i l at = rw (← core-pinned c run l.id es) (pinned_state es n c run l.id (list_any (names l.id d) (core_entries es)) (names-at d es i l at))
  legal-same KeepAsked es n c run d i l at = rw (← core-pinned c run l.id es) (pinned_state es n c run l.id (list_any (names l.id d) (core_entries es)) (names-at d es i l at))

  pub legal-stored : (es : List (List ℕ × LiveView I O)) (n c run : ℕ) (d : List ℕ) (input : I) (out : O) → found d es ≡ None → n < 2 ^ 64 - 1
      → after_event (core_state es n) (Keep c run d (Stored n)) ≡ Some (core_state (es ++ (d, live_view (entry_view n input out) run (c ∷ [])) ∷ []) (n + 1))
  legal-stored es n c run d input out none lt =
      let first : has_digest d (core_entries es) ≡ false = has-none d es none in
      let same : (n == n) ≡ true = grind (arith, nat_tests) in
      let below : nat_lt n (2 ^ 64 - 1) ≡ true = grind (arith, nat_tests) in
      rw (first, same, below, core-append es (d, live_view (entry_view n input out) run (c ∷ []))) refl

  pub legal-released : (es : List (List ℕ × LiveView I O)) (n c id : ℕ) → list_any (has_pin c id) (core_entries es) ≡ true → after_event (core_state es n) (Release c id) ≡ Some (core_state (at_live id (released_view c) es) n)
  legal-released es n c id has = rw (← core-released c id es) (ap (λ b. when b (core_state (at_live id (released_view c) es) n)) has)

  pub legal-swept : (es : List (List ℕ × LiveView I O)) (n c h dropped : ℕ) → dropped ≡ length (filter (λ e. is_stale h e.1) es) → after_event (core_state es n) (Sweep c h dropped) ≡ Some (core_state (filter (λ e. not (is_stale h e.1)) es) n)
  legal-swept es n c h dropped is =
      let test : (dropped == length (filter (λ e. is_stale h e.1) es)) ≡ true = grind (arith, nat_tests) in
      rw (core-stale h es, ← core-swept h es) (ap (λ b. when b (core_state (filter (λ e. not (is_stale h e.1)) es) n)) test)

  -- The entry that a search and a share met.
  pub met-entry : (es : List (List ℕ × LiveView I O)) (i : ℕ) (d : List ℕ) (l : LiveView I O) (e : EntryView I O) → (k : List ℕ) × (m : LiveView I O) × (slice_get es i ≡ Some (k, m)) × (e ≡ entry_of m) → slice_get es i ≡ Some (d, l) → e ≡ entry_of l
  met-entry es i d l e shared at = shared.3 ∙ ap (λ (p : List ℕ × LiveView I O). entry_of p.1) (same_some (shared.0, shared.1) (d, l) (sym shared.2 ∙ at))

  -- The event of a call that met another's entry is legal.
  pub event-other : (asked : Asked) (es : List (List ℕ × LiveView I O)) (n c run : ℕ) (d : List ℕ) (i : ℕ) (l : LiveView I O) (e : EntryView I O) (id : ℕ) (event : Event) → slice_get es i ≡ Some (d, l) → e ≡ entry_of l → id ≡ e.id → event ≡ other_event asked c run d id
      → after_event (core_state es n) event ≡ Some (core_state es n)
  event-other asked es n c run d i l e id event at same is_id is = let here : id ≡ l.id = is_id ∙ ap (λ (x : EntryView I O). x.id) same in rw (is, here) (legal-other asked es n c run d i l at)

  -- The event of a call that met its own entry is legal, and pins the entry.
  pub event-same : (asked : Asked) (es : List (List ℕ × LiveView I O)) (n c run : ℕ) (d : List ℕ) (i : ℕ) (l : LiveView I O) (e : EntryView I O) (id : ℕ) (event : Event) → RisingIds (core_entries es) → slice_get es i ≡ Some (d, l) → e ≡ entry_of l → id ≡ e.id → event ≡ same_event asked c run d id
      → after_event (core_state es n) event ≡ Some (core_state (update_at i (pinned_view c run) es) n)
  event-same asked es n c run d i l e id event rising at same is_id is =
      let here : id ≡ l.id = is_id ∙ ap (λ (x : EntryView I O). x.id) same in
      rw (is, here, update-live (pinned_view c run) es i d l rising at) (legal-same asked es n c run d i l at)

  -- What is carried is the live entry.
  pub live-entry : (fits : I → O → Type 0) (digest_of : I → List ℕ) (s : ShardView I O) (i : ℕ) (d : List ℕ) (l : LiveView I O) (e : EntryView I O) → AreKeyed digest_of s.live → slice_get s.live i ≡ Some (d, l) → found d s.live ≡ Some l → e ≡ entry_of l → fits e.input e.out → IsLiveEntry fits digest_of d e s
  live-entry fits digest_of s i d l e keys at here same made = record {
    live = l;
    here = here;
    same = same;
    keyed = ap (λ (x : EntryView I O). digest_of x.input) same ∙ key-at digest_of s.live i d l keys at;
    made = made;
  }

  -- A pin on the entry of the id is one on whatever has the id.
  pub pin-here : (c id : ℕ) (es : List (List ℕ × LiveView I O)) (i : ℕ) (k : List ℕ) (l : LiveView I O) → RisingIds (core_entries es) → list_any (has_pin c id) (core_entries es) ≡ true → slice_get es i ≡ Some (k, l) → l.id ≡ id → list_any (λ x. x == c) l.pins ≡ true
  pin-here c id es i k l rising has at same =
      let pin = pin-at c id es has in
      subst (λ (m : LiveView I O). list_any (λ x. x == c) m.pins ≡ true) (one-place es pin.0 i pin.1 k pin.2 l (rising-places es rising) pin.3 at (pin.4 ∙ sym same)) pin.5

  -- A release at a place.
  pub event-released : (es : List (List ℕ × LiveView I O)) (n c id i : ℕ) (k : List ℕ) (l : LiveView I O) → RisingIds (core_entries es) → list_any (has_pin c id) (core_entries es) ≡ true → slice_get es i ≡ Some (k, l) → l.id ≡ id
      → after_event (core_state es n) (Release c id) ≡ Some (core_state (update_at i (released_view c) es) n)
  event-released es n c id i k l rising has at same =
      rw (update-live (released_view c) es i k l rising at) (subst (λ (j : ℕ). after_event (core_state es n) (Release c id) ≡ Some (core_state (at_live j (released_view c) es) n)) (sym same) (legal-released es n c id has))

-- One more entry, by way of a list that is the same.
pub added : {X : Type 0} (before between after : List X) (e : X) → after ≡ between ++ e ∷ [] → between ≡ before → after ≡ before ++ e ∷ []
added before between after e is same = is ∙ ap (λ (h : List _). h ++ e ∷ []) same
