-- What the calls of a shard return, and what they make of it.
use Rattle.std.specs.Prelude.{◌≡◌, ◌≢◌, ℕ, ◌+◌, List, [], ◌∷◌, ◌++◌, filter, not, length, Some, None}
use Rattle.memo_core.specs.declared.event.Event.{Event}
use Rattle.memo_core.specs.declared.event.Event.TheVariants.{Look, Keep, Sweep}
use Rattle.memo_core.specs.declared.event.LookAnswer.TheVariants.{Hit as HitAnswer, Absent as AbsentAnswer, Clash as ClashAnswer}
use Rattle.memo_core.specs.declared.event.KeepAnswer.TheVariants.{Stored as StoredAnswer, Found as FoundAnswer, Clash as KeepClashAnswer}
use Rattle.memo_core.specs.Machine.{after_event}
use Rattle.memo_server.specs.declared.turn.Turn.TheVariants.{Made}
use Rattle.memo_server.specs.declared.answers.ShardLook.{ShardLook}
use Rattle.memo_server.specs.declared.answers.ShardLook.TheVariants.{Hit, Absent, Clash}
use Rattle.memo_server.specs.declared.answers.ShardKeep.{ShardKeep}
use Rattle.memo_server.specs.declared.answers.ShardKeep.TheVariants.{Stored, Found, Clash as KeepClash}
use Rattle.memo_server.specs.declared.met.Asked.{Asked}
use Rattle.memo_server.specs.declared.met.Meeting.{Meeting}
use Rattle.memo_server.specs.declared.met.Meeting.TheVariants.{Same, Other, Missing}
use Rattle.memo_server.specs.Asks.{same_event, other_event}
use Rattle.memo_server.specs.Views.{EntryView, LiveView, entry_view, entry_of, live_view, found, at_live, pinned_view, is_stale, core_state}
use Rattle.memo_server.specs.Shards.{ShardView}

module _ {I O : Type 0} where
  -- The shard gains this event, which is legal, as one turn.
  pub record Adds (e : Event) (old new : ShardView I O) : Type 0 where
    pub history : new.history ≡ old.history ++ e ∷ []
    pub turns : new.turns ≡ old.turns ++ Made e ∷ []
    pub legal : after_event (core_state old.live old.next) e ≡ Some (core_state new.live new.next)

  -- The shard gains this event and keeps its entries.
  pub record AddsOnly (e : Event) (old new : ShardView I O) : Type 0 where
    pub adds : Adds e old new
    pub live : new.live ≡ old.live
    pub next : new.next ≡ old.next

  -- The shard gains this event, and the entry of the id becomes f of it.
  pub record AddsAt (id : ℕ) (f : LiveView I O → LiveView I O) (e : Event) (old new : ShardView I O) : Type 0 where
    pub adds : Adds e old new
    pub live : new.live ≡ at_live id f old.live
    pub next : new.next ≡ old.next

  -- A carried entry is the shard's live entry of the digest, and its result fits its input.
  pub record IsLiveEntry (fits : I → O → Type 0) (digest_of : I → List ℕ) (digest : List ℕ) (s : EntryView I O) (shard : ShardView I O) : Type 0 where
    pub live : LiveView I O
    pub here : found digest shard.live ≡ Some live
    pub same : s ≡ entry_of live
    pub keyed : digest_of s.input ≡ digest
    pub made : fits s.input s.out

  -- The call met the entry of its input, which the caller holds once more; or that of another input; or none.
  abbrev pub Meets : {R : Type 0} → (I → O → Type 0) → (I → List ℕ) → ShardView I O → Asked → ℕ → ℕ → I → Meeting R I O → ShardView I O → Type 0
  Meets fits digest_of old asked caller run input (Same s) new = IsLiveEntry fits digest_of (digest_of input) s old × (s.input ≡ input) × AddsAt s.id (pinned_view caller run) (same_event asked caller run (digest_of input) s.id) old new
  Meets fits digest_of old asked caller run input (Other s) new = IsLiveEntry fits digest_of (digest_of input) s old × (s.input ≢ input) × AddsOnly (other_event asked caller run (digest_of input) s.id) old new
  Meets fits digest_of old asked caller run input Missing new = (found (digest_of input) old.live ≡ None) × (new ≡ old)

  -- A new last entry, which the caller holds, of the input with a result that fits it.
  pub record Stores (fits : I → O → Type 0) (digest : List ℕ) (caller run : ℕ) (input : I) (out : O) (s : EntryView I O) (old new : ShardView I O) : Type 0 where
    pub same : s ≡ entry_view old.next input out
    pub adds : Adds (Keep caller run digest (StoredAnswer s.id)) old new
    pub copy : O
    pub made : fits input copy
    pub live : new.live ≡ old.live ++ (digest, live_view (entry_view old.next input copy) run (caller ∷ [])) ∷ []
    pub next : new.next ≡ old.next + 1

  -- What a look returns, and the event that it adds.
  abbrev pub LookGives : {R : Type 0} → (I → O → Type 0) → (I → List ℕ) → ShardView I O → ℕ → ℕ → I → ShardLook R I O → ShardView I O → Type 0
  LookGives fits digest_of old caller run input (Hit s) new = IsLiveEntry fits digest_of (digest_of input) s old × (s.input ≡ input) × AddsAt s.id (pinned_view caller run) (Look caller run (digest_of input) (HitAnswer s.id)) old new
  LookGives fits digest_of old caller run input Absent new = (found (digest_of input) old.live ≡ None) × AddsOnly (Look caller run (digest_of input) AbsentAnswer) old new
  LookGives fits digest_of old caller run input (Clash s) new = IsLiveEntry fits digest_of (digest_of input) s old × (s.input ≢ input) × AddsOnly (Look caller run (digest_of input) (ClashAnswer s.id)) old new

  -- What a keep returns, and the event that it adds.
  abbrev pub KeepGives : {R : Type 0} → (I → O → Type 0) → (I → List ℕ) → ShardView I O → ℕ → ℕ → I → O → ShardKeep R I O → ShardView I O → Type 0
  KeepGives fits digest_of old caller run input out (Stored s) new = (found (digest_of input) old.live ≡ None) × Stores fits (digest_of input) caller run input out s old new
  KeepGives fits digest_of old caller run input out (Found s) new = IsLiveEntry fits digest_of (digest_of input) s old × (s.input ≡ input) × AddsAt s.id (pinned_view caller run) (Keep caller run (digest_of input) (FoundAnswer s.id)) old new
  KeepGives fits digest_of old caller run input out (KeepClash s i o) new = IsLiveEntry fits digest_of (digest_of input) s old × (s.input ≢ input) × (i ≡ input) × (o ≡ out) × AddsOnly (Keep caller run (digest_of input) (KeepClashAnswer s.id)) old new

  -- What a sweep returns, and what it leaves.
  pub record SweepGives (caller horizon dropped : ℕ) (old new : ShardView I O) : Type 0 where
    pub adds : Adds (Sweep caller horizon dropped) old new
    pub live : new.live ≡ filter (λ e. not (is_stale horizon e.1)) old.live
    pub count : dropped ≡ length (filter (λ e. is_stale horizon e.1) old.live)
    pub next : new.next ≡ old.next
