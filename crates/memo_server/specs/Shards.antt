-- The model of a shard, and what every shard keeps.
use Rattle.std.specs.Prelude.{◌≡◌, ℕ, ◌≤◌, List, Some}
use Rattle.memo_core.specs.declared.event.Event.{Event}
use Rattle.memo_core.specs.Machine.{replayed}
use Rattle.memo_server.specs.declared.turn.Turn.{Turn}
use Rattle.memo_server.specs.Views.{LiveView, AreKeyed, core_state, total_pins}

-- A shard: its live entries by digest in the order of making, the next id, its events, and its turns.
pub record ShardView (I O : Type 0) : Type 0 where
  pub live : List (List ℕ × LiveView I O)
  pub next : ℕ
  pub history : List Event
  pub turns : List Turn

-- The history replays to the entries, each is at its input's digest, and there is room to release every pin.
pub record ShardFits {I O : Type 0} (digest_of : I → List ℕ) (pins spare : ℕ) (s : ShardView I O) : Type 0 where
  pub replays : replayed s.history ≡ Some (core_state s.live s.next)
  pub keys : AreKeyed digest_of s.live
  pub pins_are : pins ≡ total_pins s.live
  pub room : pins ≤ spare
