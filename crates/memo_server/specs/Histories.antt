-- The turns of a shard and their events.
use Rattle.std.specs.Prelude.{ℕ, zero, suc, List, [], ◌∷◌, ◌++◌}
use Rattle.memo_core.specs.declared.event.Event.{Event}
use Rattle.memo_server.specs.declared.turn.Turn.{Turn}
use Rattle.memo_server.specs.declared.turn.Turn.TheVariants.{Made, Empty}

-- The events of the turns.
abbrev pub events : List Turn → List Event
events [] = []
events (Made e ∷ ts) = e ∷ events ts
events (Empty ∷ ts) = events ts

-- A number of empty turns.
abbrev pub empties : ℕ → List Turn
empties zero = []
empties (suc n) = Empty ∷ empties n

-- The turns: a number of empty ones, then each event with the empty ones after it.
abbrev pub turns_of : ℕ → List Event → List ℕ → List Turn
turns_of n [] ms = empties n
turns_of n (e ∷ es) [] = empties n ++ Made e ∷ []
turns_of n (e ∷ es) (m ∷ ms) = empties n ++ Made e ∷ turns_of m es ms

-- A history: its events, its turns, and how many more events it has room for.
pub record LogView : Type 0 where
  pub history : List Event
  pub turns : List Turn
  pub spare : ℕ
