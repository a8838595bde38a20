-- What a clause sees of a board and of a hand.
use Rattle.std.specs.Prelude.{ℕ, List, []}
use Rattle.atomic_table.specs.Seated.{TableId}
use Rattle.worker_claims.specs.declared.knowledge.Doing.{Doing}
use Rattle.worker_claims.specs.declared.knowledge.Doing.TheVariants.{Free}

-- A board's name, which no other board shares, the tasks as they were handed in, and how many hands it was made with.
pub record BoardView (T : Type 0) : Type 0 where
  pub id : TableId
  pub tasks : List T
  pub hands : ℕ

-- The board of a hand, the tasks of that board, what the hand is doing, and what it gave back, with the numbers.
pub record HandView (T : Type 0) : Type 0 where
  pub board : TableId
  pub tasks : List T
  pub doing : Doing
  pub given : List (ℕ × T)

-- A hand that has done nothing yet.
abbrev pub fresh : {T : Type 0} → TableId → List T → HandView T
fresh id tasks = record { board = id; tasks = tasks; doing = Free; given = [] }
