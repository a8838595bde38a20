-- The rule of the lock. Word 0 is the ticket that is drawn next, word 1 the ticket whose turn it is, and the one slot has the state.
use Rattle.std.specs.Prelude.{◌≡◌, ◌≢◌, ℕ, ◌+◌, ◌-◌, ◌^◌, ◌<◌, ◌≤◌, ◌⊎◌, List, [], ◌∷◌, ◌++◌, length, Option, Some}
use mathlib.Core.Option.{some, none}
use mathlib.Core.Option as maybe
use lib.ListN.{get_elem?}
use Rattle.atomic_table.specs.Table.{State, Me, Step}
use Rattle.shared_seats.specs.Seats.{total}
use Rattle.turn_lock.specs.declared.knowledge.Known.{Known}
use Rattle.turn_lock.specs.declared.knowledge.View.{View}
use Rattle.turn_lock.specs.declared.knowledge.Stage.{Stage}
use Rattle.turn_lock.specs.declared.knowledge.Stage.TheVariants.{Spent, Idle, Marked, Drawn, Serving}
use Rattle.turn_lock.specs.Under.{under}

-- The history begins with what was seen.
abbrev pub Begins : {E : Type 0} → List E → List E → Type 0
Begins {E} log seen = (rest : List E) × (log ≡ seen ++ rest)

module _ {E : Type 0} where
  -- What a pass knows, by its parts.
  abbrev pub known : ℕ → List E → List E → ℕ → Known E
  known n seen mine read = record { number = n; seen = seen; mine = mine; read = read }

  -- The first view: number 0, with all others to give out.
  abbrev pub newcomer : ℕ → View E
  newcomer callers = record { callers = callers; own = known 0 [] [] 0; stage = Idle; gives = callers - 1; ended = [] }

  -- The first view, with a number of passes still to make.
  abbrev pub dealt : ℕ → ℕ → View E
  dealt callers left = record { callers = callers; own = known 0 [] [] 0; stage = Idle; gives = left; ended = [] }

  -- What is left of a view that went into another.
  abbrev pub spent : View E
  spent = record { callers = 0; own = known 0 [] [] 0; stage = Spent; gives = 0; ended = [] }

  -- The same view at another stage, with another number read.
  abbrev pub turned_to : Stage E → ℕ → View E → View E
  turned_to st read v = record { callers = v.callers; own = known v.own.number v.own.seen v.own.mine read; stage = st; gives = v.gives; ended = v.ended }

  -- A view and a new one, when a pass is made.
  abbrev pub without_one : View E → View E
  without_one v = record { callers = v.callers; own = v.own; stage = v.stage; gives = v.gives - 1; ended = v.ended }

  abbrev pub the_one : View E → View E
  the_one v = record { callers = v.callers; own = known (v.callers - v.gives) v.own.seen [] v.own.read; stage = Idle; gives = 0; ended = [] }

  -- A view that another was joined into.
  abbrev pub with : View E → View E → View E
  with v w = record { callers = v.callers; own = v.own; stage = v.stage; gives = v.gives; ended = w.ended ++ w.own ∷ v.ended }

  -- Not spent.
  abbrev pub Live : Stage E → Type 0
  Live Spent = ⊥
  Live _ = Unit {0}

  -- It knows that its turn has come.
  abbrev pub IsServing : Stage E → Type 0
  IsServing (Serving n note) = Unit {0}
  IsServing _ = ⊥

  -- It holds this ticket.
  abbrev pub HasDrawn : Stage E → ℕ → Type 0
  HasDrawn (Drawn n) m = n ≡ m
  HasDrawn (Serving n note) m = n ≡ m
  HasDrawn _ m = ⊥

  -- 1 with a mark, else 0.
  abbrev pub mark_of : Stage E → ℕ
  mark_of Marked = 1
  mark_of _ = 0

  abbrev pub marks : View E → ℕ
  marks v = mark_of v.stage

  -- Nothing if it is spent.
  abbrev pub parts_of : Stage E → ℕ → ℕ
  parts_of Spent n = 0
  parts_of _ n = n

  -- How many passes it represents.
  abbrev pub parts : View E → ℕ
  parts v = parts_of v.stage (v.gives + length v.ended + 1)

  -- A ticket that was drawn is not served yet; the seat that is served knows the whole history.
  abbrev pub InStage : ℕ → List E → ℕ → Stage E → Type 0
  InStage start log ticket (Drawn n) = (start + length log ≤ n) × (n < ticket)
  InStage start log ticket (Serving n note) = (n ≡ start + length log) × (n < ticket) × (note ≡ log)
  InStage start log ticket _ = Unit {0}

  -- The view in this place is spent.
  abbrev pub IsSpent : List (View E) → ℕ → Type 0
  IsSpent views n = (w : View E) × (get_elem? views n ≡ some w) × (w.stage ≡ Spent)

  -- Its last turn is the last of all.
  abbrev pub HasAll : List E → View E → Type 0
  HasAll log v = (v.own.seen ≡ log) ⊎ ((i : ℕ) × (x : Known E) × (get_elem? v.ended i ≡ some x) × (x.seen ≡ log))

  -- The number is that of a view, or of a pass that was joined into one.
  abbrev pub Stands : List (View E) → ℕ → Type 0
  Stands views n = ((v : View E) × (get_elem? views n ≡ some v) × Live v.stage)
      ⊎ ((k : ℕ) × (v : View E) × (i : ℕ) × (x : Known E) × (get_elem? views k ≡ some v) × Live v.stage × (get_elem? v.ended i ≡ some x) × (x.number ≡ n))

module _ {E : Type 0} (whose : E → Option ℕ) where
  -- What a pass knows fits the history and the next ticket.
  pub record KnownFits (log : List E) (ticket : ℕ) (x : Known E) : Type 0 where
    pub seen : Begins log x.seen
    pub mine : under whose x.number log ≡ x.mine
    pub same : under whose x.number x.seen ≡ x.mine
    pub read : x.read ≤ ticket

  -- One view fits the others: the view at place k has number k.
  pub record SeatFits (start callers : ℕ) (views : List (View E)) (log : List E) (ticket k : ℕ) (v : View E) : Type 0 where
    pub callers_is : v.callers ≡ callers
    pub number : v.own.number ≡ k
    pub own : KnownFits log ticket v.own
    pub stage : InStage start log ticket v.stage
    pub gives : 0 < v.gives → (k ≡ 0) × (length views + v.gives ≡ callers)
    pub ended : (i : ℕ) (x : Known E) → get_elem? v.ended i ≡ some x → KnownFits log ticket x × IsSpent views x.number

  -- The view after a turn that left this history.
  abbrev pub after : List E → View E → View E
  after h v = record { callers = v.callers; own = known v.own.number h (under whose v.own.number h) v.own.read; stage = Idle; gives = v.gives; ended = v.ended }

module _ {T E : Type 0} (history : T → List E) where
  -- The slot has a state with this history.
  abbrev pub Home : List E → List (maybe.Option (Option T)) → Type 0
  Home log homes = (t : T) × (homes ≡ some (Some t) ∷ []) × (history t ≡ log)

  -- What holds between any two steps.
  pub record TurnRule (whose : E → Option ℕ) (start callers : ℕ) (s : State (Option T) (View E)) : Type 0 where
    -- The history, and the ticket that is drawn next.
    pub log : List E
    pub ticket : ℕ
    -- The ticket that is served is the start plus the number of entries.
    pub words_are : s.words ≡ ticket ∷ (start + length log) ∷ []
    pub behind : start + length log ≤ ticket
    pub limit : (start ≤ 2 ^ 62) × (callers ≤ 64)
    pub seats : (k : ℕ) (v : View E) → get_elem? s.views k ≡ some v → Live v.stage → SeatFits whose start callers s.views log ticket k v
    -- Each waiting ticket is held by exactly one view.
    pub whom : (n : ℕ) → start + length log ≤ n → n < ticket → (k : ℕ) × (v : View E) × (get_elem? s.views k ≡ some v) × HasDrawn v.stage n
    pub apart : (j k : ℕ) (v w : View E) (n : ℕ) → get_elem? s.views j ≡ some v → get_elem? s.views k ≡ some w → HasDrawn v.stage n → HasDrawn w.stage n → j ≡ k
    -- So no word wraps.
    pub few : ticket + total marks s.views ≤ 2 ^ 62 + callers
    -- The views represent all passes.
    pub shared : total parts s.views ≡ callers
    pub within : length s.views ≤ callers
    -- No entry is under a number that is still to be given out.
    pub given : (n : ℕ) → length s.views ≤ n → under whose n log ≡ []
    pub all : (n : ℕ) → n < length s.views → Stands s.views n
    -- Some pass has seen all.
    pub last : (k : ℕ) × (v : View E) × (get_elem? s.views k ≡ some v) × Live v.stage × HasAll log v
    -- The state is at home with the history, or out with the seat that is served.
    pub slot : Home log s.homes ⊎ ((s.homes ≡ none ∷ []) × ((k : ℕ) × (v : View E) × (get_elem? s.views k ≡ some v) × IsServing v.stage))

  -- What the steps show: the seat before, the number found, the seat after.

  abbrev pub Mine : Type 0
  Mine = Me (Option T) (View E)

  -- Below the limit the seat is marked.
  abbrev pub checked : Step (Option T) → Mine → ℕ → Mine → Type 0
  checked st m r n = (n.1 ≡ m.1) × (r < 2 ^ 62 → n.0 ≡ turned_to Marked r m.0) × (2 ^ 62 ≤ r → n.0 ≡ turned_to Idle r m.0) × (m.0.own.read ≤ r)

  -- The ticket found is the seat's.
  abbrev pub drew : Step (Option T) → Mine → ℕ → Mine → Type 0
  drew st m r n = n ≡ (turned_to (Drawn r) m.0.own.read m.0, m.1)

  -- The turn has come: the seat has the state, which fits what it knows.
  abbrev pub Came : (E → Option ℕ) → ℕ → Mine → Mine → Type 0
  Came whose d m n = (t : T) × (n ≡ (turned_to (Serving d (history t)) m.0.own.read m.0, (0, Some t) ∷ m.1)) × (length (history t) < 2 ^ 63) × (under whose m.0.own.number (history t) ≡ m.0.own.mine) × (under whose m.0.own.number m.0.own.seen ≡ m.0.own.mine) × Begins (history t) m.0.own.seen

  -- The turn has come if the number found is the ticket; otherwise nothing happens.
  abbrev pub looked : (E → Option ℕ) → Step (Option T) → Mine → ℕ → Mine → Type 0
  looked whose st m r n = (d : ℕ) → m.0.stage ≡ Drawn d → (r ≡ d → Came whose d m n) × (r ≢ d → n ≡ m)

  -- What the seat knows is the history of the state that it gives back.
  abbrev pub passed : (E → Option ℕ) → Step (Option T) → Mine → ℕ → Mine → Type 0
  passed whose st m r n = (t : T) → m.1 ≡ (0, Some t) ∷ [] → n ≡ (after whose (history t) m.0, [])
