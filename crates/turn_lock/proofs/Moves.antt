-- A step of one seat keeps the rule.
use Rattle.std.proofs.Common.{◌≡◌, ◌≢◌, ℕ, ◌+◌, ◌^◌, ◌<◌, ◌≤◌, ◌⊎◌, List, [], ◌∷◌, length, set, sym, ap, ap₂, ◌∙◌, subst, inl, inr, ⊎_elim, arith, length-set}
use Rattle.std.specs.Prelude.{Option}
use mathlib.Core.Option.{some, none, some-injective}
use mathlib.Core.Option as maybe
use mathlib.Core.Logic.{dite}
use native.Mathlib.Decide.{ℕ_discrete}
use lib.ListN.{get_elem?}
use Rattle.atomic_table.specs.Table.{State}
use Rattle.atomic_table.proofs.Lists.{at_set, set_here, set_else}
use Rattle.turn_lock.specs.declared.knowledge.Known.{Known}
use Rattle.turn_lock.specs.declared.knowledge.View.{View}
use Rattle.turn_lock.specs.Under.{under}
use Rattle.turn_lock.specs.Rule.{Begins, Live, IsServing, HasDrawn, mark_of, marks, parts_of, parts, InStage, IsSpent, HasAll, Stands, KnownFits, SeatFits, Home, TurnRule}
use Rattle.shared_seats.specs.Seats.{total}
use Rattle.turn_lock.proofs.Views.{parts_live}
use Rattle.shared_seats.proofs.Lists.{at_length, total_set}

module _ {T E : Type 0} (history : T → List E) (whose : E → Option ℕ) (start callers : ℕ) where
  abbrev pub St : Type 0
  St = State (Option T) (View E)

  abbrev pub K : St → Type 0
  K = TurnRule history whose start callers

  -- what a step of the seat id must show, where its view goes from v to w, the history to log and the next ticket to
  -- ticket
  pub record Owes (s : St) (r : K s) (id : ℕ) (v w : View E) (log : List E) (ticket : ℕ) (homes : List (maybe.Option (Option T))) : Type 0 where
    pub here : get_elem? s.views id ≡ some v
    pub lived : Live v.stage
    pub lives : Live w.stage
    pub callers_is : w.callers ≡ v.callers
    pub number : w.own.number ≡ v.own.number
    pub gives : w.gives ≡ v.gives
    pub ended : w.ended ≡ v.ended
    pub own : KnownFits whose log ticket w.own
    pub stage : InStage start log ticket w.stage
    pub longer : (x : List E) → Begins r.log x → Begins log x
    pub others : (n : ℕ) → n ≢ id → under whose n log ≡ under whose n r.log
    pub more : r.ticket ≤ ticket
    pub behind : start + length log ≤ ticket
    pub stages : (k : ℕ) (u : View E) → k ≢ id → get_elem? s.views k ≡ some u → InStage start r.log r.ticket u.stage → InStage start log ticket u.stage
    pub whom : (n : ℕ) → start + length log ≤ n → n < ticket → HasDrawn w.stage n ⊎ ((k : ℕ) × (u : View E) × (k ≢ id) × (get_elem? s.views k ≡ some u) × HasDrawn u.stage n)
    pub apart : (k : ℕ) (u : View E) (n : ℕ) → k ≢ id → get_elem? s.views k ≡ some u → HasDrawn u.stage n → HasDrawn w.stage n → ⊥
    pub few : ticket + mark_of w.stage + total marks s.views ≤ 2 ^ 62 + callers + mark_of v.stage
    pub last : (w.own.seen ≡ log) ⊎ ((log ≡ r.log) × (w.own.seen ≡ v.own.seen))
    pub slot : Home history log homes ⊎ ((homes ≡ none ∷ []) × (IsServing w.stage ⊎ ((k : ℕ) × (u : View E) × (k ≢ id) × (get_elem? s.views k ≡ some u) × IsServing u.stage)))

  module _ (s : St) (r : K s) (id : ℕ) (v w : View E) (log : List E) (ticket : ℕ) (homes : List (maybe.Option (Option T))) (o : Owes s r id v w log ticket homes) where
    abbrev views : List (View E)
    views = set s.views id w

    near : id < length s.views
    near = at_length s.views id v o.here

    at_id : get_elem? views id ≡ some w
    at_id = set_here s.views id w near

    still : (x : ℕ) → IsSpent s.views x → IsSpent views x
    still x (u, at, is) = dite (ℕ_discrete x id)
        (λ e. absurd (subst Live (ap (λ (z : View E). z.stage) (some-injective v u (sym o.here ∙ (ap (get_elem? s.views) (sym e) ∙ at))) ∙ is) o.lived))
        (λ ne. (u, set_else s.views id x w ne ∙ at, is))

    spent_other : (x : ℕ) → IsSpent s.views x → x ≢ id
    spent_other x (u, at, is) e = absurd (subst Live (ap (λ (z : View E). z.stage) (some-injective v u (sym o.here ∙ (ap (get_elem? s.views) (sym e) ∙ at))) ∙ is) o.lived)

    fits : (x : Known E) → x.number ≢ id → KnownFits whose r.log r.ticket x → KnownFits whose log ticket x
    fits x ne f = let t : ℕ = ticket in let m = o.more in let h = f.read in record { seen = o.longer x.seen f.seen; mine = o.others x.number ne ∙ f.mine; same = f.same; read = omega arith }

    ends : (es : List (Known E)) → ((i : ℕ) (x : Known E) → get_elem? es i ≡ some x → KnownFits whose r.log r.ticket x × IsSpent s.views x.number)
        → (i : ℕ) (x : Known E) → get_elem? es i ≡ some x → KnownFits whose log ticket x × IsSpent views x.number
    ends es h i x at = let f = h i x at in (fits x (spent_other x.number f.1) f.0, still x.number f.1)

    gave : (k n : ℕ) → (0 < n → (k ≡ 0) × (length s.views + n ≡ callers)) → 0 < n → (k ≡ 0) × (length views + n ≡ callers)
    gave k n h p = let q = h p in (q.0, (let l = length-set s.views id w in let q1 = q.1 in omega arith))

    old : SeatFits whose start callers s.views r.log r.ticket id v
    old = r.seats id v o.here o.lived

    seat : (k : ℕ) (u : View E) → get_elem? views k ≡ some u → Live u.stage → SeatFits whose start callers views log ticket k u
    seat k u at live = ⊎_elim
        (λ (e, f). subst (λ (z : ℕ × View E). SeatFits whose start callers views log ticket z.0 z.1) (λ i. (sym e i, f i)) record {
          callers_is = o.callers_is ∙ old.callers_is;
          number = o.number ∙ old.number;
          own = o.own;
          stage = o.stage;
          gives = gave id w.gives (subst (λ (n : ℕ). 0 < n → (id ≡ 0) × (length s.views + n ≡ callers)) (sym o.gives) old.gives);
          ended = subst (λ (es : List (Known E)). (i : ℕ) (x : Known E) → get_elem? es i ≡ some x → KnownFits whose log ticket x × IsSpent views x.number) (sym o.ended) (ends v.ended old.ended);
        })
        (λ (ne, at'). let f = r.seats k u at' live in record {
          callers_is = f.callers_is;
          number = f.number;
          own = fits u.own (λ e. ne (sym f.number ∙ e)) f.own;
          stage = o.stages k u ne at' f.stage;
          gives = gave k u.gives f.gives;
          ended = ends u.ended f.ended;
        })
        (at_set s.views id k w u at)

    covers : (n : ℕ) → start + length log ≤ n → n < ticket → (k : ℕ) × (u : View E) × (get_elem? views k ≡ some u) × HasDrawn u.stage n
    covers n lo hi = ⊎_elim (λ d. (id, w, at_id, d)) (λ (k, u, ne, at, d). (k, u, set_else s.views id k w ne ∙ at, d)) (o.whom n lo hi)

    parted : (j k : ℕ) (x y : View E) (n : ℕ) → get_elem? views j ≡ some x → get_elem? views k ≡ some y → HasDrawn x.stage n → HasDrawn y.stage n → j ≡ k
    parted j k x y n atj atk dx dy = ⊎_elim
        (λ (ej, wx). ⊎_elim (λ (ek, wy). ej ∙ sym ek) (λ (nk, atk'). absurd (o.apart k y n nk atk' dy (subst (λ (z : View E). HasDrawn z.stage n) (sym wx) dx))) (at_set s.views id k w y atk))
        (λ (nj, atj'). ⊎_elim (λ (ek, wy). absurd (o.apart j x n nj atj' dx (subst (λ (z : View E). HasDrawn z.stage n) (sym wy) dy))) (λ (nk, atk'). r.apart j k x y n atj' atk' dx dy) (at_set s.views id k w y atk))
        (at_set s.views id j w x atj)

    long : length views ≡ length s.views
    long = length-set s.views id w

    same_parts : parts w ≡ parts v
    same_parts = parts_live w.stage v.stage (w.gives + length w.ended + 1) o.lives o.lived ∙ ap₂ (λ (g : ℕ) (es : List (Known E)). parts_of v.stage (g + length es + 1)) o.gives o.ended

    stood : (n : ℕ) → Stands s.views n → Stands views n
    stood n (inl (x, at, live)) = dite (ℕ_discrete n id) (λ e. inl (w, ap (get_elem? views) e ∙ at_id, o.lives)) (λ ne. inl (x, set_else s.views id n w ne ∙ at, live))
    stood n (inr (k, x, i, y, at, live, there, is)) = dite (ℕ_discrete k id)
        (λ e. let same : v ≡ x = some-injective v x (sym o.here ∙ (ap (get_elem? s.views) (sym e) ∙ at)) in
        inr (id, w, i, y, at_id, o.lives, ap (λ (es : List (Known E)). get_elem? es i) (o.ended ∙ ap (λ (z : View E). z.ended) same) ∙ there, is))
        (λ ne. inr (k, x, i, y, set_else s.views id k w ne ∙ at, live, there, is))

    has_still : (x : View E) → v ≡ x → w.own.seen ≡ v.own.seen → HasAll r.log x → HasAll r.log w
    has_still x same kept (inl h) = inl (kept ∙ (ap (λ (z : View E). z.own.seen) same ∙ h))
    has_still x same kept (inr (i, y, there, is)) = inr (i, y, ap (λ (es : List (Known E)). get_elem? es i) (o.ended ∙ ap (λ (z : View E). z.ended) same) ∙ there, is)

    last_of : log ≡ r.log → w.own.seen ≡ v.own.seen → ((k : ℕ) × (x : View E) × (get_elem? s.views k ≡ some x) × Live x.stage × HasAll r.log x) → (k : ℕ) × (x : View E) × (get_elem? views k ≡ some x) × Live x.stage × HasAll log x
    last_of same kept (k, x, at, live, has) = dite (ℕ_discrete k id)
        (λ e. (id, w, at_id, o.lives, subst (λ (l : List E). HasAll l w) (sym same) (has_still x (some-injective v x (sym o.here ∙ (ap (get_elem? s.views) (sym e) ∙ at))) kept has)))
        (λ ne. (k, x, set_else s.views id k w ne ∙ at, live, subst (λ (l : List E). HasAll l x) (sym same) has))

    lasts : (k : ℕ) × (x : View E) × (get_elem? views k ≡ some x) × Live x.stage × HasAll log x
    lasts = ⊎_elim (λ whole. (id, w, at_id, o.lives, inl whole))
        (λ (same, kept). last_of same kept (r.last))
        o.last

    pub moved : (words : List ℕ) → words ≡ ticket ∷ (start + length log) ∷ [] → K record { words = words; homes = homes; views = views }
    moved words is = record {
      log = log;
      ticket = ticket;
      words_are = is;
      limit = r.limit;
      behind = o.behind;
      seats = seat;
      whom = covers;
      apart = parted;
      few = (let t = total_set marks s.views id v w o.here in let f = o.few in let m : ℕ = total marks views in let m' : ℕ = total marks s.views in omega arith);
      shared = (let t = total_set parts s.views id v w o.here in let e = same_parts in let q = r.shared in omega arith);
      within = (let l = long in let q = r.within in omega arith);
      given = (λ n h. let l = long in let q = near in let ne : n ≢ id = (λ e. omega arith) in o.others n ne ∙ r.given n (omega arith));
      all = (λ n h. stood n (r.all n (let l = long in omega arith)));
      last = lasts;
      slot = ⊎_elim (λ h. inl h) (λ (none_home, who). inr (none_home, ⊎_elim (λ me. (id, w, at_id, me)) (λ (k, x, ne, at, is). (k, x, set_else s.views id k w ne ∙ at, is)) who)) o.slot;
    }
