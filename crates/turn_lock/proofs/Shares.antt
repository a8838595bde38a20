-- How a table starts, how passes are made, and how they are joined.
use Rattle.std.proofs.Common.{◌≡◌, ◌≢◌, ℕ, zero, suc, ◌+◌, ◌-◌, ◌^◌, ◌<◌, ◌≤◌, ◌⊎◌, List, [], ◌∷◌, ◌++◌, length, map, set, sym, refl, ap, ◌∙◌, subst, inl, inr, ⊎_elim, arith, length-append, length-set}
use Rattle.std.specs.Prelude.{Option, Some}
use mathlib.Core.Option.{some, some-injective, some-ne-none}
use mathlib.Core.Logic.{dite}
use native.Mathlib.Decide.{ℕ_discrete}
use lib.ListN.{get_elem?}
use Rattle.atomic_table.specs.Table.{State, Splits, Joins, opening}
use Rattle.atomic_table.proofs.Lists.{at_set, set_here, set_else, at_last}
use Rattle.turn_lock.specs.declared.knowledge.Known.{Known}
use Rattle.turn_lock.specs.declared.knowledge.View.{View}
use Rattle.turn_lock.specs.declared.knowledge.Stage.{Stage}
use Rattle.turn_lock.specs.declared.knowledge.Stage.TheVariants.{Idle}
use Rattle.turn_lock.specs.Under.{under}
use Rattle.turn_lock.specs.Rule.{newcomer, spent, without_one, the_one, with, Live, IsServing, HasDrawn, marks, parts, IsSpent, HasAll, Stands, KnownFits, SeatFits, TurnRule}
use Rattle.turn_lock.proofs.Views.{at_both, left_nil, under-append, part_live}
use Rattle.shared_seats.specs.Seats.{divided, joined as joined_views}
use Rattle.shared_seats.proofs.Lists.{at_length, same_at, at_second, one_at}
use Rattle.shared_seats.proofs.Seats.{divided_length, divided_here, divided_new, divided_else, divided_which, divided_total, joined_length, joined_here, joined_other, joined_else, joined_which, joined_total}
use Rattle.atomic_table.proofs.Lists.{at_longer}

module _ {T E : Type 0} (history : T → List E) (whose : E → Option ℕ) (start callers : ℕ) where
  abbrev K : State (Option T) (View E) → Type 0
  K = TurnRule history whose start callers

  pub starts : (x : T) (words : List ℕ) (slots : List (Option T)) → words ≡ start ∷ start ∷ [] → slots ≡ Some x ∷ [] → history x ≡ [] → start ≤ 2 ^ 62 → 0 < callers → callers ≤ 64 → K (opening words slots (newcomer callers))
  starts x words slots ws xs nothing low some_caller few =
      let v : View E = newcomer callers in record {
        log = [];
        ticket = start;
        words_are = ws ∙ ap (λ (n : ℕ). start ∷ n ∷ []) (omega arith);
        behind = omega arith;
        limit = (low, few);
        seats = (λ k u at live. let h = one_at v u k at in subst (λ (z : ℕ × View E). SeatFits whose start callers (v ∷ []) [] start z.0 z.1) (λ i. (sym h.0 i, h.1 i)) record {
          callers_is = refl;
          number = refl;
          own = record { seen = ([], refl); mine = refl; same = refl; read = omega arith };
          stage = tt;
          gives = (λ p. (refl, omega arith));
          ended = (λ i y e. absurd (some-ne-none y (sym e)));
        });
        whom = (λ n lo hi. absurd (omega arith));
        apart = (λ j k u w n atj atk du dw. (one_at v u j atj).0 ∙ sym (one_at v w k atk).0);
        few = omega arith;
        shared = omega arith;
        within = omega arith;
        given = (λ n h. refl);
        all = (λ n h. inl (v, (let e : n ≡ 0 = omega arith in ap (get_elem? (v ∷ [])) e), tt));
        last = (0, v, refl, tt, inl refl);
        slot = inl (x, ap (map some) xs, nothing);
      }

  module _ (s : State (Option T) (View E)) (r : K s) (id : ℕ) (v : View E) (here : get_elem? s.views id ≡ some v) (idle : v.stage ≡ Idle) (left : 0 < v.gives) where
    abbrev n : ℕ
    n = length s.views

    live : Live v.stage
    live = subst Live (sym idle) tt

    f : SeatFits whose start callers s.views r.log r.ticket id v
    f = r.seats id v here live

    abbrev V : List (View E)
    V = divided s.views id (without_one v) (the_one v)

    longer : length V ≡ n + 1
    longer = divided_length s.views id v (without_one v) (the_one v) here

    at_id : get_elem? V id ≡ some (without_one v)
    at_id = divided_here s.views id v (without_one v) (the_one v) here

    at_new : get_elem? V n ≡ some (the_one v)
    at_new = divided_new s.views id v (without_one v) (the_one v) here

    at_old : (k : ℕ) (u : View E) → k ≢ id → get_elem? s.views k ≡ some u → get_elem? V k ≡ some u
    at_old = divided_else s.views id v (without_one v) (the_one v) here

    which : (P : ℕ → View E → Type 0) → P id (without_one v) → ((k : ℕ) (u : View E) → k ≢ id → get_elem? s.views k ≡ some u → P k u) → P n (the_one v) → (k : ℕ) (u : View E) → get_elem? V k ≡ some u → P k u
    which = divided_which s.views id v (without_one v) (the_one v) here

    same_or : (k : ℕ) (u : View E) → get_elem? s.views k ≡ some u → k ≡ id → u ≡ v
    same_or k u at e = same_at s.views k id u v at here e

    -- if an old view has something that depends only on stage, own and ended, so has the view at its place
    goes_on : (P : Stage E → Known E → List (Known E) → Type 0) → ((k : ℕ) × (u : View E) × (get_elem? s.views k ≡ some u) × P u.stage u.own u.ended) → (k : ℕ) × (u : View E) × (get_elem? V k ≡ some u) × P u.stage u.own u.ended
    goes_on P (k, u, at, p) = dite (ℕ_discrete k id)
        (λ e. (id, without_one v, at_id, subst (λ (z : View E). P z.stage z.own z.ended) (same_or k u at e) p))
        (λ ne. (k, u, at_old k u ne at, p))

    still : (x : ℕ) → IsSpent s.views x → IsSpent V x
    still x (u, at, is) = dite (ℕ_discrete x id)
        (λ e. absurd (subst Live (ap (λ (z : View E). z.stage) (sym (same_or x u at e)) ∙ is) live))
        (λ ne. (u, at_old x u ne at, is))

    ends : (es : List (Known E)) → ((i : ℕ) (x : Known E) → get_elem? es i ≡ some x → KnownFits whose r.log r.ticket x × IsSpent s.views x.number) → (i : ℕ) (x : Known E) → get_elem? es i ≡ some x → KnownFits whose r.log r.ticket x × IsSpent V x.number
    ends es h i x at = let q = h i x at in (q.0, still x.number q.1)

    g : (id ≡ 0) × (n + v.gives ≡ callers)
    g = f.gives left

    new_number : v.callers - v.gives ≡ n
    new_number = (let a = f.callers_is in let b = g.1 in omega arith)

    new_none : under whose (v.callers - v.gives) r.log ≡ []
    new_none = r.given (v.callers - v.gives) (let e = new_number in omega arith)

    seats : (k : ℕ) (u : View E) → get_elem? V k ≡ some u → Live u.stage → SeatFits whose start callers V r.log r.ticket k u
    seats = which (λ k u. Live u.stage → SeatFits whose start callers V r.log r.ticket k u)
        (λ _. record { callers_is = f.callers_is; number = f.number; own = f.own; stage = f.stage; gives = (λ p. (g.0, (let a = g.1 in let l = longer in omega arith))); ended = ends v.ended f.ended })
        (λ k u ne at lv. let q = r.seats k u at lv in record { callers_is = q.callers_is; number = q.number; own = q.own; stage = q.stage; gives = (λ p. absurd (ne ((q.gives p).0 ∙ sym g.0))); ended = ends u.ended q.ended })
        (λ _. record {
          callers_is = f.callers_is;
          number = new_number;
          own = record {
            seen = f.own.seen;
            mine = new_none;
            same = left_nil (under whose (v.callers - v.gives) v.own.seen) (under whose (v.callers - v.gives) f.own.seen.0) (sym (under-append whose (v.callers - v.gives) v.own.seen f.own.seen.0) ∙ (ap (under whose (v.callers - v.gives)) (sym f.own.seen.1) ∙ new_none));
            read = f.own.read;
          };
          stage = tt;
          gives = (λ p. absurd (omega arith));
          ended = (λ i y e. absurd (some-ne-none y (sym e)));
        })

    stood : (k : ℕ) → Stands s.views k → Stands V k
    stood k (inl (u, at, lv)) = dite (ℕ_discrete k id) (λ e. inl (without_one v, ap (get_elem? V) e ∙ at_id, live)) (λ ne. inl (u, at_old k u ne at, lv))
    stood k (inr (j, u, i, x, at, lv, there, is)) = let q = goes_on (λ st own es. Live st × (get_elem? es i ≡ some x)) (j, u, at, (lv, there)) in inr (q.0, q.1, i, x, q.2, q.3.0, q.3.1, is)

    came : (k : ℕ) (u : View E) → get_elem? V k ≡ some u → ((k ≡ n) × (the_one v ≡ u)) ⊎ ((u' : View E) × (get_elem? s.views k ≡ some u') × (u.stage ≡ u'.stage))
    came = which (λ k u. ((k ≡ n) × (the_one v ≡ u)) ⊎ ((u' : View E) × (get_elem? s.views k ≡ some u') × (u.stage ≡ u'.stage))) (inr (v, here, refl)) (λ k u ne at. inr (u, at, refl)) (inl (refl, refl))

    split : K record { words = s.words; homes = s.homes; views = V }
    split = record {
      log = r.log;
      ticket = r.ticket;
      words_are = r.words_are;
      behind = r.behind;
      limit = r.limit;
      seats = seats;
      whom = (λ m lo hi. goes_on (λ st own es. HasDrawn st m) (r.whom m lo hi));
      apart = (λ j k x y m atj atk dx dy. ⊎_elim (λ (jn, e). absurd (subst (λ (z : View E). HasDrawn z.stage m) (sym e) dx)) (λ (x', atj', ex). ⊎_elim (λ (kn, e). absurd (subst (λ (z : View E). HasDrawn z.stage m) (sym e) dy)) (λ (y', atk', ey). r.apart j k x' y' m atj' atk' (subst (λ (st : Stage E). HasDrawn st m) ex dx) (subst (λ (st : Stage E). HasDrawn st m) ey dy)) (came k y atk)) (came j x atj));
      few = (let a = divided_total s.views id v (without_one v) (the_one v) here marks in let q = r.few in omega arith);
      shared = (let a = divided_total s.views id v (without_one v) (the_one v) here parts in let q = r.shared in
          let c = part_live v.stage (v.gives + length v.ended + 1) live in let d = part_live v.stage (v.gives - 1 + length v.ended + 1) live in omega arith);
      within = (let l = longer in let q = g.1 in omega arith);
      given = (λ m h. r.given m (let l = longer in omega arith));
      all = (λ m h. dite (ℕ_discrete m n) (λ e. inl (the_one v, ap (get_elem? V) e ∙ at_new, tt)) (λ ne. stood m (r.all m (let l = longer in omega arith))));
      last = (let q = goes_on (λ st own es. Live st × ((own.seen ≡ r.log) ⊎ ((i : ℕ) × (x : Known E) × (get_elem? es i ≡ some x) × (x.seen ≡ r.log)))) (r.last.0, r.last.1, r.last.2, (r.last.3, r.last.4)) in (q.0, q.1, q.2, q.3.0, q.3.1));
      slot = ⊎_elim (λ h. inl h) (λ (away, who). inr (away, goes_on (λ st own es. IsServing st) who)) r.slot;
    }

  pub splits : (id : ℕ) (v : View E) → v.stage ≡ Idle → 0 < v.gives → Splits K id v (without_one v) (the_one v)
  splits id v idle left s r here = split s r id v here idle left

  module _ (s : State (Option T) (View E)) (r : K s) (id other : ℕ) (v w : View E) (here : get_elem? s.views id ≡ some v) (there : get_elem? s.views other ≡ some w) (apart : other ≢ id) (idle : v.stage ≡ Idle) (idle' : w.stage ≡ Idle) (gave_all : w.gives ≡ 0) where
    abbrev J : List (View E)
    J = joined_views s.views id other (with v w) spent

    jlive : Live v.stage
    jlive = subst Live (sym idle) tt

    jlive' : Live w.stage
    jlive' = subst Live (sym idle') tt

    jf : SeatFits whose start callers s.views r.log r.ticket id v
    jf = r.seats id v here jlive

    jf' : SeatFits whose start callers s.views r.log r.ticket other w
    jf' = r.seats other w there jlive'

    jlong : length J ≡ length s.views
    jlong = joined_length s.views id other v w (with v w) spent here there apart

    j_at_id : get_elem? J id ≡ some (with v w)
    j_at_id = joined_here s.views id other v w (with v w) spent here there apart

    j_at_other : get_elem? J other ≡ some spent
    j_at_other = joined_other s.views id other v w (with v w) spent here there apart

    j_at_old : (k : ℕ) (u : View E) → k ≢ id → k ≢ other → get_elem? s.views k ≡ some u → get_elem? J k ≡ some u
    j_at_old = joined_else s.views id other v w (with v w) spent here there apart

    j_which : (P : ℕ → View E → Type 0) → P id (with v w) → ((k : ℕ) (u : View E) → k ≢ id → k ≢ other → get_elem? s.views k ≡ some u → P k u) → P other spent → (k : ℕ) (u : View E) → get_elem? J k ≡ some u → P k u
    j_which = joined_which s.views id other v w (with v w) spent here there apart

    j_still : (x : ℕ) → IsSpent s.views x → IsSpent J x
    j_still x (u, at, is) = dite (ℕ_discrete x id)
        (λ e. absurd (subst Live (ap (λ (z : View E). z.stage) (same_at s.views id x v u here at (sym e)) ∙ is) jlive))
        (λ ni. dite (ℕ_discrete x other) (λ e. absurd (subst Live (ap (λ (z : View E). z.stage) (same_at s.views other x w u there at (sym e)) ∙ is) jlive')) (λ nt. (u, j_at_old x u ni nt at, is)))

    j_ends : (es : List (Known E)) → ((i : ℕ) (x : Known E) → get_elem? es i ≡ some x → KnownFits whose r.log r.ticket x × IsSpent s.views x.number) → (i : ℕ) (x : Known E) → get_elem? es i ≡ some x → KnownFits whose r.log r.ticket x × IsSpent J x.number
    j_ends es h i x at = let q = h i x at in (q.0, j_still x.number q.1)

    j_all_ends : (i : ℕ) (x : Known E) → get_elem? (w.ended ++ w.own ∷ v.ended) i ≡ some x → KnownFits whose r.log r.ticket x × IsSpent J x.number
    j_all_ends i x at = ⊎_elim (λ a. j_ends w.ended jf'.ended i x a)
        (λ b. ⊎_elim (λ e. subst (λ (k : Known E). KnownFits whose r.log r.ticket k × IsSpent J k.number) e (jf'.own, (spent, ap (get_elem? J) jf'.number ∙ j_at_other, refl))) (λ (j, a). j_ends v.ended jf.ended j x a) b)
        (at_both w.ended v.ended w.own x i at)

    j_seats : (k : ℕ) (u : View E) → get_elem? J k ≡ some u → Live u.stage → SeatFits whose start callers J r.log r.ticket k u
    j_seats = j_which (λ k u. Live u.stage → SeatFits whose start callers J r.log r.ticket k u)
        (λ _. record { callers_is = jf.callers_is; number = jf.number; own = jf.own; stage = jf.stage; gives = (λ p. let q = jf.gives p in (q.0, (let a = q.1 in let l = jlong in omega arith))); ended = j_all_ends })
        (λ k u ni nt at lv. let q = r.seats k u at lv in record { callers_is = q.callers_is; number = q.number; own = q.own; stage = q.stage; gives = (λ p. let z = q.gives p in (z.0, (let a = z.1 in let l = jlong in omega arith))); ended = j_ends u.ended q.ended })
        (λ lv. absurd lv)

    -- what an ended pass knew, the kept one knows
    j_in : (i : ℕ) (x : Known E) → get_elem? v.ended i ≡ some x → (j : ℕ) × (get_elem? (w.ended ++ w.own ∷ v.ended) j ≡ some x)
    j_in i x at = at_second w.ended (w.own ∷ v.ended) x (suc i) at

    j_stood : (k : ℕ) → Stands s.views k → Stands J k
    j_stood k (inl (u, at, lv)) = dite (ℕ_discrete k id) (λ e. inl (with v w, ap (get_elem? J) e ∙ j_at_id, jlive))
        (λ ni. dite (ℕ_discrete k other)
        (λ e. let q = at_second w.ended (w.own ∷ v.ended) w.own zero refl in inr (id, with v w, q.0, w.own, j_at_id, jlive, q.1, jf'.number ∙ sym e))
        (λ nt. inl (u, j_at_old k u ni nt at, lv)))
    j_stood k (inr (j, u, i, x, at, lv, in_ended, is)) = dite (ℕ_discrete j id)
        (λ e. let q = j_in i x (subst (λ (z : View E). get_elem? z.ended i ≡ some x) (same_at s.views j id u v at here e) in_ended) in inr (id, with v w, q.0, x, j_at_id, jlive, q.1, is))
        (λ ni. dite (ℕ_discrete j other)
        (λ e. inr (id, with v w, i, x, j_at_id, jlive, at_longer w.ended (w.own ∷ v.ended) i x (subst (λ (z : View E). get_elem? z.ended i ≡ some x) (same_at s.views j other u w at there e) in_ended), is))
        (λ nt. inr (j, u, i, x, j_at_old j u ni nt at, lv, in_ended, is)))

    -- another view that is neither idle nor spent is unchanged
    j_other : (P : Stage E → Type 0) → ¬ (P Idle) → ((k : ℕ) × (u : View E) × (get_elem? s.views k ≡ some u) × P u.stage) → (k : ℕ) × (u : View E) × (get_elem? J k ≡ some u) × P u.stage
    j_other P not (k, u, at, p) = (
      k,
      u,
      j_at_old k u
          (λ e. not (subst P (ap (λ (z : View E). z.stage) (same_at s.views k id u v at here e) ∙ idle) p))
          (λ e. not (subst P (ap (λ (z : View E). z.stage) (same_at s.views k other u w at there e) ∙ idle') p)) at,
      p,
    )

    j_came : (k : ℕ) (u : View E) (m : ℕ) → get_elem? J k ≡ some u → HasDrawn u.stage m → get_elem? s.views k ≡ some u
    j_came k u m at d = j_which (λ k u. HasDrawn u.stage m → get_elem? s.views k ≡ some u) (λ d'. absurd (subst (λ (st : Stage E). HasDrawn st m) idle d')) (λ k' u' ni nt at' _. at') (λ d'. absurd d') k u at d

    j_last : (k : ℕ) (u : View E) → get_elem? s.views k ≡ some u → Live u.stage → HasAll r.log u → (k : ℕ) × (x : View E) × (get_elem? J k ≡ some x) × Live x.stage × HasAll r.log x
    j_last k u at lv has = dite (ℕ_discrete k id)
        (λ e. (id, with v w, j_at_id, jlive, ⊎_elim (λ a. inl a) (λ (i, x, b, c). let q = j_in i x b in inr (q.0, x, q.1, c)) (subst (λ (z : View E). HasAll r.log z) (same_at s.views k id u v at here e) has)))
        (λ ni. dite (ℕ_discrete k other)
        (λ e. (id, with v w, j_at_id, jlive, inr (⊎_elim (λ a. let q = at_second w.ended (w.own ∷ v.ended) w.own zero refl in (q.0, w.own, q.1, a)) (λ (i, x, b, c). (i, x, at_longer w.ended (w.own ∷ v.ended) i x b, c)) (subst (λ (z : View E). HasAll r.log z) (same_at s.views k other u w at there e) has))))
        (λ nt. (k, u, j_at_old k u ni nt at, lv, has)))

    joined : K record { words = s.words; homes = s.homes; views = J }
    joined = record {
      log = r.log;
      ticket = r.ticket;
      words_are = r.words_are;
      behind = r.behind;
      limit = r.limit;
      seats = j_seats;
      whom = (λ m lo hi. j_other (λ st. HasDrawn st m) (λ d. d) (r.whom m lo hi));
      apart = (λ j k x y m atj atk dx dy. r.apart j k x y m (j_came j x m atj dx) (j_came k y m atk dy) dx dy);
      few = (let a = joined_total s.views id other v w (with v w) spent here there apart marks in let q = r.few in omega arith);
      shared = (let a = joined_total s.views id other v w (with v w) spent here there apart parts in let q = r.shared in
          let c = part_live v.stage (v.gives + length v.ended + 1) jlive in let d = part_live v.stage (v.gives + length (w.ended ++ w.own ∷ v.ended) + 1) jlive in let e = part_live w.stage (w.gives + length w.ended + 1) jlive' in
          let l = length-append w.ended (w.own ∷ v.ended) in let z = gave_all in omega arith);
      within = (let l = jlong in let q = r.within in omega arith);
      given = (λ m h. r.given m (let l = jlong in omega arith));
      all = (λ m h. j_stood m (r.all m (let l = jlong in omega arith)));
      last = j_last r.last.0 r.last.1 r.last.2 r.last.3 r.last.4;
      slot = ⊎_elim (λ h. inl h) (λ (away, who). inr (away, j_other IsServing (λ d. d) who)) r.slot;
    }

  pub joins : (id : ℕ) (v : View E) (other : ℕ) (w : View E) → v.stage ≡ Idle → w.stage ≡ Idle → w.gives ≡ 0 → Joins K id v other w (with v w) spent
  joins id v other w idle idle' all_given s r here apart there = joined s r id other v w here (sym (set_else s.views id other (with v w) apart) ∙ there) apart idle idle' all_given
