-- How a board starts, how hands are made and joined, and what is left at the end.
use Rattle.std.proofs.Common.{◌≡◌, ◌≢◌, ℕ, suc, ◌+◌, ◌-◌, ◌^◌, ◌<◌, ◌≤◌, ◌⊎◌, List, [], ◌∷◌, length, map, sym, refl, ap, ◌∙◌, subst, inl, inr, ⊎_elim, arith}
use Rattle.std.specs.Prelude.{Option, Some}
use mathlib.Core.Option.{some, some-injective, some-ne-none}
use mathlib.Core.Option as maybe
use mathlib.Core.Logic.{dite}
use native.Mathlib.Decide.{ℕ_discrete}
use lib.ListN.{get_elem?}
use Rattle.atomic_table.specs.Table.{State, Splits, Joins, Final, Seen, opening}
use Rattle.atomic_table.proofs.Lists.{set_else, at_map}
use Rattle.worker_claims.specs.declared.knowledge.View.{View}
use Rattle.worker_claims.specs.declared.knowledge.Doing.{Doing}
use Rattle.worker_claims.specs.declared.knowledge.Doing.TheVariants.{Spent, Free, HasTask, Ended}
use Rattle.worker_claims.specs.Rule.{Live, one_if, in_hand, comers, newcomer, spent, without_one, the_one, with, has, parts, rest_of, InDoing, SeatFits, Claimed, ClaimRule}
use Rattle.shared_seats.specs.Seats.{total}
use Rattle.worker_claims.specs.Hands.{HasEnded, times}
use Rattle.shared_seats.specs.Seats.{divided, joined as joined_views}
use Rattle.shared_seats.proofs.Lists.{same_at, total_append, at_second, one_at, one_of, two_of}
use Rattle.shared_seats.proofs.Seats.{divided_here, divided_else, divided_which, divided_total, joined_here, joined_else, joined_which, joined_total}
use Rattle.atomic_table.proofs.Lists.{at_longer}

only : (d : Doing) → (d ≡ Spent) ⊎ Live d
only Spent = inl refl
only Free = inr tt
only (HasTask n) = inr tt
only (Ended n) = inr tt

free_not_held : (k : ℕ) → Free ≡ HasTask k → ⊥
free_not_held k e = cc

ended_not_held : (n k : ℕ) → Ended n ≡ HasTask k → ⊥
ended_not_held n k e = cc

pub ended_at : (d : Doing) → HasEnded d → (n : ℕ) × (d ≡ Ended n)
ended_at Spent h = absurd h
ended_at Free h = absurd h
ended_at (HasTask k) h = absurd h
ended_at (Ended n) h = (n, refl)

held_live : (d : Doing) (k : ℕ) → d ≡ HasTask k → Live d
held_live d k e = subst Live (sym e) tt

free_not_spent : Free ≡ Spent → ⊥
free_not_spent e = cc

long : {T : Type 0} (l : List T) → length (map {A = Option T} {B = maybe.Option (Option T)} some (map Some l)) ≡ length l
long [] = refl
long (x ∷ xs) = ap suc (long xs)

module _ {T : Type 0} (tasks : List T) (hands : ℕ) where
  abbrev K : State (Option T) (View T) → Type 0
  K = ClaimRule tasks hands

  pub starts : (words : List ℕ) (slots : List (Option T)) → words ≡ 0 ∷ [] → slots ≡ map Some tasks → length tasks < 2 ^ 32 → 0 < hands → hands ≤ 16 → K (opening words slots (newcomer tasks hands))
  starts words slots ws xs few_tasks some_hand few_hands = let v : View T = newcomer tasks hands in record {
    word = 0;
    words_are = ws;
    limit = (few_tasks, few_hands);
    slots = ap (λ (l : List (Option T)). length (map some l)) xs ∙ long tasks;
    seats = (λ j u at lv. let e = (one_at (newcomer tasks hands) u j at).1 in subst (SeatFits tasks 0) e record { tasks_are = refl; some_part = some_hand; doing = tt });
    gone = (λ j u at sp. absurd (free_not_spent (ap (λ (z : View T). z.doing) (one_at (newcomer tasks hands) u j at).1 ∙ sp)));
    few = omega arith;
    shared = omega arith;
    fresh = (λ k x le at. ap (λ (l : List (Option T)). get_elem? (map some l) k) xs ∙ at_map some (map Some tasks) k (Some x) (at_map Some tasks k x at));
    done = (λ k lo hi. absurd (omega arith));
    once = (λ k. omega arith);
    unclaimed = (λ k le. omega arith);
  }

  module _ (s : State (Option T) (View T)) (r : K s) (id : ℕ) (v : View T) (here : get_elem? s.views id ≡ some v) (free : v.doing ≡ Free) (some_left : 1 < v.parts) where
    abbrev V : List (View T)
    V = divided s.views id (without_one v) (the_one v)

    live : Live v.doing
    live = subst Live (sym free) tt

    f : SeatFits tasks r.word v
    f = r.seats id v here live

    at_id : get_elem? V id ≡ some (without_one v)
    at_id = divided_here s.views id v (without_one v) (the_one v) here

    at_old : (k : ℕ) (u : View T) → k ≢ id → get_elem? s.views k ≡ some u → get_elem? V k ≡ some u
    at_old = divided_else s.views id v (without_one v) (the_one v) here

    which : (P : View T → Type 0) → P (without_one v) → ((k : ℕ) (u : View T) → get_elem? s.views k ≡ some u → P u) → P (the_one v) → (k : ℕ) (u : View T) → get_elem? V k ≡ some u → P u
    which P a b c = divided_which s.views id v (without_one v) (the_one v) here (λ _ u. P u) a (λ k u _ at. b k u at) c

    still : (k : ℕ) → Claimed s.views s.homes k → Claimed V s.homes k
    still k (inl (j, u, at, held)) = inl (j, u, at_old j u (λ e. free_not_held k (sym free ∙ (ap (λ (z : View T). z.doing) (same_at s.views id j v u here at (sym e)) ∙ held))) at, held)
    still k (inr (j, u, i, t, at, lv, in_given, home)) = dite (ℕ_discrete j id)
        (λ e. inr (id, without_one v, i, t, at_id, live, subst (λ (z : View T). get_elem? z.given i ≡ some (k, t)) (same_at s.views j id u v at here e) in_given, home))
        (λ ne. inr (j, u, i, t, at_old j u ne at, lv, in_given, home))

    had : (k : ℕ) → total (has k) V ≡ total (has k) s.views
    had k = let a = divided_total s.views id v (without_one v) (the_one v) here (has k) in
        let x : ℕ = has k v in let y : ℕ = total (has k) V in let z : ℕ = total (has k) s.views in omega arith

    split : K record { words = s.words; homes = s.homes; views = V }
    split = record {
      word = r.word;
      words_are = r.words_are;
      limit = r.limit;
      slots = r.slots;
      seats = which (λ u. Live u.doing → SeatFits tasks r.word u)
          (λ lv. record { tasks_are = f.tasks_are; some_part = omega arith; doing = f.doing })
          (λ k u at lv. r.seats k u at lv)
          (λ lv. record { tasks_are = f.tasks_are; some_part = omega arith; doing = tt });
      gone = which (λ u. u.doing ≡ Spent → u ≡ spent) (λ sp. absurd (subst Live sp live)) (λ k u at sp. r.gone k u at sp) (λ sp. absurd (free_not_spent sp));
      few = (let a = divided_total s.views id v (without_one v) (the_one v) here rest_of in let q = r.few in
          let c : rest_of v ≡ v.parts = ap (comers v.parts) free in let d : rest_of (without_one v) ≡ v.parts - 1 = ap (comers (v.parts - 1)) free in omega arith);
      shared = (let a = divided_total s.views id v (without_one v) (the_one v) here parts in let q = r.shared in omega arith);
      fresh = r.fresh;
      done = (λ k lo hi. still k (r.done k lo hi));
      once = (λ k. let h = had k in let q = r.once k in let y : ℕ = total (has k) V in let z : ℕ = total (has k) s.views in omega arith);
      unclaimed = (λ k le. had k ∙ r.unclaimed k le);
    }

  pub splits : (id : ℕ) (v : View T) → v.doing ≡ Free → 1 < v.parts → Splits K id v (without_one v) (the_one v)
  splits id v free some_left s r here = split s r id v here free some_left

  module _ (s : State (Option T) (View T)) (r : K s) (id other : ℕ) (v w : View T) (here : get_elem? s.views id ≡ some v) (there' : get_elem? s.views other ≡ some w) (apart : other ≢ id) (n n' : ℕ) (ended : v.doing ≡ Ended n) (ended' : w.doing ≡ Ended n') where
    abbrev J : List (View T)
    J = joined_views s.views id other (with v w) spent

    jlive : Live v.doing
    jlive = subst Live (sym ended) tt

    jlive' : Live w.doing
    jlive' = subst Live (sym ended') tt

    jf : SeatFits tasks r.word v
    jf = r.seats id v here jlive

    j_at_id : get_elem? J id ≡ some (with v w)
    j_at_id = joined_here s.views id other v w (with v w) spent here there' apart

    j_at_old : (k : ℕ) (u : View T) → k ≢ id → k ≢ other → get_elem? s.views k ≡ some u → get_elem? J k ≡ some u
    j_at_old = joined_else s.views id other v w (with v w) spent here there' apart

    j_which : (P : View T → Type 0) → P (with v w) → ((k : ℕ) (u : View T) → get_elem? s.views k ≡ some u → P u) → P spent → (k : ℕ) (u : View T) → get_elem? J k ≡ some u → P u
    j_which P a b c = joined_which s.views id other v w (with v w) spent here there' apart (λ _ u. P u) a (λ k u _ _ at. b k u at) c

    j_still : (k : ℕ) → Claimed s.views s.homes k → Claimed J s.homes k
    j_still k (inl (j, u, at, held)) = inl (
      j,
      u,
      j_at_old j u
          (λ e. ended_not_held n k (sym ended ∙ (ap (λ (z : View T). z.doing) (same_at s.views id j v u here at (sym e)) ∙ held)))
          (λ e. ended_not_held n' k (sym ended' ∙ (ap (λ (z : View T). z.doing) (same_at s.views other j w u there' at (sym e)) ∙ held))) at,
      held,
    )
    j_still k (inr (j, u, i, t, at, lv, in_given, home)) = dite (ℕ_discrete j id)
        (λ e. inr (id, with v w, i, t, j_at_id, jlive, at_longer v.given w.given i (k, t) (subst (λ (z : View T). get_elem? z.given i ≡ some (k, t)) (same_at s.views j id u v at here e) in_given), home))
        (λ ni. dite (ℕ_discrete j other)
        (λ e. let q = at_second v.given w.given (k, t) i (subst (λ (z : View T). get_elem? z.given i ≡ some (k, t)) (same_at s.views j other u w at there' e) in_given) in inr (id, with v w, q.0, t, j_at_id, jlive, q.1, home))
        (λ nt. inr (j, u, i, t, j_at_old j u ni nt at, lv, in_given, home)))

    sums : (g : View T → ℕ) → g (with v w) ≡ g v + g w → g spent ≡ 0 → total g J ≡ total g s.views
    sums g both nothing = let a = joined_total s.views id other v w (with v w) spent here there' apart g in let x : ℕ = total g J in let y : ℕ = total g s.views in omega arith

    has_both : (k : ℕ) → has k (with v w) ≡ has k v + has k w
    has_both k = let a = total_append (λ (g : ℕ × T). one_if k g.0) v.given w.given in let b : in_hand k w.doing ≡ 0 = ap (in_hand k) ended' in omega arith

    joined : K record { words = s.words; homes = s.homes; views = J }
    joined = record {
      word = r.word;
      words_are = r.words_are;
      limit = r.limit;
      slots = r.slots;
      seats = j_which (λ u. Live u.doing → SeatFits tasks r.word u)
          (λ lv. record { tasks_are = jf.tasks_are; some_part = (let q = jf.some_part in omega arith); doing = jf.doing })
          (λ k u at lv. r.seats k u at lv)
          (λ lv. absurd lv);
      gone = j_which (λ u. u.doing ≡ Spent → u ≡ spent) (λ sp. absurd (subst Live sp jlive)) (λ k u at sp. r.gone k u at sp) (λ sp. refl);
      few = (let a = sums rest_of (let c : rest_of v ≡ 0 = ap (comers v.parts) ended in let d : rest_of w ≡ 0 = ap (comers w.parts) ended' in let e : rest_of (with v w) ≡ 0 = ap (comers (v.parts + w.parts)) ended in omega arith) refl in let q = r.few in omega arith);
      shared = sums parts refl refl ∙ r.shared;
      fresh = r.fresh;
      done = (λ k lo hi. j_still k (r.done k lo hi));
      once = (λ k. let a = sums (has k) (has_both k) refl in let q = r.once k in let y : ℕ = total (has k) J in let z : ℕ = total (has k) s.views in omega arith);
      unclaimed = (λ k le. sums (has k) (has_both k) refl ∙ r.unclaimed k le);
    }

  pub joins : (id : ℕ) (v : View T) (other : ℕ) (w : View T) → HasEnded v.doing → HasEnded w.doing → Joins K id v other w (with v w) spent
  joins id v other w ended ended' s r here apart there' = let e = ended_at v.doing ended in let e' = ended_at w.doing ended' in
      joined s r id other v w here (sym (set_else s.views id other (with v w) apart) ∙ there') apart e.0 e'.0 e.1 e'.1

  -- each slot has what was given with its number, and no number was given twice
  pub ends : (id : ℕ) (v : View T) (words : List ℕ) (slots : List (Option T)) → HasEnded v.doing → v.parts ≡ hands → Final (Seen K id v) words slots
      → (length slots ≡ length tasks) × ((k : ℕ) → k < length tasks → (t : T) × (i : ℕ) × (get_elem? slots k ≡ some (Some t)) × (get_elem? v.given i ≡ some (k, t))) × ((k : ℕ) → times k v.given ≤ 1)
  ends id v words slots has_ended whole (s, (r, here), ws, long_is, same) =
      let end = ended_at v.doing has_ended in let n : ℕ = end.0 in let ended : v.doing ≡ Ended n = end.1 in
      let live : Live v.doing = subst Live (sym ended) tt in let f = r.seats id v here live in let found = subst (InDoing tasks r.word) ended f.doing in
      let all_claimed : length tasks ≤ r.word = (let a = found.0 in let b = found.1 in omega arith) in
      let alone : (j : ℕ) (u : View T) → get_elem? s.views j ≡ some u → Live u.doing → u ≡ v = λ j u at' lv. dite (ℕ_discrete j id)
      (λ e. same_at s.views j id u v at' here e)
      (λ ne. let two = two_of parts s.views id j v u here at' ne in let q = r.shared in let p = (r.seats j u at' lv).some_part in absurd (omega arith)) in (
        sym long_is ∙ r.slots,
        (λ k lt. ⊎_elim
            (λ (j, u, at', held). absurd (ended_not_held n k (sym ended ∙ (ap (λ (z : View T). z.doing) (sym (alone j u at' (held_live u.doing k held))) ∙ held))))
            (λ (j, u, i, t, at', lv, in_given, home). (t, i, same k (Some t) home, subst (λ (z : View T). get_elem? z.given i ≡ some (k, t)) (alone j u at' lv) in_given))
            (r.done k (omega arith) lt)),
        (λ k. let a = one_of (has k) s.views id v here in let q = r.once k in let b : in_hand k v.doing ≡ 0 = ap (in_hand k) ended in let y : ℕ = total (has k) s.views in omega arith),
      )
