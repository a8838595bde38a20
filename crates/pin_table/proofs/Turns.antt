-- A turn at one of a caller's passes.
use Rattle.std.proofs.Common.{◌≡◌, ℕ, zero, suc, ◌<◌, List, [], ◌∷◌, length, get_or, set, map, Some, Ok, Err, Result, IfOk, IfErr, slice_get, All, refl, sym, ap, subst, ◌∙◌}
use lib.Seq.{map-set, map-set_same}
use Rattle.turn_lock.specs.declared.knowledge.Known.{Known}
use Rattle.turn_lock.specs.declared.tokens.Turned.{Turned}
use Rattle.turn_lock.specs.declared.tokens.Turned.TheVariants.{Worn}
use Rattle.turn_lock.specs.Views.{PassView, LockView}
use Rattle.turn_lock.specs.Under.{under}
use Rattle.turn_lock.specs.Passes.{Played, WasWorn}
use Rattle.memo_server.specs.declared.turn.Turn.{Turn}
use Rattle.memo_server.specs.declared.ops.ShardOp.{ShardOp}
use Rattle.memo_server.specs.declared.ops.ShardOp.TheVariants.{Look, Keep, Release, Sweep}
use Rattle.memo_server.specs.declared.ops.ShardReply.{ShardReply}
use Rattle.memo_server.specs.Callers.{whose, IsLegal}
use Rattle.memo_server.specs.Turns.{May, AnswersOp}
use Rattle.pin_table.specs.Views.{ShardKnown, CallerView, known_of, PassFits}
use Rattle.pin_table.specs.Known.{AtShard, CallerFits, KnownFits, known_at, WornOut}
use Rattle.pin_table.specs.Answers.{MayAsk, TookTurn, RefusedTurn}
use Rattle.pin_table.proofs.Places.{same_some, read-at, same-at, get-at, all-at, map-get, length-mapped}
use Rattle.pin_table.proofs.Gains.{went, worn, known-fits, may-release}

-- The model of a caller with these passes.
abbrev pub caller_of_passes : ℕ → List (PassView Turn) → CallerView
caller_of_passes n ps = record { locks = map (λ p. p.lock) ps; number = n; shards = map (λ p. known_of p.known) ps }

-- A caller with these passes knows legal histories.
pub fits-passes : (n : ℕ) (ps : List (PassView Turn)) → All (λ p. PassFits n p.known) ps → CallerFits (caller_of_passes n ps)
fits-passes n ps all = record { each = each_at ps (λ i p at. all-at (λ (p : PassView Turn). PassFits n p.known) ps i p all at); count = length-mapped (λ (p : PassView Turn). known_of p.known) ps ∙ sym (length-mapped (λ (p : PassView Turn). p.lock) ps) }
  where
    each_at : (ps : List (PassView Turn)) → ((i : ℕ) (p : PassView Turn) → slice_get ps i ≡ Some p → PassFits n p.known) → (s : ℕ) (k : ShardKnown) → slice_get (map (λ p. known_of p.known) ps) s ≡ Some k → KnownFits n k
    each_at [] fits s k at = cc
    each_at (p ∷ ps) fits zero k at = subst (KnownFits n) (same_some (known_of p.known) k at) (known-fits n p.known (fits 0 p refl))
    each_at (p ∷ ps) fits (suc s) k at = each_at ps (λ i q is. fits (suc i) q is) s k at

module _ (n s : ℕ) (ps : List (PassView Turn)) (p q : PassView Turn) (inside : s < length ps) (at : slice_get ps s ≡ Some p) (locked : q.lock ≡ p.lock) (Goes : ShardKnown → ShardKnown → Type 0) (goes : Goes (known_of p.known) (known_of q.known)) where
  pub at-pass : AtShard Goes s (caller_of_passes n ps) (caller_of_passes n (set ps s q))
  at-pass = record {
    next = known_of q.known;
    inside = subst (λ m. s < m) (sym (length-mapped (λ (p : PassView Turn). known_of p.known) ps)) inside;
    goes = subst (λ (k : ShardKnown). Goes k (known_of q.known)) (sym (map-get (λ (p : PassView Turn). known_of p.known) ps s p _ inside ∙ ap (λ (p : PassView Turn). known_of p.known) (get-at ps s p p at))) goes;
    same = same_is;
  }
    where
      same_is : caller_of_passes n (set ps s q) ≡ record { locks = map (λ p. p.lock) ps; number = n; shards = set (map (λ p. known_of p.known) ps) s (known_of q.known) }
      same_is = let a : map (λ (p : PassView Turn). p.lock) (set ps s q) ≡ map (λ (p : PassView Turn). p.lock) ps = map-set_same (λ (p : PassView Turn). p.lock) ps s q p (locked ∙ sym (ap (λ (p : PassView Turn). p.lock) (get-at ps s p p at))) in
          let b : map (λ (p : PassView Turn). known_of p.known) (set ps s q) ≡ set (map (λ (p : PassView Turn). known_of p.known) ps) s (known_of q.known) = map-set (λ (p : PassView Turn). known_of p.known) ps s q in
          rw (a, b) refl

-- What a memo with these locks and a caller with these passes have at a shard.
module _ (ls : List LockView) (ps : List (PassView Turn)) (s : ℕ) (l : LockView) (p : PassView Turn) (same : map (λ p. p.lock) ps ≡ map (λ l. l.id) ls) (inside : s < length (map (λ l. l.id) ls)) (is : p ≡ get_or ps s p) (there : l ≡ get_or ls s l) where
  lock-inside : s < length ls
  lock-inside = subst (λ n. s < n) (length-mapped (λ (l : LockView). l.id) ls) inside

  pub pass-inside : s < length ps
  pass-inside = subst (λ n. s < n) (ap length (sym same) ∙ length-mapped (λ (p : PassView Turn). p.lock) ps) inside

  pub pass-at : slice_get ps s ≡ Some p
  pass-at = read-at ps s p pass-inside is

  pub lock-at : p.lock ≡ l.id
  lock-at = same-at (λ (p : PassView Turn). p.lock) (λ (l : LockView). l.id) ps ls s p l same pass-inside lock-inside is there

module _ {R I O : Type 0} (fits : I → O → Type 0) (digest_of : I → List ℕ) where
  -- What the lock asks of an operation.
  pub may-ask : (op : ShardOp R I O) (n : ℕ) (k : Known Turn) → PassFits n k → MayAsk fits n (known_of k) op → May fits (under whose k.number k.mine) op
  may-ask (Look run input) n k keeps h = tt
  may-ask (Keep run input out) n k keeps h = h
  may-ask (Release id) n k keeps h = may-release n id k keeps h
  may-ask (Sweep horizon) n k keeps h = tt

  module _ (op : ShardOp R I O) (n s : ℕ) (ps : List (PassView Turn)) (p q : PassView Turn) (all : All (λ p. PassFits n p.known) ps) (inside : s < length ps) (at : slice_get ps s ≡ Some p) (locked : q.lock ≡ p.lock) where
    keeps : PassFits n p.known
    keeps = all-at (λ (p : PassView Turn). PassFits n p.known) ps s p all at

    pub took-at : (r : Result (ShardReply R I O) (Turned (ShardOp R I O))) → IfOk r (λ reply. Played whose (AnswersOp fits digest_of) IsLegal op reply p.known q.known) → IfOk r (λ reply. AtShard (TookTurn fits digest_of op reply n) s (caller_of_passes n ps) (caller_of_passes n (set ps s q)))
    took-at (Ok reply) h = at-pass n s ps p q inside at locked (TookTurn fits digest_of op reply n) (h.entry, h.answer, went (AnswersOp fits digest_of) op reply p.known q.known h n keeps.numbered h.entry refl)
    took-at (Err e) h = tt

    pub refused-at : (r : Result (ShardReply R I O) (Turned (ShardOp R I O))) → IfErr r (λ w. WasWorn op w p.known q.known) → IfErr r (λ w. RefusedTurn fits digest_of op w s (caller_of_passes n ps) (caller_of_passes n (set ps s q)))
    refused-at (Ok reply) h = tt
    refused-at (Err (Worn ticket back)) h = (h.0, at-pass n s ps p q inside at locked (WornOut ticket) (worn ticket p.known q.known h.1))

  -- What the caller of a pass may ask, the pass may.
  pub may-asked : (op : ShardOp R I O) (n s : ℕ) (ps : List (PassView Turn)) (p : PassView Turn) → All (λ p. PassFits n p.known) ps → s < length ps → slice_get ps s ≡ Some p → MayAsk fits n (known_at s (caller_of_passes n ps)) op → May fits (under whose p.known.number p.known.mine) op
  may-asked op n s ps p all inside at h = may-ask op n p.known (all-at (λ (p : PassView Turn). PassFits n p.known) ps s p all at) (subst (λ (k : ShardKnown). MayAsk fits n k op) (map-get (λ (p : PassView Turn). known_of p.known) ps s p _ inside ∙ ap (λ (p : PassView Turn). known_of p.known) (get-at ps s p p at)) h)
