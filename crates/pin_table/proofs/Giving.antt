-- Callers that give their last passes.
use Rattle.std.proofs.Common.{◌≡◌, ℕ, suc, ◌+◌, ◌<◌, List, [], ◌∷◌, ◌++◌, length, get_or, set, map, take, drop, slice_get, All, refl, sym, ap, ◌∙◌, add-one}
use Rattle.turn_lock.specs.Views.{PassView}
use Rattle.memo_server.specs.declared.turn.Turn.{Turn}
use Rattle.pin_table.specs.Views.{CallerView, known_of, PassFits}
use Rattle.pin_table.specs.Closing.{GivesOne, Gives}
use Rattle.pin_table.proofs.Places.{all-at, at-length, map-push, length-mapped, get-drop, take-one, take-set, drop-set, drop-same}
use Rattle.pin_table.proofs.Turns.{caller_of_passes}

pub gives-one : (n : ℕ) (ps qs : List (PassView Turn)) (p : PassView Turn) → ps ≡ qs ++ p ∷ [] → All (λ p. PassFits n p.known) ps → GivesOne (caller_of_passes n ps) (caller_of_passes n qs) p
gives-one n ps qs p is all = record {
  number = (refl, (all-at (λ (p : PassView Turn). PassFits n p.known) ps (length qs) p all (ap (λ (l : List (PassView Turn)). slice_get l (length qs)) is ∙ at-length qs p)).numbered);
  locks = ap (map (λ (p : PassView Turn). p.lock)) is ∙ map-push (λ (p : PassView Turn). p.lock) qs p;
  shards = ap (map (λ (p : PassView Turn). known_of p.known)) is ∙ map-push (λ (p : PassView Turn). known_of p.known) qs p;
  count = length-mapped (λ (p : PassView Turn). known_of p.known) qs ∙ sym (length-mapped (λ (p : PassView Turn). p.lock) qs);
}

pub gives-push : (cs ds : List CallerView) (ps : List (PassView Turn)) (c d : CallerView) (p : PassView Turn) → Gives cs ds ps → GivesOne c d p → Gives (cs ++ c ∷ []) (ds ++ d ∷ []) (ps ++ p ∷ [])
gives-push [] [] [] c d p h one = (one, tt)
gives-push [] [] (q ∷ ps) c d p h one = absurd h
gives-push [] (x ∷ ds) ps c d p h one = absurd h
gives-push (x ∷ cs) [] ps c d p h one = absurd h
gives-push (x ∷ cs) (y ∷ ds) [] c d p h one = absurd h
gives-push (x ∷ cs) (y ∷ ds) (q ∷ ps) c d p h one = (h.0, gives-push cs ds ps c d p h.1 one)

module _ (xs now : List CallerView) (i : ℕ) (rest : drop i now ≡ drop i xs) where
  -- The caller at the place has given nothing.
  pub still : (x : CallerView) → x ≡ get_or now i x → x ≡ get_or xs i x
  still x is = is ∙ (sym (get-drop now i x) ∙ (ap (λ (l : List CallerView). get_or l 0 x) rest ∙ get-drop xs i x))

  pub rest-more : (y : CallerView) → drop (i + 1) (set now i y) ≡ drop (i + 1) xs
  rest-more y = rw add-one (drop-set now i y ∙ drop-same now xs i rest)

  pub gives-more : (row next : List (PassView Turn)) (x y : CallerView) (p : PassView Turn) → i < length xs → i < length now → x ≡ get_or now i x → Gives (take i xs) (take i now) row → GivesOne x y p → next ≡ row ++ p ∷ [] → Gives (take (i + 1) xs) (take (i + 1) (set now i y)) next
  gives-more row next x y p left right is given one pushed =
      let a : take (suc i) xs ≡ take i xs ++ x ∷ [] = take-one xs i x left ∙ ap (λ (z : CallerView). take i xs ++ z ∷ []) (sym (still x is)) in
      let b : take (suc i) (set now i y) ≡ take i now ++ y ∷ [] = take-set now i y right in
      rw (add-one, a, b, pushed) (gives-push (take i xs) (take i now) row x y p given one)
