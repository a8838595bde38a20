-- What was appended by a call that failed, or succeeded.
use Rattle.std.proofs.Common.{◌≡◌, ℕ, ◌+◌, ◌<◌, List, [], ◌∷◌, ◌++◌, length, get_or, take, drop, refl, sym, ap, subst, ◌∙◌, append-nil, append_assoc}
use Rattle.std.specs.Prelude.{Result, Ok, Err, OnErr, is_ok, if◌then◌else◌}
use Rattle.std.specs.List.{flat_map}
use Rattle.std.proofs.lemmas.List.{take_more, take-append-drop, drop_more, flat_map_more}
use Rattle.std.proofs.lemmas.List.Concat.{flat_map-append}
use Rattle.definitions.specs.Outside.{GainsPrefix}
use Rattle.job_laws.specs.Gained.{GainsPairs}

-- nothing was gained
pub gains_nothing : (all old : List ℕ) → GainsPrefix all old old
gains_nothing all old = ([], (all, refl), sym (append-nil old))

-- no pair was gained
pub gains_no_pairs : {V : Type 0} (all old : List (List ℕ × V)) → GainsPairs all old old
gains_no_pairs all old = ([], all, refl, sym (append-nil old))

-- nothing was gained if the call failed
pub gains_unless_ok : {A E : Type 0} (r : Result A E) (all more old new : List ℕ) → new ≡ (if is_ok r then old ++ more else old) → OnErr r (GainsPrefix all old new)
gains_unless_ok (Ok x) all more old new is = tt
gains_unless_ok (Err e) all more old new is = subst (GainsPrefix all old) (sym is) (gains_nothing all old)

-- a piece was gained, and the rest is after it
pub gains_before : (before rest all old new : List ℕ) → all ≡ before ++ rest → new ≡ old ++ before → GainsPrefix all old new
gains_before before rest all old new is at = (before, (rest, is), at)

-- a piece was gained before, and then a prefix of the next one
pub gains_within : (before piece rest all old mid new : List ℕ) → all ≡ before ++ (piece ++ rest) → mid ≡ old ++ before → GainsPrefix piece mid new → GainsPrefix all old new
gains_within before piece rest all old mid new is at g =
    let all_is : all ≡ (before ++ g.0) ++ (g.1.0 ++ rest) =
    is
    ∙ ap (λ l. before ++ (l ++ rest)) g.1.1
    ∙ ap (λ l. before ++ l) (append_assoc g.0 g.1.0 rest)
    ∙ sym (append_assoc before g.0 (g.1.0 ++ rest)) in
    (before ++ g.0, (g.1.0 ++ rest, all_is), g.2 ∙ ap (λ l. l ++ g.0) at ∙ append_assoc old before g.0)

-- Of all pairs, the rest is still to be emitted.
pub record Emitted {V : Type 0} (all old now rest : List (List ℕ × V)) : Type 0 where
  pub gain : List (List ℕ × V)
  pub is : now ≡ old ++ gain
  pub parts : gain ++ rest ≡ all

module _ {V : Type 0} where
  -- all pairs are still to be emitted
  pub emitted_start : (all old : List (List ℕ × V)) → Emitted all old old all
  emitted_start all old = record { gain = []; is = sym (append-nil old); parts = refl }

  -- one pair more was emitted
  pub emitted_more : (all old now new rest more : List (List ℕ × V)) (p : List ℕ × V) → Emitted all old now rest → rest ≡ p ∷ more → new ≡ now ++ p ∷ [] → Emitted all old new more
  emitted_more all old now new rest more p e split put = record {
    gain = e.gain ++ p ∷ [];
    is = put ∙ ap (λ l. l ++ p ∷ []) e.is ∙ append_assoc old e.gain (p ∷ []);
    parts = append_assoc e.gain (p ∷ []) more ∙ ap (λ l. e.gain ++ l) (sym split) ∙ e.parts;
  }

  -- whatever was emitted is a prefix of all
  pub emitted_prefix : (all old now new rest : List (List ℕ × V)) → Emitted all old now rest → new ≡ now → GainsPairs all old new
  emitted_prefix all old now new rest e same = (e.gain, rest, sym e.parts, same ∙ e.is)

  -- if nothing is left, all pairs were emitted
  pub emitted_end : (all old now rest : List (List ℕ × V)) → Emitted all old now rest → rest ≡ [] → now ≡ old ++ all
  emitted_end all old now rest e done = e.is ∙ ap (λ l. old ++ l) (sym (append-nil e.gain) ∙ ap (λ l. e.gain ++ l) (sym done) ∙ e.parts)

module _ {A : Type 0} (f : A → List ℕ) (v : List A) (i : ℕ) (d : A) (within : i < length v) where
  -- one piece more
  pub piece_more : (old : List ℕ) → (old ++ flat_map f (take i v)) ++ f (get_or v i d) ≡ old ++ flat_map f (take (i + 1) v)
  piece_more old = flat_map_more f old (take i v) (get_or v i d) ∙ ap (λ l. old ++ flat_map f l) (sym (take_more v i d within))

  -- all pieces, from a piece on
  all_pieces : flat_map f v ≡ flat_map f (take i v) ++ (f (get_or v i d) ++ flat_map f (drop (i + 1) v))
  all_pieces = ap (flat_map f) (sym (take-append-drop i v)) ∙ flat_map-append f (take i v) (drop i v) ∙ ap (λ l. flat_map f (take i v) ++ flat_map f l) (drop_more v i d within)

  -- the pieces before one were gained, and a prefix of it
  pub gains_next : (old mid new : List ℕ) → mid ≡ old ++ flat_map f (take i v) → GainsPrefix (f (get_or v i d)) mid new → GainsPrefix (flat_map f v) old new
  gains_next old mid new at g = gains_within (flat_map f (take i v)) (f (get_or v i d)) (flat_map f (drop (i + 1) v)) (flat_map f v) old mid new all_pieces at g
