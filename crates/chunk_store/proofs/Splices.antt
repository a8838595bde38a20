-- What was cut again, between the shared chunks, is what is cut from nothing.
use Rattle.std.proofs.Common.{◌≡◌, ◌≤◌, ◌<◌, ℕ, zero, suc, ◌+◌, ◌-◌, List, [], ◌∷◌, ◌++◌, length, None, refl, sym, ap, subst, ◌∙◌, arith, append_assoc, take, drop, length-append}
use Rattle.std.proofs.lemmas.List.{take-append-drop, append_cancel_left, length-take-le, length-drop, take_at, drop_at}
use Rattle.marker_chunker.specs.Cuts.{first_or, joined, AreChunks, reach, chunks_of}
use Rattle.marker_chunker.proofs.CutLaws.{joined_append, are_chunks_append, are_chunks_left, are_chunks_right, chunks_all, joined_chunks}
use Rattle.chunk_store.specs.Documents.{NoMeeting, spliced, IsRecut, IsChange, IsSplice}
use Rattle.chunk_store.proofs.Reaches.{reach_split, reach_rises}

not_before : (a b x y : ℕ) → (a < b → x < y) → y ≤ x → b ≤ a
not_before a b x y h l = grind arith

pub ordered : (olds : List (List (List ℕ))) (first last at del : ℕ) → AreChunks olds None → first ≤ length olds → (at ≡ 0 → first ≡ 0) → (0 < at → reach first olds < at) → at + del ≤ reach last olds → first ≤ last
ordered olds first last zero del h w begins holds b = let e : first ≡ 0 = begins refl in omega arith
ordered olds first last (suc n) del h w begins holds b =
    let low : reach first olds < suc n = holds (omega arith) in
    not_before last first (reach last olds) (reach first olds) (λ l. reach_rises olds None last first h l w) (omega arith)

first_same : (b y z : List (List ℕ)) → 0 < length b → first_or None (b ++ y) ≡ first_or None (b ++ z)
first_same [] y z l = absurd (omega arith)
first_same (r ∷ b) y z l = refl

-- the shared chunks before the edit stay chunks, since the record after them stays
pub prefix : (olds : List (List (List ℕ))) (first at : ℕ) (begun more : List (List ℕ)) → AreChunks olds None → at ≤ length (joined olds)
    → joined (take first olds) ++ begun ≡ take at (joined olds) → (at ≡ 0 → first ≡ 0) → (0 < at → reach first olds < at)
    → AreChunks (take first olds) (first_or None (begun ++ more))
prefix olds first zero begun more h m is begins holds = subst (λ (f : ℕ). AreChunks (take f olds) (first_or None (begun ++ more))) (sym (begins refl)) tt
prefix olds first (suc n) begun more h m is begins holds =
    let below : reach first olds < suc n = holds (omega arith) in
    let size = ap length is in
    let sizes = length-append (joined (take first olds)) begun in
    let taken = length-take-le (suc n) (joined olds) m in
    let some : 0 < length begun = omega arith in
    let rest : begun ++ drop (suc n) (joined olds) ≡ joined (drop first olds) =
    append_cancel_left (joined (take first olds)) (begun ++ drop (suc n) (joined olds)) (joined (drop first olds))
    (sym (append_assoc (joined (take first olds)) begun (drop (suc n) (joined olds)))
    ∙ ap (λ x. x ++ drop (suc n) (joined olds)) is
    ∙ take-append-drop (suc n) (joined olds)
    ∙ sym (ap joined (take-append-drop first olds))
    ∙ joined_append (take first olds) (drop first olds)) in
    subst (λ n. AreChunks (take first olds) n) (sym (ap (first_or None) rest) ∙ first_same begun (drop (suc n) (joined olds)) more some)
    (are_chunks_left (take first olds) (drop first olds) None (subst (λ x. AreChunks x None) (sym (take-append-drop first olds)) h))

module _ (olds fresh : List (List (List ℕ))) (first last place at del : ℕ) (ins begun fed : List (List ℕ))
    (are : AreChunks olds None) (within : at + del ≤ length (joined olds))
    (begins : at ≡ 0 → first ≡ 0) (holds : 0 < at → reach first olds < at)
    (headed : joined (take first olds) ++ begun ≡ take at (joined olds))
    (tailed : fed ++ joined (drop place olds) ≡ (begun ++ ins) ++ drop (at + del) (joined olds))
    (met : joined fresh ++ joined (drop last olds) ≡ fed ++ joined (drop place olds))
    (chunks : AreChunks fresh (first_or None (joined (drop last olds)))) where
  abbrev pub news : List (List (List ℕ))
  news = take first olds ++ (fresh ++ drop last olds)

  again : joined (fresh ++ drop last olds) ≡ begun ++ (ins ++ drop (at + del) (joined olds))
  again = joined_append fresh (drop last olds) ∙ met ∙ tailed ∙ append_assoc begun ins (drop (at + del) (joined olds))

  again_are : AreChunks (fresh ++ drop last olds) None
  again_are = are_chunks_append fresh (drop last olds) None chunks (are_chunks_right (take last olds) (drop last olds) None (subst (λ x. AreChunks x None) (sym (take-append-drop last olds)) are))

  pub joined_news : joined news ≡ spliced at del ins (joined olds)
  joined_news =
      joined_append (take first olds) (fresh ++ drop last olds)
      ∙ ap (λ x. joined (take first olds) ++ x) again
      ∙ sym (append_assoc (joined (take first olds)) begun (ins ++ drop (at + del) (joined olds)))
      ∙ ap (λ x. x ++ (ins ++ drop (at + del) (joined olds))) headed

  pub news_are : AreChunks news None
  news_are = are_chunks_append (take first olds) (fresh ++ drop last olds) None
      (subst (λ n. AreChunks (take first olds) n) (sym (ap (first_or None) again))
      (prefix olds first at begun (ins ++ drop (at + del) (joined olds)) are (omega arith) headed begins holds))
      again_are

  -- the central fact
  pub news_is : news ≡ chunks_of (spliced at del ins (joined olds))
  news_is = sym (chunks_all news news_are) ∙ ap chunks_of joined_news

  behind : (prefix rest : List (List (List ℕ))) (q k : ℕ) → reach q (prefix ++ rest) ≡ length (joined prefix) + k → (p : ℕ) × (reach p rest ≡ k)
  behind [] rest q k e = (q, (let f : reach q rest ≡ k = omega arith in f))
  behind (c ∷ cs) rest zero k e = (0, (let f : 0 ≡ k = omega arith in f))
  behind (c ∷ cs) rest (suc q) k e =
      let f = length-append c (joined (take q (cs ++ rest))) in
      let g = length-append c (joined cs) in
      behind cs rest q k (omega arith)

  pub least : ((g : ℕ) → g < place → reach g olds < at + del) → NoMeeting olds place last (chunks_of (fed ++ joined (drop place olds))) (length fed)
      → (g q : ℕ) → first + g < last → at + del ≤ reach (first + g) olds → reach q news + del ≡ reach (first + g) olds + length ins → ⊥
  least before apart g q l m meets =
      let s1 = ap length headed in
      let s2 = length-append (joined (take first olds)) begun in
      let s3 = length-take-le at (joined olds) (omega arith) in
      let s4 = ap length tailed in
      let s5 = length-append fed (joined (drop place olds)) in
      let s6 = length-append (begun ++ ins) (drop (at + del) (joined olds)) in
      let s7 = length-append begun ins in
      let s8 = length-drop (at + del) (joined olds) in
      let s9 = reach_split place olds in
      let cut : chunks_of (fed ++ joined (drop place olds)) ≡ fresh ++ drop last olds =
      ap chunks_of (sym met ∙ sym (joined_append fresh (drop last olds))) ∙ chunks_all (fresh ++ drop last olds) again_are in
      let late : place ≤ first + g = not_before (first + g) place (reach (first + g) olds) (at + del) (before (first + g)) m in
      let sum : reach q news ≡ length (joined (take first olds)) + (reach q news - length (joined (take first olds))) = omega arith in
      let found = behind (take first olds) (fresh ++ drop last olds) q (reach q news - length (joined (take first olds))) sum in
      let here : reach found.0 (fresh ++ drop last olds) ≡ reach q news - length (joined (take first olds)) = found.1 in
      let same : reach found.0 (chunks_of (fed ++ joined (drop place olds))) ≡ reach found.0 (fresh ++ drop last olds) = ap (reach found.0) cut in
      apart (first + g) found.0 late l (omega arith)

pub spliced_size : (at del : ℕ) (ins rs : List (List ℕ)) → at + del ≤ length rs → length (spliced at del ins rs) + del ≡ length rs + length ins
spliced_size at del ins rs l =
    let a = length-append (take at rs) (ins ++ drop (at + del) rs) in
    let b = length-append ins (drop (at + del) rs) in
    let d = length-drop (at + del) rs in
    let e = length-take-le at rs (omega arith) in
    omega arith

pub change_of : (olds fresh news : List (List (List ℕ))) (first last at del : ℕ) (ins : List (List ℕ)) → news ≡ take first olds ++ (fresh ++ drop last olds)
    → news ≡ chunks_of (spliced at del ins (joined olds)) → at + del ≤ length (joined olds) → last ≤ length olds → IsRecut at del ins olds (take first olds ++ (fresh ++ drop last olds)) first last
    → IsChange at del ins olds news (record { first = first; gone = last - first; fresh = length fresh })
change_of olds fresh news first last at del ins is cut within bound h =
    let order : first ≤ last = h.ordered in
    let e : first + (last - first) ≡ last = omega arith in
    let e' : last ≡ first + (last - first) = sym e in
    let size = ap (λ x. length (joined x)) cut ∙ ap length (joined_chunks (spliced at del ins (joined olds))) in
    let splice = spliced_size at del ins (joined olds) within in
    let parts = length-append (take first olds) fresh in
    let f = length-take-le first olds (omega arith) in
    let shared : reach (first + length fresh) news ≡ length (joined (take first olds ++ fresh)) =
    ap (reach (first + length fresh)) (is ∙ sym (append_assoc (take first olds) fresh (drop last olds))) ∙ ap (λ x. length (joined x)) (take_at (take first olds ++ fresh) (drop last olds) (first + length fresh) (omega arith)) in
    let all = ap (λ x. length (joined x)) (is ∙ sym (append_assoc (take first olds) fresh (drop last olds))) in
    let all2 = ap length (joined_append (take first olds ++ fresh) (drop last olds)) ∙ length-append (joined (take first olds ++ fresh)) (joined (drop last olds)) in
    let split = reach_split last olds in
    let end : reach (first + (last - first)) olds ≡ reach last olds = ap (λ k. reach k olds) e in
    let far : at + del ≤ reach last olds = h.far in
    record {
      begins = h.begins;
      holds = h.holds;
      far = omega arith;
      meets = omega arith;
      least = λ g q l m n. h.least g q (omega arith) m (ap (λ x. reach q x + del) (sym is) ∙ n);
    }

-- the shared chunks are the old ones
pub splice_of : (olds fresh news : List (List (List ℕ))) (first last : ℕ) → news ≡ take first olds ++ (fresh ++ drop last olds) → first ≤ last → last ≤ length olds
    → IsSplice olds news (record { first = first; gone = last - first; fresh = length fresh })
splice_of olds fresh news first last is order bound =
    let e : first + (last - first) ≡ last = omega arith in
    let f = length-take-le first olds (omega arith) in
    let g = length-append (take first olds) fresh in
    let h = length-append (take first olds) (fresh ++ drop last olds) in
    let k = length-append fresh (drop last olds) in
    let size = ap length is in
    record {
      within = omega arith;
      fits = omega arith;
      before = ap (take first) is ∙ take_at (take first olds) (fresh ++ drop last olds) first f;
      behind = ap (drop (first + length fresh)) (is ∙ sym (append_assoc (take first olds) fresh (drop last olds)))
          ∙ drop_at (take first olds ++ fresh) (drop last olds) (first + length fresh) (omega arith)
          ∙ ap (λ n. drop n olds) (sym e);
    }
