-- Pins that are given up for others: one trade after another, and in addition to pins that stay.
use Rattle.std.proofs.Common.{◌≡◌, ℕ, ◌+◌, List, [], ◌∷◌, ◌++◌, refl, sym, ap, subst, ◌∙◌, append-nil, append_assoc, arith}
use Rattle.pin_table.specs.Views.{CallerView}
use Rattle.pin_table.specs.Covers.{PinName, AreGiven, Covered, Balanced, Got, IsLater, count}
use Rattle.pin_table.proofs.Covering.{balanced-then, balanced-beside, balanced-before, balanced-same, balanced-from, got-balanced, all-given-later, given-append, given-left, given-right, covered-then, covered-none, count-append}
use Rattle.tree_laws.specs.Trades.{Trades}

pub trades-same : (v : CallerView) (ps : List PinName) → Trades v ps v ps
trades-same v ps = record { balanced = balanced-same v ps; given = λ g. g }

pub trades-then : (u v w : CallerView) (ps qs rs : List PinName) → Trades u ps v qs → Trades v qs w rs → Trades u ps w rs
trades-then u v w ps qs rs a b = record { balanced = balanced-then u v w ps qs rs a.balanced b.balanced; given = λ g. b.given (a.given g) }

-- In addition to pins that stay.
pub trades-beside : (v w : CallerView) (os ps qs : List PinName) → Trades v ps w qs → Trades v (os ++ ps) w (os ++ qs)
trades-beside v w os ps qs a = record {
  balanced = balanced-beside v w os ps qs a.balanced;
  given = λ g. given-append w os qs (all-given-later v w os a.balanced.later (given-left v os ps g)) (a.given (given-right v os ps g));
}

pub trades-before : (v w : CallerView) (os ps qs : List PinName) → Trades v ps w qs → Trades v (ps ++ os) w (qs ++ os)
trades-before v w os ps qs a = record {
  balanced = balanced-before v w os ps qs a.balanced;
  given = λ g. given-append w qs os (a.given (given-left v ps os g)) (all-given-later v w os a.balanced.later (given-right v ps os g));
}

-- Two trades, each with its own pins.
pub trades-both : (u v w : CallerView) (ps qs rs ss : List PinName) → Trades u ps v rs → Trades v qs w ss → Trades u (ps ++ qs) w (rs ++ ss)
trades-both u v w ps qs rs ss a b = trades-then u v w (ps ++ qs) (rs ++ qs) (rs ++ ss) (trades-before u v qs ps rs a) (trades-beside v w rs qs ss b)

pub trades-covered : (v w : CallerView) (ps qs : List PinName) → Trades v ps w qs → Covered v ps → Covered w qs
trades-covered v w ps qs t c = covered-then v w ps qs c t.balanced (t.given c.given)

-- New pins are traded for nothing.
pub trades-got : (v w : CallerView) (ps : List PinName) → Got v ps w → AreGiven w ps → Trades v [] w ps
trades-got v w ps got given = record { balanced = got-balanced v w [] ps got; given = λ _. given }

pub got-covered_all : (v w : CallerView) (ps : List PinName) → Trades v [] w ps → Covered w ps
got-covered_all v w ps t = trades-covered v w [] ps t (covered-none v)

-- Pins that are given up are traded for nothing.
pub trades-gone : (v w : CallerView) (ps : List PinName) → ((qs : List PinName) → Balanced v (ps ++ qs) w qs) → Trades v ps w []
trades-gone v w ps b = record { balanced = subst (λ (qs : List PinName). Balanced v qs w []) (append-nil ps) (b []); given = λ _. tt }

pub trades-first : (v w : CallerView) (ps rest : List PinName) → ((qs : List PinName) → Balanced v (ps ++ qs) w qs) → Trades v (ps ++ rest) w rest
trades-first v w ps rest b = trades-before v w rest ps [] (trades-gone v w ps b)

pub trades-last : (v w : CallerView) (ps rest : List PinName) → ((qs : List PinName) → Balanced v (ps ++ qs) w qs) → Trades v (rest ++ ps) w rest
trades-last v w ps rest b = subst (λ (qs : List PinName). Trades v (rest ++ ps) w qs) (append-nil rest) (trades-beside v w rest ps [] (trades-gone v w ps b))

-- Pins between others are replaced by the last ones.
pub trades-between : (v w : CallerView) (hs ps bs cs ds qs : List PinName) → Trades v (ps ++ ds) w qs → Trades v ((hs ++ (ps ++ bs)) ++ (cs ++ ds)) w ((hs ++ (qs ++ bs)) ++ cs)
trades-between v w hs ps bs cs ds qs t =
    let later = t.balanced.later in
    let lefts : (xs ys zs : List PinName) (s id : ℕ) → count s id ((hs ++ (xs ++ bs)) ++ (cs ++ ys)) ≡ count s id ((hs ++ (bs ++ cs)) ++ (xs ++ ys)) = λ xs ys zs s id.
    let a = count-append s id (hs ++ (xs ++ bs)) (cs ++ ys) in
    let b = count-append s id hs (xs ++ bs) in
    let c = count-append s id xs bs in
    let d = count-append s id cs ys in
    let e = count-append s id (hs ++ (bs ++ cs)) (xs ++ ys) in
    let f = count-append s id hs (bs ++ cs) in
    let g = count-append s id bs cs in
    let h = count-append s id xs ys in
    omega (arith, a, b, c, d, e, f, g, h) in
    let rights : (s id : ℕ) → count s id ((hs ++ (qs ++ bs)) ++ cs) ≡ count s id ((hs ++ (bs ++ cs)) ++ qs) = λ s id.
    let a = count-append s id (hs ++ (qs ++ bs)) cs in
    let b = count-append s id hs (qs ++ bs) in
    let c = count-append s id qs bs in
    let e = count-append s id (hs ++ (bs ++ cs)) qs in
    let f = count-append s id hs (bs ++ cs) in
    let g = count-append s id bs cs in
    omega (arith, a, b, c, e, f, g) in
    record {
      balanced = record {
        later = later;
        least = λ s id. let x = (balanced-beside v w (hs ++ (bs ++ cs)) (ps ++ ds) qs t.balanced).least s id in let y = lefts ps ds [] s id in let z = rights s id in omega (arith, x, y, z);
        exact = λ s shown id. let x = (balanced-beside v w (hs ++ (bs ++ cs)) (ps ++ ds) qs t.balanced).exact s shown id in let y = lefts ps ds [] s id in let z = rights s id in omega (arith, x, y, z);
      };
      given = λ g.
          let front = given-left v (hs ++ (ps ++ bs)) (cs ++ ds) g in
          let back = given-right v (hs ++ (ps ++ bs)) (cs ++ ds) g in
          let mid = given-right v hs (ps ++ bs) front in
          let new = t.given (given-append v ps ds (given-left v ps bs mid) (given-right v cs ds back)) in
          given-append w (hs ++ (qs ++ bs)) cs
          (given-append w hs (qs ++ bs) (all-given-later v w hs later (given-left v hs (ps ++ bs) front)) (given-append w qs bs new (all-given-later v w bs later (given-right v ps bs mid))))
          (all-given-later v w cs later (given-left v cs ds back));
    }

-- A part of a cover.
pub covered-between : (v : CallerView) (hs ps bs cs ds : List PinName) → Covered v ((hs ++ (ps ++ bs)) ++ (cs ++ ds)) → Covered v (ps ++ ds)
covered-between v hs ps bs cs ds c =
    let front = given-left v (hs ++ (ps ++ bs)) (cs ++ ds) c.given in
    let back = given-right v (hs ++ (ps ++ bs)) (cs ++ ds) c.given in
    record {
      given = given-append v ps ds (given-left v ps bs (given-right v hs (ps ++ bs) front)) (given-right v cs ds back);
      held = λ s id.
          let x = c.held s id in
          let a = count-append s id (hs ++ (ps ++ bs)) (cs ++ ds) in
          let b = count-append s id hs (ps ++ bs) in
          let d = count-append s id ps bs in
          let e = count-append s id cs ds in
          let f = count-append s id ps ds in
          omega (arith, x, a, b, d, e, f);
    }

-- What stays covered in addition to replaced pins.
pub covered-rest : (u v : CallerView) (ps qs rs : List PinName) → Covered u (ps ++ qs) → Balanced u ps v rs → Covered v qs
covered-rest u v ps qs rs c b = record {
  given = all-given-later u v qs b.later (given-right u ps qs c.given);
  held = λ s id. let a = count-append s id ps qs in let h = c.held s id in let l = b.least s id in omega (arith, a, h, l);
}

-- Replaced pins, and then the pins after them.
pub balanced-both : (u v w : CallerView) (ps qs rs ss : List PinName) → Balanced u ps v rs → Balanced v qs w ss → Balanced u (ps ++ qs) w (rs ++ ss)
balanced-both u v w ps qs rs ss a b = balanced-then u v w (ps ++ qs) (rs ++ qs) (rs ++ ss) (balanced-before u v qs ps rs a) (balanced-beside v w rs qs ss b)
