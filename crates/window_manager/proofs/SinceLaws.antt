-- How a window of any kind leads on from the leaves of the last run.
use Rattle.std.proofs.Common.{◌≡◌, ◌≢◌, ℕ, zero, suc, ◌+◌, ◌-◌, ◌<◌, ◌≤◌, Bool, true, false, List, [], ◌∷◌, ◌++◌, length, take, drop, get_or, refl, sym, ap, ◌∙◌, subst, arith, length-drop, length-take, take-append-drop, append_assoc}
use Rattle.std.specs.Prelude.{All, map, min, nat_lt, if◌then◌else◌, slice_set, Ok}
use Rattle.std.specs.declared.option.Option.TheVariants.{None}
use Rattle.std.specs.List.Sorted.{IsStrictlyIncreasing}
use Rattle.std.proofs.lemmas.Bool.Decides.{nat_tests}
use Rattle.std.proofs.Math.Seq.{drop-append_seam, take-append_seam}
use Rattle.std.proofs.lemmas.List.{drop-drop, get_or-drop, get_or-take, get_or_append_left, length-append, length-map, take-append-le, take_all}
use Rattle.std.proofs.lemmas.List.Elements.{All-tail}
use Rattle.chunk_store.specs.Documents.{IsSplice}
use Rattle.record_text.specs.Shifts.{FitsShift, IsSlideOf, brought, first_after, put_at, shifted}
use Rattle.record_text.specs.declared.kind.Kind.{Kind}
use Rattle.record_text.specs.declared.kind.Kind.TheVariants as Kinds
use Rattle.record_text.specs.declared.shift.Shift.{Shift}
use Rattle.record_text.specs.declared.shift.Shift.TheVariants.{Slide, Splice}
use Rattle.window_manager.specs.Windows.{Leaf}
use Rattle.window_manager.specs.Slides.{Slid, slide_of}
use Rattle.window_manager.specs.Splices.{Leads}
use Rattle.window_manager.specs.Views.{WindowView, shift_by, shift_of}
use Rattle.window_manager.specs.Since.{IsSince, fresh_leaves}
use Rattle.window_manager.proofs.SlideLaws.{Follows, Lacks, put_length, put_other, put_same}

-- what a kind of buckets adds: a circle drops a bucket only if it is full, and a growing window drops none
abbrev pub KindAdds : Kind → ℕ → ℕ → ℕ → ℕ → Slid → Type 0
KindAdds Kinds.Buckets places first old count s = Unit {0}
KindAdds Kinds.Circle places first old count s = (count ≤ places) × (count - s.fresh < old → count ≡ places)
KindAdds Kinds.Growing places first old count s = (old ≤ count - s.fresh) × (s.late ≡ []) × (s.accepted - count ≡ first)
KindAdds Kinds.Document places first old count s = ⊥

pub map_same : {X : Type 0} (f g : ℕ → X) (ps : List ℕ) → All (λ p. f p ≡ g p) ps → map f ps ≡ map g ps
map_same f g [] all = refl
map_same f g (p ∷ ps) all = λ i. all 0 0 (omega arith) i ∷ map_same f g ps (All-tail (λ q. f q ≡ g q) p ps all) i

put_more : {X : Type 0} (f : ℕ → X) (ps : List ℕ) (ys xs : List X) → put_at ps (map f ps ++ ys) xs ≡ put_at ps (map f ps) xs
put_more f [] ys xs = refl
put_more f (p ∷ ps) ys xs = put_more f ps ys (slice_set xs p (f p))

-- a slide of the buckets `now` from the buckets `olds`
module _ {X : Type 0} (none : X) (olds now : List X) (late : List ℕ) (number gone fresh : ℕ) where
  abbrev read : ℕ → X
  read p = get_or now p none

  brings_many : length (brought none (Slide number gone late fresh) now) ≡ length late + (length now - (length now - fresh))
  brings_many = omega (arith, length-append (map read late) (drop (length now - fresh) now), length-map late read, length-drop (length now - fresh) now)

  brings : drop (length late) (brought none (Slide number gone late fresh) now) ≡ drop (length now - fresh) now
  brings =
      ap (λ (n : ℕ). drop n (brought none (Slide number gone late fresh) now)) (sym (length-map late read))
      ∙ drop-append_seam (map read late) (drop (length now - fresh) now)

  leads_to : fresh ≤ length now → gone + (length now - fresh) ≡ length olds → All (λ p. p < length now - fresh) late → ((i : ℕ) → i < length now - fresh → Lacks i late → read i ≡ get_or olds (gone + i) none)
      → now ≡ shifted (Slide number gone late fresh) (brought none (Slide number gone late fresh) now) olds
  leads_to fresh_in count late_in same =
      let k : ℕ = length now - fresh in
      let here : length (take k now) ≡ k = omega (arith, length-take k now) in
      let there : length (drop gone olds) ≡ k = omega (arith, length-drop gone olds, count) in
      let put : take k now ≡ put_at late (map (λ p. get_or (take k now) p none) late) (drop gone olds) =
      put_same none late (take k now) (drop gone olds) (here ∙ sym there)
      (λ i lt out. let l : i < k = omega (arith, here, lt) in get_or-take k now i none l ∙ same i l out ∙ sym (get_or-drop gone olds i none))
      in
      let reads : map (λ p. get_or (take k now) p none) late ≡ map read late = map_same (λ p. get_or (take k now) p none) read late (λ j d h. get_or-take k now (get_or late j d) none (late_in j d h)) in
      sym (take-append-drop k now)
      ∙ ap (λ (l : List X). l ++ drop k now) (put ∙ ap (λ (l : List X). put_at late l (drop gone olds)) reads ∙ sym (put_more read late (drop k now) (drop gone olds)))
      ∙ ap (λ (l : List X). put_at late (brought none (Slide number gone late fresh) now) (drop gone olds) ++ l) (sym brings)

  module _ (leads : now ≡ shifted (Slide number gone late fresh) (brought none (Slide number gone late fresh) now) olds) where
    length_of : length now ≡ (length olds - gone) + (length now - (length now - fresh))
    length_of =
        let news : List X = brought none (Slide number gone late fresh) now in
        omega (
          arith,
          ap (λ (l : List X). length l) leads,
          length-append (put_at late news (drop gone olds)) (drop (length late) news),
          put_length none late news (drop gone olds),
          length-drop gone olds,
          ap (λ (l : List X). length l) brings,
          length-drop (length now - fresh) now,
        )

    leads_same : (i : ℕ) → i < length olds - gone → Lacks i late → read i ≡ get_or olds (gone + i) none
    leads_same i lt out =
        let news : List X = brought none (Slide number gone late fresh) now in
        ap (λ (l : List X). get_or l i none) leads
        ∙ get_or_append_left (put_at late news (drop gone olds)) (drop (length late) news) none i (omega (arith, put_length none late news (drop gone olds), length-drop gone olds, lt))
        ∙ put_other none late news (drop gone olds) i out
        ∙ get_or-drop gone olds i none

-- what a slide says of the numbers, and back
module _ {X : Type 0} (none : X) (first : ℕ) (olds now : List X) (s : Slid) where
  abbrev pub slide : Shift
  slide = slide_of (length now) s

  pub follows_slide : s.stood ≡ length olds → length now ≤ s.accepted → now ≡ shifted slide (brought none slide now) olds
      → IsSlideOf first (length olds) (length (brought none slide now)) (s.accepted - length now) (s.stood - (length now - s.fresh)) s.late s.fresh → Follows none first olds now s
  follows_slide stood counted leads is =
      let gone : ℕ = s.stood - (length now - s.fresh) in
      let number : ℕ = s.accepted - length now in
      let many = brings_many none olds now s.late number gone s.fresh in
      let count = length_of none olds now s.late number gone s.fresh leads in
      let fresh_in : s.fresh ≤ length now = omega (arith, many, is.news_are) in
      let kept : length now - s.fresh ≤ length olds = omega (arith, count, fresh_in) in
      let k : length olds - gone ≡ length now - s.fresh = omega (arith, kept, stood) in
      record {
        fresh_in = fresh_in;
        counted = counted;
        stood_is = stood;
        kept = kept;
        after = let a = is.first_then in omega (arith, stood, a);
        exact = λ some. let e = is.first_is (omega (arith, some, stood, kept)) in omega (arith, stood, e);
        late_in = subst (λ (m : ℕ). All (λ p. p < m) s.late) k is.places_are;
        rising = is.rising;
        same = λ i lt out.
            leads_same none olds now s.late number gone s.fresh leads i (omega (arith, k, lt)) out
            ∙ ap (λ (m : ℕ). get_or olds (m - (length now - s.fresh) + i) none) stood;
      }

  module _ (f : Follows none first olds now s) where
    pub slide_leads : now ≡ shifted slide (brought none slide now) olds
    slide_leads =
        leads_to none olds now s.late (s.accepted - length now) (s.stood - (length now - s.fresh)) s.fresh f.fresh_in (omega (arith, f.stood_is, f.kept)) f.late_in
        (λ i lt out. f.same i lt out ∙ ap (λ (m : ℕ). get_or olds (m - (length now - s.fresh) + i) none) (sym f.stood_is))

    pub slide_is : IsSlideOf first (length olds) (length (brought none slide now)) (s.accepted - length now) (s.stood - (length now - s.fresh)) s.late s.fresh
    slide_is =
        let k : length now - s.fresh ≡ length olds - (s.stood - (length now - s.fresh)) = omega (arith, f.stood_is, f.kept) in
        record {
          within = omega (arith, f.stood_is);
          first_then = omega (arith, f.stood_is, f.after);
          first_is = λ lt. let e = f.exact (omega (arith, lt, f.stood_is)) in omega (arith, f.stood_is, e);
          news_are = omega (arith, brings_many none olds now s.late (s.accepted - length now) (s.stood - (length now - s.fresh)) s.fresh, f.fresh_in);
          places_are = subst (λ (m : ℕ). All (λ p. p < m) s.late) k f.late_in;
          rising = f.rising;
        }

-- the shift of buckets is their slide
by_slide : (kind : Kind) (count : ℕ) (s : Slid) (splice : Shift) → kind ≢ Kinds.Document → shift_by kind count s splice ≡ slide_of count s
by_slide Kinds.Buckets count s splice other = refl
by_slide Kinds.Circle count s splice other = refl
by_slide Kinds.Growing count s splice other = refl
by_slide Kinds.Document count s splice other = absurd (other refl)

module _ (places first number gone fresh news : ℕ) (late : List ℕ) (count : ℕ) where
  slide_fits : (kind : Kind) → kind ≢ Kinds.Document → FitsShift kind places first count news (Slide number gone late fresh) → IsSlideOf first count news number gone late fresh
  slide_fits Kinds.Buckets other is = is
  slide_fits Kinds.Circle other is = is.0
  slide_fits Kinds.Growing other is = is.0
  slide_fits Kinds.Document other is = absurd (other refl)

module _ (first : ℕ) (olds now : List Leaf) (s : Slid) (places news : ℕ) (f : Follows [] first olds now s) where
  keeps : (kind : Kind) → kind ≢ Kinds.Document → FitsShift kind places first (length olds) news (slide_of (length now) s) → KindAdds kind places first (length olds) (length now) s
  keeps Kinds.Buckets other is = tt
  keeps Kinds.Circle other is = (
    let a = is.1 in omega (arith, a, f.stood_is, f.kept, f.fresh_in),
    λ lt. let e = is.2 (omega (arith, lt, f.stood_is)) in omega (arith, e, f.stood_is, f.kept, f.fresh_in),
  )
  keeps Kinds.Growing other is = (let e = is.1 in omega (arith, e, f.stood_is), is.2, is.3)
  keeps Kinds.Document other is = absurd (other refl)

  fits_by : (kind : Kind) → KindAdds kind places first (length olds) (length now) s → IsSlideOf first (length olds) news (s.accepted - length now) (s.stood - (length now - s.fresh)) s.late s.fresh → FitsShift kind places first (length olds) news (slide_of (length now) s)
  fits_by Kinds.Buckets k is = is
  fits_by Kinds.Circle k is = (
    is,
    let a = k.0 in omega (arith, a, f.stood_is, f.kept, f.fresh_in),
    λ lt. let e = k.1 (omega (arith, lt, f.stood_is, f.kept)) in omega (arith, e, f.stood_is, f.kept, f.fresh_in),
  )
  fits_by Kinds.Growing k is = (is, let a = k.0 in omega (arith, a, f.stood_is), k.1, k.2)
  fits_by Kinds.Document k is = absurd k

-- what a window's shift is known to be says how the window leads on
since_by : (first : ℕ) (olds : List Leaf) (w : WindowView) (shift : Shift) → shift_of w ≡ shift
    → w.window.leaves ≡ shifted shift (brought [] shift w.window.leaves) olds → FitsShift w.window.kind w.window.places first (length olds) (length (brought [] shift w.window.leaves)) shift
    → w.slid.stood ≡ length olds → (w.window.kind ≢ Kinds.Document → length w.window.leaves ≤ w.slid.accepted) → IsSince first olds w
since_by first olds w shift e leads fits stood counted = record {
  leads = subst (λ (t : Shift). w.window.leaves ≡ shifted t (brought [] t w.window.leaves) olds) (sym e) leads;
  fits = subst (λ (t : Shift). FitsShift w.window.kind w.window.places first (length olds) (length (brought [] t w.window.leaves)) t) (sym e) fits;
  stood = stood;
  counted = counted;
}

module _ (first : ℕ) (olds : List Leaf) (w : WindowView) (other : w.window.kind ≢ Kinds.Document) where
  abbrev pub now : List Leaf
  now = w.window.leaves

  pub slides : shift_of w ≡ slide_of (length now) w.slid
  slides = by_slide w.window.kind (length now) w.slid w.splice other

  -- buckets that lead on are as their slide says, and back
  pub since_follows : IsSince first olds w → Follows [] first olds now w.slid × KindAdds w.window.kind w.window.places first (length olds) (length now) w.slid
  since_follows since =
      let s : Slid = w.slid in
      let leads = subst (λ (t : Shift). now ≡ shifted t (brought [] t now) olds) slides since.leads in
      let fits = subst (λ (t : Shift). FitsShift w.window.kind w.window.places first (length olds) (length (brought [] t now)) t) slides since.fits in
      let news : ℕ = length (brought [] (slide_of (length now) s) now) in
      let is = slide_fits w.window.places first (s.accepted - length now) (s.stood - (length now - s.fresh)) s.fresh news s.late (length olds) w.window.kind other fits in
      let f = follows_slide [] first olds now s since.stood (since.counted other) leads is in
      (f, keeps first olds now s w.window.places news f w.window.kind other fits)

  pub follows_since : Follows [] first olds now w.slid → KindAdds w.window.kind w.window.places first (length olds) (length now) w.slid → IsSince first olds w
  follows_since f k =
      let s : Slid = w.slid in
      since_by first olds w (slide_of (length now) s) slides (slide_leads [] first olds now s f)
      (fits_by first olds now s w.window.places (length (brought [] (slide_of (length now) s) now)) f w.window.kind k (slide_is [] first olds now s f))
      f.stood_is (λ _. f.counted)

-- a document that leads on is as its splice says, and back
module _ (olds now : List Leaf) (first gone fresh : ℕ) where
  splice_leads : IsSplice olds now (record { first = first; gone = gone; fresh = fresh }) → now ≡ shifted (Splice first gone fresh) (brought [] (Splice first gone fresh) now) olds
  splice_leads is =
      sym (take-append-drop first now) ∙ (λ i. is.before i ++ sym (take-append-drop fresh (drop first now)) i)
      ∙ ap (λ (l : List Leaf). take first olds ++ (take fresh (drop first now) ++ l)) (drop-drop fresh first now ∙ is.behind)
      ∙ sym (append_assoc (take first olds) (take fresh (drop first now)) (drop (first + gone) olds))

  splice_many : IsSplice olds now (record { first = first; gone = gone; fresh = fresh }) → fresh ≡ length (take fresh (drop first now))
  splice_many is = let a = is.fits in omega (arith, length-take fresh (drop first now), length-drop first now, a)

  splice_is : first + gone ≤ length olds → fresh ≡ length (take fresh (drop first now)) → now ≡ shifted (Splice first gone fresh) (brought [] (Splice first gone fresh) now) olds → IsSplice olds now (record { first = first; gone = gone; fresh = fresh })
  splice_is within many leads =
      let a : List Leaf = take first olds in
      let b : List Leaf = take fresh (drop first now) in
      let c : List Leaf = drop (first + gone) olds in
      let before : length a ≡ first = omega (arith, length-take first olds, within) in
      let both : length (a ++ b) ≡ first + fresh = omega (arith, length-append a b, before, many) in
      record {
        within = within;
        fits = omega (arith, ap (λ (l : List Leaf). length l) leads, length-append (a ++ b) c, both);
        before = ap (λ (l : List Leaf). take first l) (leads ∙ append_assoc a b c) ∙ ap (λ (n : ℕ). take n (a ++ (b ++ c))) (sym before) ∙ take-append_seam a (b ++ c);
        behind = ap (λ (l : List Leaf). drop (first + fresh) l) leads ∙ ap (λ (n : ℕ). drop n ((a ++ b) ++ c)) (sym both) ∙ drop-append_seam (a ++ b) c;
      }

module _ (first : ℕ) (olds : List Leaf) (w : WindowView) (document : w.window.kind ≡ Kinds.Document) where
  spliced_is : shift_of w ≡ w.splice
  spliced_is = ap (λ (k : Kind). shift_by k (length w.window.leaves) w.slid w.splice) document

  led_by : (places news : ℕ) (splice : Shift) → w.window.leaves ≡ shifted splice (brought [] splice w.window.leaves) olds → FitsShift Kinds.Document places first (length olds) (length (brought [] splice w.window.leaves)) splice → Leads olds w.window.leaves splice
  led_by places news (Splice at gone fresh) leads fits = splice_is olds w.window.leaves at gone fresh fits.0 fits.1 leads
  led_by places news (Slide number gone late fresh) leads fits = absurd fits

  pub since_led : IsSince first olds w → Leads olds w.window.leaves w.splice
  since_led since =
      led_by w.window.places 0 w.splice (subst (λ (t : Shift). w.window.leaves ≡ shifted t (brought [] t w.window.leaves) olds) spliced_is since.leads)
      (subst (λ (k : Kind). FitsShift k w.window.places first (length olds) (length (brought [] w.splice w.window.leaves)) w.splice) document
      (subst (λ (t : Shift). FitsShift w.window.kind w.window.places first (length olds) (length (brought [] t w.window.leaves)) t) spliced_is since.fits))

  leads_by : (splice : Shift) → Leads olds w.window.leaves splice → w.window.leaves ≡ shifted splice (brought [] splice w.window.leaves) olds
  leads_by (Splice at gone fresh) is = splice_leads olds w.window.leaves at gone fresh is
  leads_by (Slide number gone late fresh) is = absurd is

  fits_led : (splice : Shift) → Leads olds w.window.leaves splice → FitsShift Kinds.Document w.window.places first (length olds) (length (brought [] splice w.window.leaves)) splice
  fits_led (Splice at gone fresh) is = (is.within, splice_many olds w.window.leaves at gone fresh is)
  fits_led (Slide number gone late fresh) is = absurd is

  pub led_since : Leads olds w.window.leaves w.splice → w.slid.stood ≡ length olds → IsSince first olds w
  led_since is stood =
      since_by first olds w w.splice spliced_is (leads_by w.splice is)
      (subst (λ (k : Kind). FitsShift k w.window.places first (length olds) (length (brought [] w.splice w.window.leaves)) w.splice) (sym document) (fits_led w.splice is))
      stood (λ other. absurd (other document))
