-- How a window leads on after a command, after a run, and at its beginning.
use Rattle.std.proofs.Common.{◌≡◌, ◌≢◌, ℕ, zero, suc, ◌+◌, ◌-◌, ◌<◌, ◌≤◌, Bool, true, false, List, [], ◌∷◌, ◌++◌, length, take, drop, get_or, refl, sym, ap, ◌∙◌, subst, arith, length-drop}
use Rattle.std.specs.Prelude.{All, min, nat_lt, if◌then◌else◌, slice_set, Ok, Err, Option, Result}
use Rattle.std.specs.declared.option.Option.TheVariants.{Some, None}
use Rattle.std.proofs.lemmas.Bool.Decides.{nat_tests}
use Rattle.std.proofs.lemmas.List.{length-append}
use Rattle.chunk_store.specs.Documents.{IsSplice}
use Rattle.record_text.specs.Shifts.{first_after}
use Rattle.record_text.specs.declared.command.Command.{Command}
use Rattle.record_text.specs.declared.command.Command.TheVariants.{Bucket, Drop, Late, File, Remove, Edit, Load, Run}
use Rattle.record_text.specs.declared.kind.Kind.{Kind}
use Rattle.record_text.specs.declared.kind.Kind.TheVariants as Kinds
use Rattle.record_text.specs.declared.shift.Shift.{Shift}
use Rattle.record_text.specs.declared.shift.Shift.TheVariants.{Slide, Splice}
use Rattle.window_manager.specs.Windows.{Leaf, WindowState, asks_too_many, brought, first_refused, has_command, is_large, refusal_of, window_after, with_late, with_leaf}
use Rattle.window_manager.specs.Slides.{Slid, late_after, lowered, not_slid, slid_after, slid_anew, with_place}
use Rattle.window_manager.specs.Buckets.{Applied, BucketView, buckets_anew}
use Rattle.window_manager.specs.Splices.{DocumentView, Edits, Leads, document_anew, splice_after}
use Rattle.window_manager.specs.Views.{Done, FitsKind, IsDone, WindowView, no_leaves, shift_of, view_anew, view_of}
use Rattle.window_manager.specs.Since.{IsSince, LeadsOn, SinceAnew, SinceNew, SinceOn}
use Rattle.window_manager.specs.declared.fault.WindowFault.{WindowFault}
use Rattle.window_manager.specs.declared.fault.WindowFault.TheVariants.{NotHere, TooMany, BadRecord, WindowLarge, Mem}
use Rattle.window_manager.specs.declared.content.Content.{Content}
use Rattle.window_manager.specs.declared.content.Content.TheVariants.{OfBuckets, OfDocument}
use Rattle.window_manager.proofs.BucketLaws.{IsOther, other_has}
use Rattle.window_manager.proofs.DocumentLaws.{by_tests, not_none}
use Rattle.window_manager.proofs.JoinLaws.{splices_join}
use Rattle.window_manager.proofs.SlideLaws.{Follows, dropped, pushed, follows_drop, follows_fresh, follows_late, follows_push}
use Rattle.window_manager.proofs.SinceLaws.{KindAdds, follows_since, slides, led_since, since_follows, since_led}
use Rattle.window_manager.proofs.TextLaws.{count_late, late_nothing}
use Rattle.window_manager.proofs.ViewLaws.{done_buckets, done_document, has, not_true}

few_if : (h m : Bool) (r : Option ℕ) (l : Bool) → by_tests h m r l ≡ None → m ≡ false
few_if false m r l e = absurd (not_none NotHere (sym e))
few_if true true r l e = absurd (not_none TooMany (sym e))
few_if true false r l e = refl

-- a command that is not refused asks for no more than there is
few : (accepts : List ℕ → Bool) (w : WindowState) (c : Command) → refusal_of accepts w c ≡ None → asks_too_many w c ≡ false
few accepts w c e = few_if (has_command w.kind c) (asks_too_many w c) (first_refused accepts (brought c)) (is_large (window_after w c)) e

-- a kind of buckets is none of documents
abbrev IsOfLeaves : Kind → Type 0
IsOfLeaves Kinds.Document = ⊥
IsOfLeaves kind = Unit {0}

not_document : (kind : Kind) → kind ≡ Kinds.Document → IsOfLeaves kind → ⊥
not_document kind e is = subst IsOfLeaves e is

-- how many buckets leave when one comes
abbrev going : Kind → ℕ → List Leaf → Leaf → ℕ
going kind places leaves leaf = length leaves + 1 - length (with_leaf kind places leaves leaf)

one_more : (leaves : List Leaf) (leaf : Leaf) → length (leaves ++ leaf ∷ []) ≡ length leaves + 1
one_more leaves leaf = length-append leaves (leaf ∷ [])

none_goes : (leaves : List Leaf) (leaf : Leaf) → 0 ≡ length leaves + 1 - length (leaves ++ leaf ∷ [])
none_goes leaves leaf = omega (arith, one_more leaves leaf)

with_leaf_drops : (kind : Kind) (places : ℕ) (leaves : List Leaf) (leaf : Leaf) → with_leaf kind places leaves leaf ≡ drop (going kind places leaves leaf) (leaves ++ leaf ∷ [])
with_leaf_drops Kinds.Buckets places leaves leaf = ap (λ (n : ℕ). drop n (leaves ++ leaf ∷ [])) (none_goes leaves leaf)
with_leaf_drops Kinds.Growing places leaves leaf = ap (λ (n : ℕ). drop n (leaves ++ leaf ∷ [])) (none_goes leaves leaf)
with_leaf_drops Kinds.Document places leaves leaf = ap (λ (n : ℕ). drop n (leaves ++ leaf ∷ [])) (none_goes leaves leaf)
with_leaf_drops Kinds.Circle places leaves leaf =
    let all : List Leaf = leaves ++ leaf ∷ [] in
    let by : length all - places ≡ length leaves + 1 - length (drop (length all - places) all) = omega (arith, one_more leaves leaf, length-drop (length all - places) all) in
    ap (λ (n : ℕ). drop n all) by

-- a circle stays within its places, and drops a bucket only if it is full
keeps_push : (kind : Kind) (places first old : ℕ) (leaves : List Leaf) (leaf : Leaf) (s : Slid) → s.fresh ≤ length leaves → length leaves ≤ s.accepted → KindAdds kind places first old (length leaves) s
    → KindAdds kind places first old (length (with_leaf kind places leaves leaf)) (dropped (going kind places leaves leaf) (length (with_leaf kind places leaves leaf)) (pushed s))
keeps_push Kinds.Buckets places first old leaves leaf s le counted k = tt
keeps_push Kinds.Circle places first old leaves leaf s le counted k =
    let all : List Leaf = leaves ++ leaf ∷ [] in
    let n : length (drop (length all - places) all) ≡ min (length leaves + 1) places = omega (arith, one_more leaves leaf, length-drop (length all - places) all) in (
      omega (arith, n),
      λ lt. keeps_full (nat_lt (length leaves) places) places old (length leaves) s (length (drop (length all - places) all)) refl n le k lt,
    )
  where
    keeps_full : (b : Bool) (places old count : ℕ) (s : Slid) (next : ℕ) → nat_lt count places ≡ b → next ≡ min (count + 1) places → s.fresh ≤ count → (count ≤ places) × (count - s.fresh < old → count ≡ places) → next - min (s.fresh + 1) next < old → next ≡ places
    keeps_full true places old count s next is n le k lt =
        let room : count < places = grind (arith, nat_tests) in
        let full : count ≡ places = k.1 (omega (arith, n, le, room, lt)) in
        absurd (omega (arith, room, full))
    keeps_full false places old count s next is n le k lt = let full : places ≤ count = grind (arith, nat_tests) in omega (arith, full, n)
keeps_push Kinds.Growing places first old leaves leaf s le counted k = (
  let a = k.0 in omega (arith, one_more leaves leaf, le, a),
  ap (lowered (length leaves + 1 - length (leaves ++ leaf ∷ []))) k.1,
  let e = k.2 in omega (arith, one_more leaves leaf, counted, e),
)
keeps_push Kinds.Document places first old leaves leaf s le counted k = absurd k

-- records come to a bucket
late_put : (place : ℕ) (more : List (List ℕ)) (leaves : List Leaf) → with_late place more leaves ≡ slice_set leaves place (get_or leaves place [] ++ more)
late_put place more [] = refl
late_put zero more (leaf ∷ leaves) = refl
late_put (suc place) more (leaf ∷ leaves) = ap (λ (ls : List Leaf). leaf ∷ ls) (late_put place more leaves)

keeps_late : (kind : Kind) (places first old count next : ℕ) (s : Slid) (late : List ℕ) → has_command kind (Late 0 []) ≡ true → next ≡ count → KindAdds kind places first old count s → KindAdds kind places first old next (record { accepted = s.accepted; stood = s.stood; fresh = s.fresh; late = late })
keeps_late Kinds.Buckets places first old count next s late here n k = tt
keeps_late Kinds.Circle places first old count next s late here n k = (
  let a = k.0 in omega (arith, n, a),
  λ lt. let e = k.1 (omega (arith, n, lt)) in omega (arith, n, e),
)
keeps_late Kinds.Growing places first old count next s late here n k = not_true here
keeps_late Kinds.Document places first old count next s late here n k = absurd k

late_here : (kind : Kind) (place : ℕ) (more : List (List ℕ)) → has_command kind (Late place more) ≡ true → has_command kind (Late 0 []) ≡ true
late_here Kinds.Buckets place more here = refl
late_here Kinds.Circle place more here = refl
late_here Kinds.Growing place more here = not_true here
late_here Kinds.Document place more here = not_true here

keeps_drop : (kind : Kind) (places first old count next n : ℕ) (s t : Slid) → has_command kind (Drop n) ≡ true → KindAdds kind places first old count s → KindAdds kind places first old next t
keeps_drop Kinds.Buckets places first old count next n s t here k = tt
keeps_drop Kinds.Circle places first old count next n s t here k = not_true here
keeps_drop Kinds.Growing places first old count next n s t here k = not_true here
keeps_drop Kinds.Document places first old count next n s t here k = absurd k

not_more : (n m : ℕ) → nat_lt n m ≡ false → m ≤ n
not_more n m is = grind (arith, nat_tests)

less : (n m : ℕ) → nat_lt n m ≡ true → n < m
less n m is = grind (arith, nat_tests)

module _ (first : ℕ) (olds : List Leaf) (w : WindowState) (s : Slid) (f : Follows [] first olds w.leaves s) where
  -- whether the bucket was there at the last run
  late_of : (b : Bool) (place : ℕ) (more : List (List ℕ)) → nat_lt place (length w.leaves - s.fresh) ≡ b
      → Follows [] first olds (with_late place more w.leaves) (record { accepted = s.accepted; stood = s.stood; fresh = s.fresh; late = if b then with_place place s.late else s.late })
  late_of true place more is =
      subst (λ (l : List Leaf). Follows [] first olds l (record { accepted = s.accepted; stood = s.stood; fresh = s.fresh; late = with_place place s.late })) (sym (late_put place more w.leaves))
      (follows_late [] first olds w.leaves s f place (get_or w.leaves place [] ++ more) (less place (length w.leaves - s.fresh) is))
  late_of false place more is =
      subst (λ (l : List Leaf). Follows [] first olds l s) (sym (late_put place more w.leaves))
      (follows_fresh [] first olds w.leaves s f place (get_or w.leaves place [] ++ more) (not_more place (length w.leaves - s.fresh) is))

  abbrev OnAfter : Command → Type 0
  OnAfter c = Follows [] first olds (window_after w c).leaves (slid_after w c s) × KindAdds w.kind w.places first (length olds) (length (window_after w c).leaves) (slid_after w c s)

  late_on : (place : ℕ) (more : List (List ℕ)) → Follows [] first olds (with_late place more w.leaves) (record { accepted = s.accepted; stood = s.stood; fresh = s.fresh; late = late_after (length w.leaves - s.fresh) place more s.late })
  late_on place [] = subst (λ (l : List Leaf). Follows [] first olds l s) (sym (late_nothing place w.leaves)) f
  late_on place (r ∷ rs) = late_of (nat_lt place (length w.leaves - s.fresh)) place (r ∷ rs) refl

  bucket_on : (leaf : Leaf) → Follows [] first olds (window_after w (Bucket leaf)).leaves (slid_after w (Bucket leaf) s)
  bucket_on leaf =
      let by : ℕ = going w.kind w.places w.leaves leaf in
      let all : List Leaf = w.leaves ++ leaf ∷ [] in
      subst (λ (l : List Leaf). Follows [] first olds l (dropped by (length l) (pushed s))) (sym (with_leaf_drops w.kind w.places w.leaves leaf))
      (follows_drop [] first olds all (pushed s) (follows_push [] first olds w.leaves s f leaf) by (omega (arith, one_more w.leaves leaf)))

  drop_on : (n : ℕ) → n ≤ length w.leaves → Follows [] first olds (window_after w (Drop n)).leaves (slid_after w (Drop n) s)
  drop_on n within = subst (λ (m : ℕ). Follows [] first olds (drop n w.leaves) (dropped n m s)) (length-drop n w.leaves) (follows_drop [] first olds w.leaves s f n within)

  pub buckets_on : w.kind ≢ Kinds.Document → KindAdds w.kind w.places first (length olds) (length w.leaves) s → (c : Command) → has_command w.kind c ≡ true → asks_too_many w c ≡ false → OnAfter c
  buckets_on other k (Bucket leaf) here few = (bucket_on leaf, keeps_push w.kind w.places first (length olds) w.leaves leaf s f.fresh_in f.counted k)
  buckets_on other k (Drop n) here few = (
    drop_on n (not_more (length w.leaves) n few),
    keeps_drop w.kind w.places first (length olds) (length w.leaves) (length (drop n w.leaves)) n s (slid_after w (Drop n) s) here k,
  )
  buckets_on other k (Late place more) here few = (
    late_on place more,
    keeps_late w.kind w.places first (length olds) (length w.leaves) (length (with_late place more w.leaves)) s (late_after (length w.leaves - s.fresh) place more s.late) (late_here w.kind place more here) (count_late place more w.leaves) k,
  )
  buckets_on other k (File name) here few = not_true (sym (other_has w.kind (File name) other tt) ∙ here)
  buckets_on other k (Remove name) here few = not_true (sym (other_has w.kind (Remove name) other tt) ∙ here)
  buckets_on other k (Edit at del ins) here few = not_true (sym (other_has w.kind (Edit at del ins) other tt) ∙ here)
  buckets_on other k (Load records) here few = not_true (sym (other_has w.kind (Load records) other tt) ∙ here)
  buckets_on other k Run here few = not_true (sym (other_has w.kind Run other tt) ∙ here)

-- a command keeps the number of the last run's leaves, and the kind
stood_stays : (w : WindowState) (c : Command) (s : Slid) → (slid_after w c s).stood ≡ s.stood
stood_stays w (Bucket records) s = refl
stood_stays w (Drop n) s = refl
stood_stays w (Late place more) s = refl
stood_stays w (File name) s = refl
stood_stays w (Remove name) s = refl
stood_stays w (Edit at del ins) s = refl
stood_stays w (Load records) s = refl
stood_stays w Run s = refl

kind_stays : (w : WindowState) (c : Command) → (window_after w c).kind ≡ w.kind
kind_stays w (Bucket records) = refl
kind_stays w (Drop n) = refl
kind_stays w (Late place more) = refl
kind_stays w (File name) = refl
kind_stays w (Remove name) = refl
kind_stays w (Edit at del ins) = refl
kind_stays w (Load records) = refl
kind_stays w Run = refl

places_stay : (w : WindowState) (c : Command) → (window_after w c).places ≡ w.places
places_stay w (Bucket records) = refl
places_stay w (Drop n) = refl
places_stay w (Late place more) = refl
places_stay w (File name) = refl
places_stay w (Remove name) = refl
places_stay w (Edit at del ins) = refl
places_stay w (Load records) = refl
places_stay w Run = refl

module _ (accepts : List ℕ → Bool) (first : ℕ) (olds : List Leaf) (old new : WindowView) (c : Command) (since : IsSince first olds old) (none : refusal_of accepts old.window c ≡ None) (is : IsDone old new c) where
  kind_is : new.window.kind ≡ old.window.kind
  kind_is = ap (λ (w : WindowState). w.kind) is.window ∙ kind_stays old.window c

  on_buckets : old.window.kind ≢ Kinds.Document → IsSince first olds new
  on_buckets other =
      let was = since_follows first olds old other since in
      let on = buckets_on first olds old.window old.slid was.0 other was.1 c (has accepts old.window c none) (few accepts old.window c none) in
      let follows = subst (λ (t : Slid). Follows [] first olds new.window.leaves t) (sym is.slid)
      (subst (λ (l : List Leaf). Follows [] first olds l (slid_after old.window c old.slid)) (sym (ap (λ (w : WindowState). w.leaves) is.window)) on.0)
      in
      let kept = subst (λ (t : Slid). KindAdds new.window.kind new.window.places first (length olds) (length new.window.leaves) t) (sym is.slid)
      (subst (λ (w : WindowState). KindAdds w.kind w.places first (length olds) (length w.leaves) (slid_after old.window c old.slid)) (sym is.window)
      (subst (λ (k : Kind). KindAdds k (window_after old.window c).places first (length olds) (length (window_after old.window c).leaves) (slid_after old.window c old.slid)) (sym (kind_stays old.window c))
      (subst (λ (p : ℕ). KindAdds old.window.kind p first (length olds) (length (window_after old.window c).leaves) (slid_after old.window c old.slid)) (sym (places_stay old.window c)) on.1)))
      in
      follows_since first olds new (λ e. other (sym kind_is ∙ e)) follows kept

  on_document : old.window.kind ≡ Kinds.Document → IsSince first olds new
  on_document document =
      let was = since_led first olds old document since in
      let leads = splices_join olds old.window.leaves new.window.leaves old.splice is.change was (is.spliced document) in
      let splice : new.splice ≡ splice_after (length olds) (length old.window.leaves) (length new.window.leaves) old.splice is.change =
      is.splice ∙ ap (λ (n : ℕ). splice_after n (length old.window.leaves) (length new.window.leaves) old.splice is.change) since.stood
      in
      led_since first olds new (kind_is ∙ document) (subst (λ (t : Shift). Leads olds new.window.leaves t) (sym splice) leads)
      (ap (λ (t : Slid). t.stood) is.slid ∙ stood_stays old.window c old.slid ∙ since.stood)

  by_kind : (kind : Kind) → old.window.kind ≡ kind → IsSince first olds new
  by_kind Kinds.Document e = on_document e
  by_kind Kinds.Buckets e = on_buckets (λ d. not_document Kinds.Buckets (sym e ∙ d) tt)
  by_kind Kinds.Circle e = on_buckets (λ d. not_document Kinds.Circle (sym e ∙ d) tt)
  by_kind Kinds.Growing e = on_buckets (λ d. not_document Kinds.Growing (sym e ∙ d) tt)

pub since_on : SinceOn
since_on accepts first olds old new c since done = by_kind accepts first olds old new c since done.0 done.1 old.window.kind refl

-- nothing changed yet
no_items : (P : ℕ → Type 0) → All P []
no_items P = λ k d h. absurd (omega (arith, h))

module _ (now : List Leaf) (s : Slid) where
  anew : length now ≤ s.accepted → Follows [] (s.accepted - length now) now now (slid_anew (length now) s)
  anew counted = record {
    fresh_in = omega arith;
    counted = counted;
    stood_is = refl;
    kept = omega arith;
    after = omega (arith, counted);
    exact = λ some. omega (arith, counted);
    late_in = no_items (λ p. p < length now - 0);
    rising = λ k h. absurd (omega (arith, h));
    same = λ i lt out. let at : i ≡ length now - (length now - 0) + i = omega arith in ap (λ (n : ℕ). get_or now n []) at;
  }

  keeps_anew : (kind : Kind) (places first old : ℕ) → KindAdds kind places first old (length now) s → KindAdds kind places (s.accepted - length now) (length now) (length now) (slid_anew (length now) s)
  keeps_anew Kinds.Buckets places first old k = tt
  keeps_anew Kinds.Circle places first old k = (k.0, λ lt. absurd (omega (arith, lt)))
  keeps_anew Kinds.Growing places first old k = (omega arith, refl, refl)
  keeps_anew Kinds.Document places first old k = absurd k

same_leaves : (leaves : List Leaf) → IsSplice leaves leaves (record { first = 0; gone = 0; fresh = 0 })
same_leaves leaves = record { within = omega arith; fits = omega arith; before = refl; behind = refl }

module _ (first : ℕ) (olds : List Leaf) (w : WindowView) (since : IsSince first olds w) where
  anew_buckets : w.window.kind ≢ Kinds.Document → IsSince (first_after (shift_of w) first) w.window.leaves (view_anew w)
  anew_buckets other =
      let was = since_follows first olds w other since in
      let number : first_after (shift_of w) first ≡ w.slid.accepted - length w.window.leaves = ap (λ (t : Shift). first_after t first) (slides first olds w other) in
      subst (λ (n : ℕ). IsSince n w.window.leaves (view_anew w)) (sym number)
      (follows_since (w.slid.accepted - length w.window.leaves) w.window.leaves (view_anew w) other (anew w.window.leaves w.slid was.0.counted)
      (keeps_anew w.window.leaves w.slid w.window.kind w.window.places first (length olds) was.1))

  anew_by : (kind : Kind) → w.window.kind ≡ kind → IsSince (first_after (shift_of w) first) w.window.leaves (view_anew w)
  anew_by Kinds.Document e = led_since (first_after (shift_of w) first) w.window.leaves (view_anew w) e (same_leaves w.window.leaves) refl
  anew_by Kinds.Buckets e = anew_buckets (λ d. not_document Kinds.Buckets (sym e ∙ d) tt)
  anew_by Kinds.Circle e = anew_buckets (λ d. not_document Kinds.Circle (sym e ∙ d) tt)
  anew_by Kinds.Growing e = anew_buckets (λ d. not_document Kinds.Growing (sym e ∙ d) tt)

pub since_anew : SinceAnew
since_anew first olds w since = anew_by first olds w since w.window.kind refl

pub since_new : SinceNew
since_new Kinds.Document places = led_since 0 [] (no_leaves Kinds.Document places) refl (same_leaves []) refl
since_new Kinds.Buckets places = follows_since 0 [] (no_leaves Kinds.Buckets places) (λ d. not_document Kinds.Buckets d tt) (anew [] not_slid (omega arith)) tt
since_new Kinds.Circle places = follows_since 0 [] (no_leaves Kinds.Circle places) (λ d. not_document Kinds.Circle d tt) (anew [] not_slid (omega arith)) (omega arith, λ lt. absurd (omega (arith, lt)))
since_new Kinds.Growing places = follows_since 0 [] (no_leaves Kinds.Growing places) (λ d. not_document Kinds.Growing d tt) (anew [] not_slid (omega arith)) (omega arith, refl, refl)

-- a window leads on through its calls
leads_anew : (w : WindowView) → LeadsOn w → LeadsOn (view_anew w)
leads_anew w leads = (first_after (shift_of w) leads.0, w.window.leaves, since_anew leads.0 leads.1 w leads.2)

-- a window keeps its kind, and leads on, whatever a command returns
abbrev pub StaysLed : WindowView → WindowView → Type 0
StaysLed old new = (new.window.kind ≡ old.window.kind) × LeadsOn new

same_kept : (old new : WindowView) → LeadsOn old → new ≡ old → StaysLed old new
same_kept old new leads is = (ap (λ (w : WindowView). w.window.kind) is, subst LeadsOn (sym is) leads)

done_kept : (accepts : List ℕ → Bool) (c : Command) (old new : WindowView) (result : Result (Unit {0}) WindowFault) → LeadsOn old → Done (refusal_of accepts old.window c) old new c result → StaysLed old new
done_kept accepts c old new (Ok t) leads done = (
  ap (λ (w : WindowState). w.kind) done.1.window ∙ kind_stays old.window c,
  (leads.0, leads.1, since_on accepts leads.0 leads.1 old new c leads.2 done),
)
done_kept accepts c old new (Err NotHere) leads done = same_kept old new leads done.1
done_kept accepts c old new (Err TooMany) leads done = same_kept old new leads done.1
done_kept accepts c old new (Err (BadRecord i)) leads done = same_kept old new leads done.1
done_kept accepts c old new (Err WindowLarge) leads done = same_kept old new leads done.1
done_kept accepts c old new (Err Mem) leads done = same_kept old new leads done.1

-- what holds of a window of any kind, by what it is made of
abbrev pub IsLed : Content → Type 0
IsLed content = FitsKind content × LeadsOn (view_of content)

module _ (accepts : List ℕ → Bool) (c : Command) (result : Result (Unit {0}) WindowFault) where
  pub buckets_kept : (old new : BucketView) → IsLed (OfBuckets old) → Applied accepts old new c result → IsLed (OfBuckets new)
  buckets_kept old new is applied =
      let kept = done_kept accepts c (view_of (OfBuckets old)) (view_of (OfBuckets new)) result is.1 (done_buckets accepts c old new result is.0 applied) in
      (λ document. is.0 (sym kept.0 ∙ document), kept.1)

  pub document_kept : (old new : DocumentView) → IsLed (OfDocument old) → Edits (refusal_of accepts old.window c) old new c result → IsLed (OfDocument new)
  document_kept old new is edits =
      let kept = done_kept accepts c (view_of (OfDocument old)) (view_of (OfDocument new)) result is.1 (done_document accepts c old new result is.0 edits) in
      (kept.0 ∙ is.0, kept.1)

pub buckets_anewed : (old new : BucketView) → new ≡ buckets_anew old → IsLed (OfBuckets old) → IsLed (OfBuckets new)
buckets_anewed old new is kept = subst (λ (b : BucketView). IsLed (OfBuckets b)) (sym is) (kept.0, leads_anew (view_of (OfBuckets old)) kept.1)

pub document_anewed : (old new : DocumentView) → new ≡ document_anew old → IsLed (OfDocument old) → IsLed (OfDocument new)
document_anewed old new is kept = subst (λ (d : DocumentView). IsLed (OfDocument d)) (sym is) (kept.0, leads_anew (view_of (OfDocument old)) kept.1)
