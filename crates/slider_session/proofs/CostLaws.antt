-- What a script costs, command by command.
use Rattle.std.proofs.Common.{◌≡◌, ◌≢◌, ℕ, zero, suc, ◌+◌, ◌<◌, ◌≤◌, Bool, true, false, List, [], ◌∷◌, length, refl, sym, ap, ◌∙◌, subst, inl, inr, arith}
use Rattle.std.specs.Prelude.{Option, Result, Ok, Err, map, slice_index_or, nat_lt}
use Rattle.std.specs.declared.option.Option.TheVariants.{Some, None}
use Rattle.std.proofs.Math.Nat.{mul-le-mul_right}
use Rattle.std.proofs.lemmas.Bool.Decides.{nat_tests}
use Rattle.definitions.specs.Outside.{Told}
use Rattle.definitions.specs.Tables.{keys_of}
use Rattle.definitions.specs.Answer.{pairs_of}
use Rattle.definitions.proofs.ToldBytes.{told_same, told_then}
use Rattle.job_laws.specs.declared.meter.Counts.{Counts}
use Rattle.job_laws.specs.Counted.{RoseWithin}
use Rattle.job_laws.specs.Meanings.{Meaning}
use Rattle.job_laws.specs.Rows.{Row, RowRose, sum_of}
use Rattle.job_laws.proofs.RowLaws.{row_same, row_then}
use Rattle.record_text.specs.declared.command.Command.{Command}
use Rattle.record_text.specs.declared.command.Command.TheVariants.{Bucket, Drop, Late, File, Remove, Edit, Load, Run}
use Rattle.record_text.specs.declared.reading.Reading.{Reading}
use Rattle.record_text.specs.declared.shift.Shift.{Shift}
use Rattle.record_text.specs.Script.{Script, commands}
use Rattle.record_text.specs.Reading.{NextTold, to_come}
use Rattle.window_manager.specs.Windows.{WindowState, present}
use Rattle.window_manager.specs.Views.{WindowView, IsDone, no_leaves, shift_of}
use Rattle.pin_table.specs.Covers.{PinName}
use Rattle.record_text.specs.declared.kind.Kind.{Kind}
use Rattle.run_settings.specs.declared.settings.Settings.{Settings}
use Rattle.job_laws.specs.declared.job.Job as Jobs
use Rattle.tree_laws.specs.Trees.{Shape, TreeView, no_shape}
use Rattle.run_engine.specs.InPlace.{EachAt}
use Rattle.run_engine.specs.Engines.{SeatView, IsNewEngine}
use Rattle.run_engine.specs.Runs.{RunWorked, greatest}
use Rattle.slider_session.specs.Calls.{SessionView, RunStands}
use Rattle.slider_session.specs.Devices.{DeviceView}
use Rattle.slider_session.specs.declared.halt.Halt.{Halt}
use Rattle.slider_session.proofs.Stepping.{StepKind, places_stay}
use Rattle.slider_session.specs.Costs.{Standing, before_runs, Costs, no_costs, with_costs, CostAtMost, run_bound, run_costs, after_run, CommandCosts, CommandsCost, ScriptCosts}

-- costs are the same if each of them is
same_costs : (a b : Costs) → a.maps ≡ b.maps → a.lane_joins ≡ b.lane_joins → a.merges ≡ b.merges → a.part_joins ≡ b.part_joins → a ≡ b
same_costs a b maps lane_joins merges part_joins = λ i. record { maps = maps i; lane_joins = lane_joins i; merges = merges i; part_joins = part_joins i }

costs_then : (a b c : Costs) → with_costs a (with_costs b c) ≡ with_costs (with_costs a b) c
costs_then a b c = same_costs (with_costs a (with_costs b c)) (with_costs (with_costs a b) c) (omega arith) (omega arith) (omega arith) (omega arith)

none_before : (a : Costs) → a ≡ with_costs no_costs a
none_before a = same_costs a (with_costs no_costs a) (omega arith) (omega arith) (omega arith) (omega arith)

none_after : (a : Costs) → with_costs a no_costs ≡ a
none_after a = same_costs (with_costs a no_costs) a (omega arith) (omega arith) (omega arith) (omega arith)

module _ {M : Type 0} (counts : M → Counts) where
  -- nothing was counted
  pub at_most_none : (row : Row M) → CostAtMost counts no_costs row row
  at_most_none row = record {
    rose = row_same counts row;
    maps = (omega arith, omega arith);
    lane_joins = (omega arith, omega arith);
    merges = λ p d. (omega arith, omega arith);
    part_joins = (omega arith, omega arith);
  }

  -- one count increased, and then increased more
  within_then : (a b x y z : ℕ) → RoseWithin a x y → RoseWithin b y z → RoseWithin (a + b) x z
  within_then a b x y z p q = let p0 = p.0 in let p1 = p.1 in let q0 = q.0 in let q1 = q.1 in (omega (arith, p0, q0), omega (arith, p1, q1))

  -- some costs were counted, and then more
  pub at_most_then : (a b : Costs) (x y z : Row M) → CostAtMost counts a x y → CostAtMost counts b y z → CostAtMost counts (with_costs a b) x z
  at_most_then a b x y z p q = record {
    rose = row_then counts x y z p.rose q.rose;
    maps = within_then a.maps b.maps (sum_of (λ m. (counts m).maps) x.lanes) (sum_of (λ m. (counts m).maps) y.lanes) (sum_of (λ m. (counts m).maps) z.lanes) p.maps q.maps;
    lane_joins = within_then a.lane_joins b.lane_joins (sum_of (λ m. (counts m).joins) x.lanes) (sum_of (λ m. (counts m).joins) y.lanes) (sum_of (λ m. (counts m).joins) z.lanes) p.lane_joins q.lane_joins;
    merges = λ i d. within_then a.merges b.merges (counts (slice_index_or x.parts i d)).merges (counts (slice_index_or y.parts i d)).merges (counts (slice_index_or z.parts i d)).merges (p.merges i d) (q.merges i d);
    part_joins = within_then a.part_joins b.part_joins (sum_of (λ m. (counts m).joins) x.parts) (sum_of (λ m. (counts m).joins) y.parts) (sum_of (λ m. (counts m).joins) z.parts) p.part_joins q.part_joins;
  }

-- the greatest of numbers that are all at most a bound is at most that bound
greatest_at_most : {A : Type 0} (f : A → ℕ) (most : ℕ) (xs : List A) → EachAt (λ k x. f x ≤ most) xs → greatest (map f xs) ≤ most
greatest_at_most f most [] each = omega arith
greatest_at_most f most (x ∷ xs) each =
    let first : f x ≤ most = each zero x (omega arith) in
    let rest = greatest_at_most f most xs (λ k d within. each (suc k) d (omega (arith, within))) in
    omega (arith, first, rest)

-- one of the items of a list that has some
an_item : {A : Type 0} (k : ℕ) (xs : List A) → k < length xs → A
an_item k [] within = absurd (omega (arith, within))
an_item k (x ∷ xs) within = x

-- the standing of a session whose trees have this shape
abbrev pub standing_of : {J T : Type 0} → Shape → SessionView J T → Standing
standing_of shape h = record { shape = shape; leaves = h.engine.leaves; window = h.window }

module _ {J T V : Type 0} (view : T → TreeView V) where
  -- each part's tree has the shape, and the window has the engine's places
  pub record HasShape (shape : Shape) (h : SessionView J T) : Type 0 where
    pub shapes : EachAt (λ p t. (view t.tree).leaves.shape ≡ shape) h.engine.parts
    pub count : length h.engine.parts ≡ h.engine.settings.parts
    pub places : h.window.window.places ≡ h.engine.settings.places

  -- a new session's trees have no shape
  pub new_shape : {M : Type 0} (g : Jobs.Ghosts J V M) (pins : T → List PinName) (kind : Kind) (job : J) (settings : Settings) (h : SessionView J T) → IsNewEngine g view pins 0 job settings h.engine → h.window ≡ no_leaves kind settings.places → HasShape no_shape h
  new_shape g pins kind job settings h engine window = record {
    shapes = λ p d within. ap (λ t. t.leaves.shape) (engine.parts p d within).2;
    count = engine.parts_count ∙ sym (ap (λ s. s.parts) engine.settings_are);
    places = ap (λ (w : WindowView). w.window.places) window ∙ sym (ap (λ s. s.places) engine.settings_are);
  }

module _ {V : Type 0} (j : Meaning V) (bound : ℕ → Shape → ℕ → Shift → ℕ) (shaped : Shape → Shift → Shape) where
  -- no command costs nothing
  cost_none : (s : Standing) (cs : List (Command × ℕ)) → CommandsCost j bound shaped s cs no_costs
  cost_none s [] = refl
  cost_none s (c ∷ cs) = inl refl

  -- a command other than a run costs nothing
  change_costs : (s t : Standing) (c : Command) → (c ≢ Run) → IsDone s.window t.window c → t ≡ record s { window = t.window } → CommandCosts j bound shaped c s no_costs t
  change_costs s t (Bucket records) other done is = (refl, done, is)
  change_costs s t (Drop n) other done is = (refl, done, is)
  change_costs s t (Late place more) other done is = (refl, done, is)
  change_costs s t (File name) other done is = (refl, done, is)
  change_costs s t (Remove name) other done is = (refl, done, is)
  change_costs s t (Edit at del ins) other done is = (refl, done, is)
  change_costs s t (Load records) other done is = (refl, done, is)
  change_costs s t Run other done is = absurd (other refl)

  module _ (w : WindowView) (most : ℕ) where
    -- the cost of the commands to come, with the cost so far, is that of the script
    abbrev pub CostsOn : Costs → Standing → Reading → List ℕ → List ℕ → Type 0
    CostsOn so_far s r script after = (rest : Costs) → CommandsCost j bound shaped s (to_come r after).0 rest → CommandsCost j bound shaped (before_runs w) (commands most script).0 (with_costs so_far rest)

    -- a command more
    command_more : (so_far one : Costs) (s t : Standing) (r next : Reading) (c : Command) (first left later : Option (List ℕ)) → Told first left (CostsOn so_far s r) → Told left later (λ l m. NextTold (to_come r l) (to_come next m) next.last (Ok (Some c)))
        → CommandCosts j bound shaped c s one t → Told first later (CostsOn (with_costs so_far one) t next)
    command_more so_far one s t r next c first left later goes told costs =
        told_then first left later (CostsOn so_far s r) (λ l m. NextTold (to_come r l) (to_come next m) next.last (Ok (Some c))) (CostsOn (with_costs so_far one) t next)
        (λ a l m p q rest cost.
        let from : CommandsCost j bound shaped s ((c, next.last) ∷ (to_come next m).0) (with_costs one rest) = inr (one, t, rest, costs, cost, refl) in
        let here = subst (λ (x : Script). CommandsCost j bound shaped s x.0 (with_costs one rest)) (sym q) from in
        subst (CommandsCost j bound shaped (before_runs w) (commands most a).0) (costs_then so_far one rest) (p (with_costs one rest) here))
        goes told

    -- wherever the script ends, it cost no more than allowed
    cost_ends : {M : Type 0} (counts : M → Counts) (so_far : Costs) (s : Standing) (r : Reading) (x y : Row M) (first left : Option (List ℕ)) → Told first left (CostsOn so_far s r) → CostAtMost counts so_far x y → (script : List ℕ) → first ≡ Some script → ScriptCosts j bound shaped counts w (commands most script).0 x y
    cost_ends counts so_far s r x y first left goes cost script is = at_left left (subst (λ (o : Option (List ℕ)). Told o left (CostsOn so_far s r)) is goes)
      where
        at_left : (l : Option (List ℕ)) → Told (Some script) l (CostsOn so_far s r) → ScriptCosts j bound shaped counts w (commands most script).0 x y
        at_left None t = absurd t
        at_left (Some after) t = (so_far, subst (CommandsCost j bound shaped (before_runs w) (commands most script).0) (none_after so_far) (t no_costs (cost_none s (to_come r after).0)), cost)

    -- serving did not begin
    pub cost_nothing : {M : Type 0} (counts : M → Counts) (x : Row M) (script : List ℕ) → ScriptCosts j bound shaped counts w (commands most script).0 x x
    cost_nothing counts x script = (no_costs, cost_none (before_runs w) (commands most script).0, at_most_none counts x)

module _ {J T V M : Type 0} (j : Meaning V) (bound : ℕ → Shape → ℕ → Shift → ℕ) (tight : T → Shift → List (List (List ℕ × V)) → ℕ) (shaped : Shape → Shift → Shape) (view : T → TreeView V) (counts : M → Counts) where
  -- the most merges in the next run, by the trees' shape
  abbrev most_merges : Shape → SessionView J T → ℕ
  most_merges shape h = run_bound j bound shaped (standing_of shape h)

  -- the same of one part, by the shape of its tree
  abbrev bound_at : SessionView J T → SeatView T → ℕ
  bound_at h seat = bound h.engine.settings.places (view seat.tree).leaves.shape (length h.engine.leaves) (shift_of h.window)

  is_bound : (shape : Shape) (h : SessionView J T) → HasShape view shape h → (d : SeatView T) (k : ℕ) → k < length h.engine.parts → bound_at h (slice_index_or h.engine.parts k d) ≡ most_merges shape h
  is_bound shape h has d k within = λ i. bound (sym has.places i) (has.shapes k d within i) (length h.engine.leaves) (shift_of h.window)

  -- each part merged no more, and the meters of no part stay
  merged_at_most : (shape : Shape) (old new : SessionView J T) (x y : Row M) → HasShape view shape old → RunWorked counts j bound tight view old.window x y old.engine new.engine → (p : ℕ) (d : M) → RoseWithin (most_merges shape old) (counts (slice_index_or x.parts p d)).merges (counts (slice_index_or y.parts p d)).merges
  merged_at_most shape old new x y has worked p d = by_place (nat_lt p old.engine.settings.parts) refl
    where
      by_place : (b : Bool) → nat_lt p old.engine.settings.parts ≡ b → RoseWithin (most_merges shape old) (counts (slice_index_or x.parts p d)).merges (counts (slice_index_or y.parts p d)).merges
      by_place true is =
          let here : p < old.engine.settings.parts = grind (arith, nat_tests) in
          let count = has.count in
          let within : p < length old.engine.parts = omega (arith, here, count) in
          let seat = an_item p old.engine.parts within in
          subst (λ (n : ℕ). RoseWithin n (counts (slice_index_or x.parts p d)).merges (counts (slice_index_or y.parts p d)).merges) (is_bound shape old has seat p within) (worked.parts.each p d d seat seat here).counted.merges
      by_place false is =
          let there : old.engine.settings.parts ≤ p = grind (arith, nat_tests) in
          let same = ap (λ m. (counts m).merges) (worked.parts.others p d there) in
          (omega (arith, same), omega (arith, same))

  -- a run, whatever it returns, costs no more than it may
  run_at_most : (shape : Shape) (old new : SessionView J T) (x y : Row M) → HasShape view shape old → RunWorked counts j bound tight view old.window x y old.engine new.engine → CostAtMost counts (run_costs j bound shaped (standing_of shape old)) x y
  run_at_most shape old new x y has worked = record {
    rose = worked.rose;
    maps = worked.lanes.maps;
    lane_joins = worked.lanes.joins;
    merges = merged_at_most shape old new x y has worked;
    part_joins =
        let joins = worked.parts.joins in
        let low = joins.0 in
        let high = joins.1 in
        let each = greatest_at_most (bound_at old) (most_merges shape old) old.engine.parts (λ k d within. let same = is_bound shape old has d k within in omega (arith, same)) in
        let most = mul-le-mul_right (length (keys_of (pairs_of j.emits (present old.window.window)))) each in
        (low, omega (arith, high, most));
  }

  -- after a run the trees have the next shape
  run_shape : (shape : Shape) (old new : SessionView J T) (x y : Row M) → HasShape view shape old → RunWorked counts j bound tight view old.window x y old.engine new.engine → RunStands j view shaped old new → HasShape view (shaped shape (shift_of old.window)) new
  run_shape shape old new x y has worked stands =
      let settings = worked.same.settings in
      record {
        shapes = λ p d within.
            let count = stands.engine.shapes.count in
            let here : p < length old.engine.parts = omega (arith, within, count) in
            stands.engine.shapes.each p d d here ∙ ap (λ (s : Shape). shaped s (shift_of old.window)) (has.shapes p d here);
        count = stands.engine.shapes.count ∙ has.count ∙ sym (ap (λ s. s.parts) settings);
        places = ap (λ (w : WindowView). w.window.places) stands.window ∙ has.places ∙ sym (ap (λ s. s.places) settings);
      }

  -- the commands after a run that is kept
  run_is : (shape : Shape) (old new : SessionView J T) → RunStands j view shaped old new → standing_of (shaped shape (shift_of old.window)) new ≡ after_run j bound shaped (standing_of shape old)
  run_is shape old new stands = λ i. record { shape = shaped shape (shift_of old.window); leaves = stands.engine.leaves i; window = stands.window i }

  -- after another command the shape is unchanged
  same_shape : (shape : Shape) (old new : SessionView J T) → HasShape view shape old → new ≡ record old { window = new.window } → new.window.window.places ≡ old.window.window.places → HasShape view shape new
  same_shape shape old new has is places =
      let engine : old.engine ≡ new.engine = sym (ap (λ (h : SessionView J T). h.engine) is) in
      record {
        shapes = subst (λ e. EachAt (λ p t. (view t.tree).leaves.shape ≡ shape) e.parts) engine has.shapes;
        count = subst (λ e. length e.parts ≡ e.settings.parts) engine has.count;
        places = places ∙ subst (λ e. old.window.window.places ≡ e.settings.places) engine has.places;
      }

  module _ (w : WindowView) (most : ℕ) where
    -- what the script cost up to a session's place in it
    pub record Costing (h : SessionView J T) (r : Reading) (x y : Row M) (first left : Option (List ℕ)) : Type 0 where
      pub shape : Shape
      pub has : HasShape view shape h
      pub so_far : Costs
      pub cost : CostAtMost counts so_far x y
      pub goes : Told first left (CostsOn j bound shaped w most so_far (standing_of shape h) r)

    -- serving begins
    pub cost_begins : (h : SessionView J T) (r : Reading) (x : Row M) (left : Option (List ℕ)) → HasShape view no_shape h → h.engine.leaves ≡ [] → h.window ≡ w → ((script : List ℕ) → to_come r script ≡ commands most script) → Costing h r x x left left
    cost_begins h r x left has leaves window all = record {
      shape = no_shape;
      has = has;
      so_far = no_costs;
      cost = at_most_none counts x;
      goes = told_same left (CostsOn j bound shaped w most no_costs (standing_of no_shape h) r) (λ script rest cost.
          let start : standing_of no_shape h ≡ before_runs w = λ i. record { shape = no_shape; leaves = leaves i; window = window i } in
          let from = subst (λ (s : Standing). CommandsCost j bound shaped s (to_come r script).0 rest) start cost in
          let told = subst (λ (s : Script). CommandsCost j bound shaped (before_runs w) s.0 rest) (all script) from in
          subst (CommandsCost j bound shaped (before_runs w) (commands most script).0) (none_before rest) told);
    }

    -- the script ends here
    pub cost_here : (old : SessionView J T) (r : Reading) (x y : Row M) (first left : Option (List ℕ)) → Costing old r x y first left → (script : List ℕ) → first ≡ Some script → ScriptCosts j bound shaped counts w (commands most script).0 x y
    cost_here old r x y first left so = cost_ends j bound shaped w most counts so.so_far (standing_of so.shape old) r x y first left so.goes so.cost

    module _ (old new : SessionView J T) (r next : Reading) (x y z : Row M) (first left later : Option (List ℕ)) (so : Costing old r x y first left) where
      module _ (told : Told left later (λ l m. NextTold (to_come r l) (to_come next m) next.last (Ok (Some Run)))) (worked : RunWorked counts j bound tight view old.window y z old.engine new.engine) where
        with_run : CostAtMost counts (with_costs so.so_far (run_costs j bound shaped (standing_of so.shape old))) x z
        with_run = at_most_then counts so.so_far (run_costs j bound shaped (standing_of so.shape old)) x y z so.cost (run_at_most so.shape old new y z so.has worked)

        -- a run was answered
        pub cost_of_run : RunStands j view shaped old new → Costing new next x z first later
        cost_of_run stands = record {
          shape = shaped so.shape (shift_of old.window);
          has = run_shape so.shape old new y z so.has worked stands;
          so_far = with_costs so.so_far (run_costs j bound shaped (standing_of so.shape old));
          cost = with_run;
          goes = command_more j bound shaped w most so.so_far (run_costs j bound shaped (standing_of so.shape old)) (standing_of so.shape old) (standing_of (shaped so.shape (shift_of old.window)) new) r next Run first left later so.goes told (refl, run_is so.shape old new stands);
        }

        -- the script ends in a run
        pub cost_in_run : (script : List ℕ) → first ≡ Some script → ScriptCosts j bound shaped counts w (commands most script).0 x z
        cost_in_run = cost_ends j bound shaped w most counts (with_costs so.so_far (run_costs j bound shaped (standing_of so.shape old))) (after_run j bound shaped (standing_of so.shape old)) next x z first later
            (command_more j bound shaped w most so.so_far (run_costs j bound shaped (standing_of so.shape old)) (standing_of so.shape old) (after_run j bound shaped (standing_of so.shape old)) r next Run first left later so.goes told (refl, refl)) with_run

      -- another command was carried out
      pub cost_of_change : (c : Command) → (c ≢ Run) → Told left later (λ l m. NextTold (to_come r l) (to_come next m) next.last (Ok (Some c))) → IsDone old.window new.window c → new ≡ record old { window = new.window } → new.window.window.places ≡ old.window.window.places → z ≡ y → Costing new next x z first later
      cost_of_change c other told done is places same = record {
        shape = so.shape;
        has = same_shape so.shape old new so.has is places;
        so_far = so.so_far;
        cost = subst (CostAtMost counts so.so_far x) (sym same) so.cost;
        goes = subst (λ (k : Costs). Told first later (CostsOn j bound shaped w most k (standing_of so.shape new) next)) (none_after so.so_far)
            (command_more j bound shaped w most so.so_far no_costs (standing_of so.shape old) (standing_of so.shape new) r next c first left later so.goes told
            (change_costs j bound shaped (standing_of so.shape old) (standing_of so.shape new) c other done (λ i. record { shape = so.shape; leaves = (is i).engine.leaves; window = new.window })));
      }

      module _ (c : Command) (line : ℕ) (sunk sinks : DeviceView) (told : Told left later (λ l m. NextTold (to_come r l) (to_come next m) next.last (Ok (Some c)))) (worked : c ≡ Run → RunWorked counts j bound tight view old.window y z old.engine new.engine) (still : (c ≢ Run) → z ≡ y) where
        run_told : c ≡ Run → Told left later (λ l m. NextTold (to_come r l) (to_come next m) next.last (Ok (Some Run)))
        run_told is = subst (λ (k : Command). Told left later (λ l m. NextTold (to_come r l) (to_come next m) next.last (Ok (Some k)))) is told

        -- a command was carried out
        pub cost_on : (done : Unit {0}) → StepKind j view shaped old new c line sunk sinks (Ok done) → Costing new next x z first later
        cost_on done (inl a) = cost_of_run (run_told a.0) (worked a.0) a.1.0
        cost_on done (inr a) = cost_of_change c a.0 told a.1.1 a.1.2 (ap (λ (v : WindowState). v.places) a.1.1.window ∙ places_stay old.window.window c) (still a.0)

        -- serving stopped in a command
        pub cost_at_halt : (halt : Halt) → StepKind j view shaped old new c line sunk sinks (Err halt) → (script : List ℕ) → first ≡ Some script → ScriptCosts j bound shaped counts w (commands most script).0 x z
        cost_at_halt halt (inl a) = cost_in_run (run_told a.0) (worked a.0)
        cost_at_halt halt (inr a) = λ script is. subst (λ (n : Row M). ScriptCosts j bound shaped counts w (commands most script).0 x n) (sym (still a.0)) (cost_here old r x y first left so script is)

        -- the meters increased
        pub rose_on : (result : Result (Unit {0}) Halt) → StepKind j view shaped old new c line sunk sinks result → RowRose counts x z
        rose_on result (inl a) = row_then counts x y z so.cost.rose (worked a.0).rose
        rose_on result (inr a) = subst (RowRose counts x) (sym (still a.0)) so.cost.rose
