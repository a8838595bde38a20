-- What was reported of the work of runs, command by command.
use Rattle.std.proofs.Common.{◌≡◌, ◌≢◌, ℕ, ◌+◌, ◌≤◌, Bool, List, [], ◌∷◌, ◌++◌, length, refl, sym, ap, ◌∙◌, subst, inl, inr, ◌⊎◌, arith, length-append}
use Rattle.std.specs.Prelude.{Option, Result, Ok, Err}
use Rattle.std.specs.declared.option.Option.TheVariants.{Some, None}
use Rattle.definitions.specs.Outside.{Told}
use Rattle.definitions.proofs.ToldBytes.{told_same, told_then, told_with}
use Rattle.job_laws.specs.declared.meter.Counts.{Counts}
use Rattle.job_laws.specs.Meanings.{Meaning}
use Rattle.job_laws.specs.Rows.{Row}
use Rattle.record_text.specs.declared.command.Command.{Command}
use Rattle.record_text.specs.declared.command.Command.TheVariants.{Bucket, Drop, Late, File, Remove, Edit, Load, Run}
use Rattle.record_text.specs.declared.script_fault.ScriptFault.{ScriptFault}
use Rattle.record_text.specs.declared.script_fault.Why.TheVariants.{Read, Mem}
use Rattle.record_text.specs.declared.reading.Reading.{Reading}
use Rattle.record_text.specs.declared.shift.Shift.{Shift}
use Rattle.record_text.specs.Script.{Script, Faulty, commands}
use Rattle.record_text.specs.Reading.{NextTold, to_come}
use Rattle.window_manager.specs.Windows.{WindowState, window_after, refusal_of}
use Rattle.window_manager.specs.Views.{WindowView}
use Rattle.window_manager.specs.declared.fault.WindowFault.{WindowFault}
use Rattle.tree_laws.specs.Trees.{Shape, TreeView}
use Rattle.slider_session.specs.Calls.{SessionView, state_of, RunSaid}
use Rattle.slider_session.specs.Devices.{DeviceView, AreTried}
use Rattle.slider_session.specs.Output.{none_if_refused, runs_on, runs_from, runs_answered}
use Rattle.slider_session.specs.Serving.{IsServed, ScriptSaid, HaltIs}
use Rattle.slider_session.specs.WorkLines.{work_of, work_between, with_work, all_work, IsMoreWork, asked_lines}
use Rattle.slider_session.specs.declared.halt.Halt.{Halt}
use Rattle.slider_session.specs.declared.halt.Halt.TheVariants as Halts
use Rattle.slider_session.specs.declared.work.Work.{Work}
use Rattle.slider_session.proofs.Lines.{tried_none, tried_so, tried_then, asked_none, asked_append}
use Rattle.slider_session.proofs.Stepping.{StepKind}
use Rattle.slider_session.proofs.WorkSums.{none_between, no_less, more_then, between_then, between_within, all_more}

-- what is stated for a script whose bytes are known
told_script : (first left : Option (List ℕ)) (P : List ℕ → List ℕ → Type 0) → Told first left P → (script : List ℕ) → first ≡ Some script → (after : List ℕ) × P script after
told_script first left P told script is = at_left left (subst (λ (o : Option (List ℕ)). Told o left P) is told)
  where
    at_left : (l : Option (List ℕ)) → Told (Some script) l P → (after : List ℕ) × P script after
    at_left None t = absurd t
    at_left (Some after) t = (after, t)

module _ {V : Type 0} (j : Meaning V) where
  -- after a command other than a run there are as many runs as after its window
  runs_other : (v : WindowState) (c : Command) (go : WindowState → ℕ) → (c ≢ Run) → runs_on j v c go ≡ none_if_refused (refusal_of j.accepts v c) (go (window_after v c))
  runs_other v (Bucket records) go other = refl
  runs_other v (Drop n) go other = refl
  runs_other v (Late place more) go other = refl
  runs_other v (File name) go other = refl
  runs_other v (Remove name) go other = refl
  runs_other v (Edit at del ins) go other = refl
  runs_other v (Load records) go other = refl
  runs_other v Run go other = absurd (other refl)

  -- some of the script's runs were answered, and the others are of the commands to come
  abbrev pub RunsOn : (w : WindowState) (most : ℕ) → ℕ → WindowState → Reading → List ℕ → List ℕ → Type 0
  RunsOn w most n v r script after = runs_answered j w (commands most script) ≡ n + runs_from j v (to_come r after).0

-- no line was tried, and none is asked for
none_said : (asked : Bool) (Done : Type 0) (d : DeviceView) → AreTried Done (asked_lines asked 1 []) d d
none_said asked Done d = subst (λ (ls : List (List ℕ)). AreTried Done ls d d) (sym (asked_none asked 1)) (tried_none Done d)

module _ {V M : Type 0} (j : Meaning V) (counts : M → Counts) (asked : Bool) (w : WindowState) (most : ℕ) where
  -- serving did not begin
  pub said_nothing : (x : Row M) (left : Option (List ℕ)) (d : DeviceView) → ScriptSaid j w most counts asked left x x d d (Err Halts.Mem)
  said_nothing x left d = record {
    works = [];
    tried = none_said asked ⊥ d;
    some = λ script is. omega arith;
    all = λ served. absurd served;
    within = subst (λ (a : Work). IsMoreWork a (work_between (work_of counts x) (work_of counts x))) (sym (none_between (work_of counts x))) (no_less (work_between (work_of counts x) (work_of counts x)));
    exact = λ served. absurd served;
  }

module _ {J T V M : Type 0} (j : Meaning V) (view : T → TreeView V) (shaped : Shape → Shift → Shape) (counts : M → Counts) (asked : Bool) (w : WindowState) (most : ℕ) where
  -- what was reported up to a session's place in the script
  pub record Saying (h : SessionView J T) (r : Reading) (x y : Row M) (first left : Option (List ℕ)) (before now : DeviceView) : Type 0 where
    pub works : List Work
    pub tried : AreTried (Unit {0}) (asked_lines asked 1 works) before now
    pub count : length works ≡ h.engine.runs
    pub work : all_work works ≡ work_between (work_of counts x) (work_of counts y)
    pub more : IsMoreWork (work_of counts x) (work_of counts y)
    pub runs : Told first left (RunsOn j w most (length works) (state_of h) r)

  -- serving begins
  pub said_begins : (h : SessionView J T) (r : Reading) (x : Row M) (left : Option (List ℕ)) (d : DeviceView) → h.engine.runs ≡ 0 → state_of h ≡ w → ((script : List ℕ) → to_come r script ≡ commands most script) → Saying h r x x left left d d
  said_begins h r x left d zero window all = record {
    works = [];
    tried = none_said asked (Unit {0}) d;
    count = sym zero;
    work = none_between (work_of counts x);
    more = no_less (work_of counts x);
    runs = told_same left (RunsOn j w most 0 (state_of h) r) (λ script.
        let same : runs_from j w (commands most script).0 ≡ runs_from j (state_of h) (to_come r script).0 = λ i. runs_from j (sym window i) (sym (all script) i).0 in
        omega (arith, same));
  }

  module _ (old : SessionView J T) (r : Reading) (x y : Row M) (first left : Option (List ℕ)) (before now : DeviceView) (so : Saying old r x y first left before now) where
    -- at least this many were answered
    some_runs : (script : List ℕ) → first ≡ Some script → length so.works ≤ runs_answered j w (commands most script)
    some_runs script is = let all = (told_script first left (RunsOn j w most (length so.works) (state_of old) r) so.runs script is).1 in omega (arith, all)

    -- no more runs come
    all_runs : (later : Option (List ℕ)) → Told left later (λ l m. runs_from j (state_of old) (to_come r l).0 ≡ 0) → (script : List ℕ) → first ≡ Some script → length so.works ≡ runs_answered j w (commands most script)
    all_runs later none script is =
        (told_script first later (λ s m. length so.works ≡ runs_answered j w (commands most s))
        (told_then first left later (RunsOn j w most (length so.works) (state_of old) r) (λ l m. runs_from j (state_of old) (to_come r l).0 ≡ 0) (λ s m. length so.works ≡ runs_answered j w (commands most s))
        (λ a b c p q. omega (arith, p, q)) so.runs none) script is).1

    -- the script was served, and no more runs come
    said_whole : (result : Result (Unit {0}) Halt) (later : Option (List ℕ)) → Told left later (λ l m. runs_from j (state_of old) (to_come r l).0 ≡ 0) → ScriptSaid j w most counts asked first x y before now result
    said_whole result later none = record {
      works = so.works;
      tried = tried_so (IsServed result) (asked_lines asked 1 so.works) before now so.tried;
      some = some_runs;
      all = λ served. all_runs later none;
      within = subst (λ (a : Work). IsMoreWork a (work_between (work_of counts x) (work_of counts y))) (sym so.work) (no_less (work_between (work_of counts x) (work_of counts y)));
      exact = λ served. so.work;
    }

    -- serving stopped early, with the meters at or after these
    said_short : (halt : Halt) (z : Row M) (end : DeviceView) → (IsServed (Err halt) → ⊥) → end ≡ now → IsMoreWork (work_of counts y) (work_of counts z) → ScriptSaid j w most counts asked first x z before end (Err halt)
    said_short halt z end short same more = record {
      works = so.works;
      tried = subst (λ (d : DeviceView). AreTried (IsServed (Err halt)) (asked_lines asked 1 so.works) before d) (sym same) (tried_so (IsServed (Err halt)) (asked_lines asked 1 so.works) before now so.tried);
      some = some_runs;
      all = λ served. absurd (short served);
      within = subst (λ (a : Work). IsMoreWork a (work_between (work_of counts x) (work_of counts z))) (sym so.work) (between_within (work_of counts x) (work_of counts y) (work_of counts z) more);
      exact = λ served. absurd (short served);
    }

    -- the script ended
    pub said_at_end : (next : Reading) (later : Option (List ℕ)) → Told left later (λ l m. NextTold (to_come r l) (to_come next m) next.last (Ok None)) → ScriptSaid j w most counts asked first x y before now (Ok tt)
    said_at_end next later told = said_whole (Ok tt) later (told_with left later (λ l m. NextTold (to_come r l) (to_come next m) next.last (Ok None)) (λ l m. runs_from j (state_of old) (to_come r l).0 ≡ 0) told
        (λ l m a b q. ap (λ (s : Script). runs_from j (state_of old) s.0) q.0))

    -- the reader stopped with a fault
    pub said_at_stop : (next : Reading) (later : Option (List ℕ)) (fault : ScriptFault) (halt : Halt) → HaltIs fault halt → Told left later (λ l m. NextTold (to_come r l) (to_come next m) next.last (Err fault)) → ScriptSaid j w most counts asked first x y before now (Err halt)
    said_at_stop next later fault (Halts.Script f) is told = said_whole (Err (Halts.Script f)) later (told_with left later (λ l m. NextTold (to_come r l) (to_come next m) next.last (Err fault)) (λ l m. runs_from j (state_of old) (to_come r l).0 ≡ 0) told
        (λ l m a b q. none_left (to_come r l) q.0))
      where
        none_left : (t : Script) → (fault.why ≡ Mem) ⊎ (fault.why ≡ Read) ⊎ (t ≡ ([], Faulty fault.line fault.why)) → runs_from j (state_of old) t.0 ≡ 0
        none_left t (inl mem) = absurd (is.1.1 mem)
        none_left t (inr (inl read)) = absurd (is.1.0 read)
        none_left t (inr (inr end)) = ap (λ (s : Script). runs_from j (state_of old) s.0) end
    said_at_stop next later fault Halts.Read is told = said_short Halts.Read y now (λ served. served) refl (no_less (work_of counts y))
    said_at_stop next later fault Halts.Write is told = absurd is
    said_at_stop next later fault Halts.Mem is told = said_short Halts.Mem y now (λ served. served) refl (no_less (work_of counts y))

    -- a command was read
    module _ (new : SessionView J T) (next : Reading) (c : Command) (z : Row M) (later : Option (List ℕ)) (end : DeviceView) (told : Told left later (λ l m. NextTold (to_come r l) (to_come next m) next.last (Ok (Some c)))) where
      -- one run more was said, whole or cut
      one_said : (Done : Type 0) (work : Work) → AreTried Done (asked_lines asked (old.engine.runs + 1) (work ∷ [])) now end → AreTried Done (asked_lines asked 1 (so.works ++ work ∷ [])) before end
      one_said Done work tried =
          let count = so.count in
          let here : old.engine.runs + 1 ≡ 1 + length so.works = omega (arith, count) in
          subst (λ (ls : List (List ℕ)). AreTried Done ls before end) (sym (asked_append asked 1 so.works (work ∷ [])))
          (tried_then Done (asked_lines asked 1 so.works) (asked_lines asked (1 + length so.works) (work ∷ [])) before now end so.tried (subst (λ (n : ℕ). AreTried Done (asked_lines asked n (work ∷ [])) now end) here tried))

      -- the work of one run more
      one_worked : IsMoreWork (work_of counts y) (work_of counts z) → all_work (so.works ++ work_between (work_of counts y) (work_of counts z) ∷ []) ≡ work_between (work_of counts x) (work_of counts z)
      one_worked more =
          all_more so.works (work_between (work_of counts y) (work_of counts z))
          ∙ ap (λ (a : Work). with_work a (work_between (work_of counts y) (work_of counts z))) so.work
          ∙ between_then (work_of counts x) (work_of counts y) (work_of counts z) so.more more

      -- a run was answered
      said_of_run : c ≡ Run → new.engine.runs ≡ old.engine.runs + 1 → state_of new ≡ state_of old → AreTried (Unit {0}) (asked_lines asked (old.engine.runs + 1) (work_between (work_of counts y) (work_of counts z) ∷ [])) now end → IsMoreWork (work_of counts y) (work_of counts z) → Saying new next x z first later before end
      said_of_run is runs window tried more =
          let work = work_between (work_of counts y) (work_of counts z) in
          let longer : length (so.works ++ work ∷ []) ≡ length so.works + 1 = length-append so.works (work ∷ []) in
          record {
            works = so.works ++ work ∷ [];
            tried = one_said (Unit {0}) work tried;
            count = let count = so.count in omega (arith, count, longer, runs);
            work = one_worked more;
            more = more_then (work_of counts x) (work_of counts y) (work_of counts z) so.more more;
            runs = told_then first left later (RunsOn j w most (length so.works) (state_of old) r) (λ l m. NextTold (to_come r l) (to_come next m) next.last (Ok (Some c))) (RunsOn j w most (length (so.works ++ work ∷ [])) (state_of new) next)
                (λ a l m p q.
                let come = ap (λ (s : Script). runs_from j (state_of old) s.0) q in
                let here : runs_on j (state_of old) c (λ v. runs_from j v (to_come next m).0) ≡ runs_from j (state_of old) (to_come next m).0 + 1 = ap (λ (k : Command). runs_on j (state_of old) k (λ v. runs_from j v (to_come next m).0)) is in
                let same = ap (λ (v : WindowState). runs_from j v (to_come next m).0) window in
                omega (arith, p, come, here, same, longer))
                so.runs told;
          }

      -- another command was carried out
      said_of_change : (c ≢ Run) → refusal_of j.accepts (state_of old) c ≡ None → state_of new ≡ window_after (state_of old) c → new.engine.runs ≡ old.engine.runs → end ≡ now → z ≡ y → Saying new next x z first later before end
      said_of_change other taken window runs same still = record {
        works = so.works;
        tried = subst (λ (d : DeviceView). AreTried (Unit {0}) (asked_lines asked 1 so.works) before d) (sym same) so.tried;
        count = so.count ∙ sym runs;
        work = subst (λ (n : Row M). all_work so.works ≡ work_between (work_of counts x) (work_of counts n)) (sym still) so.work;
        more = subst (λ (n : Row M). IsMoreWork (work_of counts x) (work_of counts n)) (sym still) so.more;
        runs = told_then first left later (RunsOn j w most (length so.works) (state_of old) r) (λ l m. NextTold (to_come r l) (to_come next m) next.last (Ok (Some c))) (RunsOn j w most (length so.works) (state_of new) next)
            (λ a l m p q.
            let come = ap (λ (s : Script). runs_from j (state_of old) s.0) q in
            let here = runs_other j (state_of old) c (λ v. runs_from j v (to_come next m).0) other in
            let passed = ap (λ o. none_if_refused o (runs_from j (window_after (state_of old) c) (to_come next m).0)) taken in
            let after = ap (λ (v : WindowState). runs_from j v (to_come next m).0) window in
            omega (arith, p, come, here, passed, after))
            so.runs told;
      }

      -- the window refused it
      said_of_refusal : (c ≢ Run) → (refused : WindowFault) (fault : ScriptFault) → refusal_of j.accepts (state_of old) c ≡ Some refused → end ≡ now → z ≡ y → ScriptSaid j w most counts asked first x z before end (Err (Halts.Script fault))
      said_of_refusal other refused fault is same still =
          let none = told_with left later (λ l m. NextTold (to_come r l) (to_come next m) next.last (Ok (Some c))) (λ l m. runs_from j (state_of old) (to_come r l).0 ≡ 0) told
          (λ l m a b q.
          let come = ap (λ (s : Script). runs_from j (state_of old) s.0) q in
          let here = runs_other j (state_of old) c (λ v. runs_from j v (to_come next m).0) other in
          let passed = ap (λ o. none_if_refused o (runs_from j (window_after (state_of old) c) (to_come next m).0)) is in
          come ∙ here ∙ passed) in
          subst (λ (n : Row M). ScriptSaid j w most counts asked first x n before end (Err (Halts.Script fault))) (sym still)
          (subst (λ (d : DeviceView). ScriptSaid j w most counts asked first x y before d (Err (Halts.Script fault))) (sym same) (said_whole (Err (Halts.Script fault)) later none))

      -- memory ran out in a run
      said_of_cut : c ≡ Run → AreTried ⊥ (asked_lines asked (old.engine.runs + 1) (work_between (work_of counts y) (work_of counts z) ∷ [])) now end → IsMoreWork (work_of counts y) (work_of counts z) → ScriptSaid j w most counts asked first x z before end (Err Halts.Mem)
      said_of_cut is tried more =
          let work = work_between (work_of counts y) (work_of counts z) in
          let longer : length (so.works ++ work ∷ []) ≡ length so.works + 1 = length-append so.works (work ∷ []) in
          record {
            works = so.works ++ work ∷ [];
            tried = one_said ⊥ work tried;
            some = λ script known. (told_script first later (λ a m. length (so.works ++ work ∷ []) ≤ runs_answered j w (commands most a))
                (told_then first left later (RunsOn j w most (length so.works) (state_of old) r) (λ l m. NextTold (to_come r l) (to_come next m) next.last (Ok (Some c))) (λ a m. length (so.works ++ work ∷ []) ≤ runs_answered j w (commands most a))
                (λ a l m p q.
                let come = ap (λ (s : Script). runs_from j (state_of old) s.0) q in
                let here : runs_on j (state_of old) c (λ v. runs_from j v (to_come next m).0) ≡ runs_from j (state_of old) (to_come next m).0 + 1 = ap (λ (k : Command). runs_on j (state_of old) k (λ v. runs_from j v (to_come next m).0)) is in
                omega (arith, p, come, here, longer))
                so.runs told) script known).1;
            all = λ served. absurd served;
            within = subst (λ (a : Work). IsMoreWork a (work_between (work_of counts x) (work_of counts z))) (sym (one_worked more)) (no_less (work_between (work_of counts x) (work_of counts z)));
            exact = λ served. absurd served;
          }

      -- it was carried out
      pub said_on : (line : ℕ) (sunk sinks : DeviceView) (done : Unit {0}) → StepKind j view shaped old new c line sunk sinks (Ok done) → (c ≡ Run → RunSaid asked (old.engine.runs + 1) (work_between (work_of counts y) (work_of counts z)) now end (Ok done)) → ((c ≢ Run) → (end ≡ now) × (z ≡ y)) → IsMoreWork (work_of counts y) (work_of counts z) → Saying new next x z first later before end
      said_on line sunk sinks done (inl a) said still more = said_of_run a.0 a.1.0.engine.runs (ap (λ (v : WindowView). v.window) a.1.0.window) (said a.0) more
      said_on line sunk sinks done (inr a) said still more = said_of_change a.0 a.1.0 a.1.1.window (ap (λ (h : SessionView J T). h.engine.runs) a.1.2) (still a.0).0 (still a.0).1

      -- serving stopped in it
      pub said_at_halt : (line : ℕ) (sunk sinks : DeviceView) (halt : Halt) → StepKind j view shaped old new c line sunk sinks (Err halt) → (c ≡ Run → RunSaid asked (old.engine.runs + 1) (work_between (work_of counts y) (work_of counts z)) now end (Err halt)) → ((c ≢ Run) → (end ≡ now) × (z ≡ y)) → IsMoreWork (work_of counts y) (work_of counts z) → ScriptSaid j w most counts asked first x z before end (Err halt)
      said_at_halt line sunk sinks (Halts.Script fault) (inl a) said still more = absurd a.1
      said_at_halt line sunk sinks (Halts.Script fault) (inr a) said still more = said_of_refusal a.0 a.1.0 fault a.1.1 (still a.0).0 (still a.0).1
      said_at_halt line sunk sinks Halts.Read (inl a) said still more = absurd a.1
      said_at_halt line sunk sinks Halts.Read (inr a) said still more = absurd a.1
      said_at_halt line sunk sinks Halts.Write (inl a) said still more = said_short Halts.Write z end (λ served. served) (said a.0) more
      said_at_halt line sunk sinks Halts.Write (inr a) said still more = absurd a.1
      said_at_halt line sunk sinks Halts.Mem (inl a) said still more = said_of_cut a.0 (said a.0) more
      said_at_halt line sunk sinks Halts.Mem (inr a) said still more = said_short Halts.Mem z end (λ served. served) (still a.0).0 more
