-- How serving goes on from command to command, and how each of its ends gives the script's output.
use Rattle.std.proofs.Common.{◌≡◌, ◌≢◌, ℕ, ◌+◌, ◌<◌, ◌≤◌, Bool, true, false, List, [], ◌++◌, length, refl, sym, ap, ◌∙◌, subst, arith, inl, inr, ◌⊎◌, append-nil, append_assoc}
use Rattle.std.specs.Prelude.{Option, Ok, Err}
use Rattle.std.specs.declared.option.Option.TheVariants.{Some, None}
use Rattle.definitions.specs.Outside.{Rose, Told, IsPrefix, GainsPrefix}
use Rattle.definitions.proofs.ToldBytes.{told_same, told_then, told_with}
use Rattle.record_text.specs.declared.command.Command.{Command}
use Rattle.record_text.specs.declared.script_fault.ScriptFault.{ScriptFault}
use Rattle.record_text.specs.declared.script_fault.Why.TheVariants.{Read, Mem}
use Rattle.record_text.specs.declared.reading.Reading.{Reading}
use Rattle.record_text.specs.Lines.{EndsLine, HasNoLine, whole_lines}
use Rattle.record_text.specs.Script.{Script, Ending, Done, Faulty, ACommand, commands, from_line, with_command}
use Rattle.record_text.specs.Reading.{Sound, Uses, NextTold, NextTaken, to_come}
use Rattle.record_text.proofs.LineLaws.{whole_lines-used}
use Rattle.record_text.proofs.ScriptLaws.{commands-short}
use Rattle.record_text.proofs.ReadLaws.{uses_then}
use Rattle.window_manager.specs.Windows.{WindowState}
use Rattle.job_laws.specs.Meanings.{Meaning}
use Rattle.slider_session.specs.Devices.{DeviceView}
use Rattle.slider_session.specs.Output.{Outcome, after_bytes, on_command, outcome_from, outcome_of, output_of, ending_of}
use Rattle.slider_session.specs.Calls.{SessionView, state_of}
use Rattle.slider_session.specs.Serving.{Serves, EndsSo, Writes, Whole, AtFault, OfTaken, WritesPrefix, HaltIs}
use Rattle.slider_session.specs.declared.halt.Halt.{Halt}
use Rattle.slider_session.specs.declared.halt.Halt.TheVariants as Halts
use Rattle.slider_session.proofs.Stepping.{Goes, IsCut, IsRefused, ComesTo}

-- true is not false
true_false : true ≡ false → ⊥
true_false e = cc

-- bytes written after bytes
pub after_after : (a b : List ℕ) (o : Outcome) → after_bytes a (after_bytes b o) ≡ after_bytes (a ++ b) o
after_after a b o = ap (λ (x : List ℕ). (x, o.1)) (sym (append_assoc a b o.0))

module _ {V : Type 0} (j : Meaning V) where
  -- the commands of a script, before run i over a window
  abbrev pub walk : ℕ → WindowState → Script → Outcome
  walk i w script = outcome_from j i w script.0 script.1

  -- the first command, and the walk after it
  pub walk_command : (i : ℕ) (w : WindowState) (c : Command) (line : ℕ) (old new : Script) → old ≡ with_command (c, line) new → walk i w old ≡ on_command j i w c line (λ next window. walk next window new)
  walk_command i w c line old new is = ap (λ (s : Script). walk i w s) is

  -- serving is between two commands, from the window `w` on: `gain` was written, and `past` are the bytes used since
  -- the reader was made as `fresh`
  pub record Stands {J T : Type 0} (w : WindowState) (most : ℕ) (fresh : Reading) (h : SessionView J T) (r : Reading) (first left before now : Option (List ℕ)) : Type 0 where
    pub gain : List ℕ
    pub past : List ℕ
    pub written : Told before now (λ old new. new ≡ old ++ gain)
    pub walks : Told first left (λ script after. outcome_of j w (commands most script) ≡ after_bytes gain (walk (h.engine.runs + 1) (state_of h) (to_come r after)))
    pub used : Uses fresh r first left past
    pub taken : r.ended ≡ false → (full : Bool) (x : List ℕ) → walk 1 w (from_line full ACommand 1 (past ++ x)) ≡ after_bytes gain (walk (h.engine.runs + 1) (state_of h) (from_line full ACommand (r.line + 1) x))

-- two facts of observable bytes
told_both : (a b : Option (List ℕ)) (P Q : List ℕ → List ℕ → Type 0) → Told a b P → Told a b Q → Told a b (λ x y. P x y × Q x y)
told_both None None P Q p q = tt
told_both None (Some y) P Q p q = p
told_both (Some x) None P Q p q = p
told_both (Some x) (Some y) P Q p q = (p, q)

-- if a later test fails, an earlier one did
not_before : (a b : Bool) → (a ≡ true → b ≡ true) → b ≡ false → a ≡ false
not_before true b grows is = sym (grows refl) ∙ is
not_before false b grows is = refl

module _ {J T V : Type 0} (j : Meaning V) (w : WindowState) (most : ℕ) (fresh : Reading) (h : SessionView J T) (r : Reading) (first left before now : Option (List ℕ)) (s : Stands j w most fresh h r first left before now) where
  -- a command was read and carried out
  module _ (new : SessionView J T) (next : Reading) (c : Command) (later : Option (List ℕ)) (wrote : Option (List ℕ)) where
    pub goes_on : Told left later (λ l m. NextTold (to_come r l) (to_come next m) next.last (Ok (Some c))) → (used : List ℕ) × Uses r next left later used × NextTaken r next used (Ok (Some c)) → Goes j h new c next.last now wrote → Stands j w most fresh new next first later before wrote
    goes_on told took g = record {
      gain = s.gain ++ g.gain;
      past = s.past ++ took.0;
      written = told_then before now wrote (λ old new. new ≡ old ++ s.gain) (λ old new. new ≡ old ++ g.gain) (λ old new. new ≡ old ++ (s.gain ++ g.gain))
          (λ x y z p q. q ∙ ap (λ (l : List ℕ). l ++ g.gain) p ∙ append_assoc x s.gain g.gain) s.written g.written;
      walks = told_then first left later (λ script l. outcome_of j w (commands most script) ≡ after_bytes s.gain (walk j (h.engine.runs + 1) (state_of h) (to_come r l))) (λ l m. NextTold (to_come r l) (to_come next m) next.last (Ok (Some c)))
          (λ script m. outcome_of j w (commands most script) ≡ after_bytes (s.gain ++ g.gain) (walk j (new.engine.runs + 1) (state_of new) (to_come next m)))
          (λ x y z p q. p ∙ ap (after_bytes s.gain) (walk_command j (h.engine.runs + 1) (state_of h) c next.last (to_come r y) (to_come next z) q ∙ g.goes (λ i v. walk j i v (to_come next z))) ∙ after_after s.gain g.gain (walk j (new.engine.runs + 1) (state_of new) (to_come next z)))
          s.walks told;
      used = uses_then fresh r next first left later s.past took.0 s.used took.1;
      taken = λ going full x.
          let was = not_before r.ended next.ended (λ e. (took.1.bytes.stays e).0) going in
          ap (λ (b : List ℕ). walk j 1 w (from_line full ACommand 1 b)) (append_assoc s.past took.0 x)
          ∙ s.taken was full (took.0 ++ x)
          ∙ ap (after_bytes s.gain) (walk_command j (h.engine.runs + 1) (state_of h) c next.last (from_line full ACommand (r.line + 1) (took.0 ++ x)) (from_line full ACommand (next.line + 1) x) (took.2 full x (λ e. absurd (true_false (sym e ∙ going)))) ∙ g.goes (λ i v. walk j i v (from_line full ACommand (next.line + 1) x)))
          ∙ after_after s.gain g.gain (walk j (new.engine.runs + 1) (state_of new) (from_line full ACommand (next.line + 1) x));
    }

  -- the walk of the script goes on as the rest does, and ends so
  module _ (later : Option (List ℕ)) where
    Ends : Ending → List ℕ → List ℕ → Type 0
    Ends e script after = outcome_of j w (commands most script) ≡ after_bytes s.gain ([], e)

    all_written : (e : Ending) (script : List ℕ) → outcome_of j w (commands most script) ≡ after_bytes s.gain ([], e) → (ending_of j w (commands most script) ≡ e) × Writes j w most script before now
    all_written e script is = (
      ap (λ (o : Outcome). o.1) is,
      told_with before now (λ old new. new ≡ old ++ s.gain) (λ old new. new ≡ old ++ output_of j w (commands most script)) s.written
          (λ old new c d wrote. wrote ∙ ap (λ (l : List ℕ). old ++ l) (sym (append-nil s.gain) ∙ sym (ap (λ (o : Outcome). o.0) is))),
    )

    -- the script ended
    pub at_end : (next : Reading) → Told left later (λ l m. NextTold (to_come r l) (to_come next m) next.last (Ok None)) → (used : List ℕ) × Uses r next left later used × NextTaken r next used (Ok None) → Sound next later → Told first later (λ script after. Whole j w most script after before now)
    at_end next told took sound =
        told_with first later _ _ (told_then first left later (λ script l. outcome_of j w (commands most script) ≡ after_bytes s.gain (walk j (h.engine.runs + 1) (state_of h) (to_come r l))) (λ l m. NextTold (to_come r l) (to_come next m) next.last (Ok None)) (λ script m. outcome_of j w (commands most script) ≡ after_bytes s.gain ([], Done))
        (λ x y z p q. p ∙ ap (λ (t : Script). after_bytes s.gain (walk j (h.engine.runs + 1) (state_of h) t)) q.0) s.walks told)
        (λ script after a b is. let both = all_written Done script is in (both.0, sound.empty took.2.0 after b, both.1))

    -- the script had a fault of form
    pub at_fault : (next : Reading) (fault : ScriptFault) → (fault.why ≢ Read) → (fault.why ≢ Mem) → Told left later (λ l m. NextTold (to_come r l) (to_come next m) next.last (Err fault)) → Told first later (λ script after. AtFault j w most fault.line fault.why script before now)
    at_fault next fault read mem told =
        told_with first later _ _ (told_then first left later (λ script l. outcome_of j w (commands most script) ≡ after_bytes s.gain (walk j (h.engine.runs + 1) (state_of h) (to_come r l))) (λ l m. NextTold (to_come r l) (to_come next m) next.last (Err fault)) (λ script m. outcome_of j w (commands most script) ≡ after_bytes s.gain ([], Faulty fault.line fault.why))
        (λ x y z p q. p ∙ ap (λ (t : Script). after_bytes s.gain (walk j (h.engine.runs + 1) (state_of h) t)) (the_fault (to_come r y) q.0)) s.walks told)
        (λ script after a b is. all_written (Faulty fault.line fault.why) script is)
      where
        the_fault : (t : Script) → (fault.why ≡ Mem) ⊎ (fault.why ≡ Read) ⊎ (t ≡ ([], Faulty fault.line fault.why)) → t ≡ ([], Faulty fault.line fault.why)
        the_fault t (inl is) = absurd (mem is)
        the_fault t (inr (inl is)) = absurd (read is)
        the_fault t (inr (inr is)) = is

    -- what was written is a prefix of the output
    pub at_prefix : Told left later (λ l m. Unit {0}) → Told first later (λ script after. Told before now (GainsPrefix (output_of j w (commands most script))))
    at_prefix told =
        told_with first later _ _ (told_then first left later (λ script l. outcome_of j w (commands most script) ≡ after_bytes s.gain (walk j (h.engine.runs + 1) (state_of h) (to_come r l))) (λ l m. Unit {0}) (λ script m. IsPrefix s.gain (output_of j w (commands most script)))
        (λ x y z p q. ((walk j (h.engine.runs + 1) (state_of h) (to_come r y)).0, ap (λ (o : Outcome). o.0) p)) s.walks told)
        (λ script after a b prefix. told_with before now (λ old new. new ≡ old ++ s.gain) (GainsPrefix (output_of j w (commands most script))) s.written (λ old new c d wrote. (s.gain, prefix, wrote)))

    -- the source failed
    pub at_read : (fresh.ahead ≡ []) → (fresh.room ≡ most) → (fresh.ended ≡ false) → (next : Reading) (fault : ScriptFault) → fault.why ≡ Read → (used : List ℕ) × Uses r next left later used × NextTaken r next used (Err fault) → Told first later (λ script after. OfTaken j w most script after before now)
    unfolding outcome_of
    at_read none room going next fault read took =
        let past = s.past ++ took.0 in
        let all : Uses fresh next first later past = uses_then fresh r next first left later s.past took.0 s.used took.1 in
        let why = the_read took.2 in
        let ends : EndsLine past = all.bytes.ends why.0 in
        let was = not_before r.ended next.ended (λ e. (took.1.bytes.stays e).0) why.0 in
        let short : length past < most = omega (arith, all.count, room, why.1, ap (λ (l : List ℕ). length l) none) in
        let out : (walk j 1 w (commands most past)).0 ≡ s.gain =
        ap (λ (t : Script). (walk j 1 w t).0) (commands-short most past short)
        ∙ ap (λ (o : Outcome). o.0) (s.taken was false took.0)
        ∙ ap (λ (l : List ℕ). s.gain ++ l) (nothing (from_line false ACommand (r.line + 1) took.0) why.3)
        ∙ append-nil s.gain in
        let prefix : Told first later (λ script after. IsPrefix s.gain (output_of j w (commands most script))) =
        told_then first left later (λ script l. outcome_of j w (commands most script) ≡ after_bytes s.gain (walk j (h.engine.runs + 1) (state_of h) (to_come r l))) (λ l m. r.ahead ++ l ≡ took.0 ++ (next.ahead ++ m)) (λ script m. IsPrefix s.gain (output_of j w (commands most script)))
        (λ x y z p q. ((walk j (h.engine.runs + 1) (state_of h) (to_come r y)).0, ap (λ (o : Outcome). o.0) p)) s.walks took.1.bytes.bytes in
        let whole : output_of j w (commands most (whole_lines (past ++ next.ahead))) ≡ s.gain = ap (λ (l : List ℕ). output_of j w (commands most l)) (whole_lines-used past next.ahead ends why.2) ∙ out in
        told_with first later _ _ (told_both first later (λ script after. fresh.ahead ++ script ≡ past ++ (next.ahead ++ after)) (λ script after. IsPrefix s.gain (output_of j w (commands most script))) all.bytes.bytes prefix)
        (λ script after a b both. record {
          bytes = past ++ next.ahead;
          taken = sym (ap (λ (l : List ℕ). l ++ script) none) ∙ both.0 ∙ sym (append_assoc past next.ahead after);
          written = told_with before now (λ old new. new ≡ old ++ s.gain) (λ old new. new ≡ old ++ output_of j w (commands most (whole_lines (past ++ next.ahead)))) s.written
              (λ old new c d wrote. wrote ∙ ap (λ (l : List ℕ). old ++ l) (sym whole));
          prefix = subst (λ (l : List ℕ). IsPrefix l (output_of j w (commands most script))) (sym whole) both.1;
        })
      where
        not_mem : Mem ≡ Read → ⊥
        not_mem e = cc

        the_read : NextTaken r next took.0 (Err fault) → (next.ended ≡ false) × (0 < next.room) × HasNoLine next.ahead × ((from_line false ACommand (r.line + 1) took.0).0 ≡ [])
        the_read (inl is) = absurd (not_mem (sym is ∙ read))
        the_read (inr (inl is)) = (is.1, is.2, is.3, is.4)
        the_read (inr (inr is)) = absurd (is.0 read)

        nothing : (t : Script) → t.0 ≡ [] → (walk j (h.engine.runs + 1) (state_of h) t).0 ≡ []
        nothing t is = ap (λ (cs : List (Command × ℕ)). (outcome_from j (h.engine.runs + 1) (state_of h) cs t.1).0) is

  -- a command was read that the window refuses, or that was cut short
  module _ (new : SessionView J T) (next : Reading) (c : Command) (later : Option (List ℕ)) (wrote : Option (List ℕ)) (told : Told left later (λ l m. NextTold (to_come r l) (to_come next m) next.last (Ok (Some c)))) where
    reached : Told first later (λ script m. outcome_of j w (commands most script) ≡ after_bytes s.gain (on_command j (h.engine.runs + 1) (state_of h) c next.last (λ i v. walk j i v (to_come next m))))
    reached = told_then first left later (λ script l. outcome_of j w (commands most script) ≡ after_bytes s.gain (walk j (h.engine.runs + 1) (state_of h) (to_come r l))) (λ l m. NextTold (to_come r l) (to_come next m) next.last (Ok (Some c)))
        (λ script m. outcome_of j w (commands most script) ≡ after_bytes s.gain (on_command j (h.engine.runs + 1) (state_of h) c next.last (λ i v. walk j i v (to_come next m))))
        (λ x y z p q. p ∙ ap (after_bytes s.gain) (walk_command j (h.engine.runs + 1) (state_of h) c next.last (to_come r y) (to_come next z) q)) s.walks told

    -- the window refuses it
    pub at_refusal : (fault : ScriptFault) → IsRefused j h new c next.last now wrote fault → Told first later (λ script after. AtFault j w most fault.line fault.why script before wrote)
    at_refusal fault is_refused =
        told_with first later _ _ reached (λ script after a b is. subst (λ (o : Option (List ℕ)). AtFault j w most fault.line fault.why script before o) (sym is_refused.unwritten)
        (all_written later (Faulty fault.line fault.why) script (is ∙ ap (after_bytes s.gain) (is_refused.ends (λ i v. walk j i v (to_come next after))))))

    -- it was cut short
    pub at_cut : IsCut j h new c next.last now wrote → Told first later (λ script after. WritesPrefix j w most script before wrote)
    at_cut cut =
        told_with first later _ _ reached (λ script after a b is.
        let prefix = cut.prefix (λ i v. walk j i v (to_come next after)) in
        told_then before now wrote (λ old new. new ≡ old ++ s.gain) (λ old new. new ≡ old ++ cut.gain) (GainsPrefix (output_of j w (commands most script)))
        (λ x y z p q. (s.gain ++ cut.gain, (prefix.0, ap (λ (o : Outcome). o.0) is ∙ ap (λ (l : List ℕ). s.gain ++ l) prefix.1 ∙ sym (append_assoc s.gain cut.gain prefix.0)), q ∙ ap (λ (l : List ℕ). l ++ cut.gain) p ∙ append_assoc x s.gain cut.gain))
        s.written cut.written)

-- serving begins
module _ {J T V : Type 0} (j : Meaning V) (w : WindowState) (most : ℕ) (fresh : Reading) (h : SessionView J T) (left before : Option (List ℕ)) where
  pub begins : h.engine.runs ≡ 0 → (state_of h) ≡ w → (fresh.line ≡ 0) → ((script : List ℕ) → to_come fresh script ≡ commands most script) → Uses fresh fresh left left [] → Stands j w most fresh h fresh left left before before
  unfolding outcome_of
  begins zero window line all none = record {
    gain = [];
    past = [];
    written = told_same before (λ old new. new ≡ old ++ []) (λ x. sym (append-nil x));
    walks = told_same left (λ script after. outcome_of j w (commands most script) ≡ after_bytes [] (walk j (h.engine.runs + 1) (state_of h) (to_come fresh after)))
        (λ x. λ i. walk j (sym (ap (λ (n : ℕ). n + 1) zero) i) (sym window i) (sym (all x) i));
    used = none;
    taken = λ going full x. λ i. walk j (sym (ap (λ (n : ℕ). n + 1) zero) i) (sym window i) (from_line full ACommand (sym (ap (λ (n : ℕ). n + 1) line) i) x);
  }

-- a count that did not decrease and then increased has increased
rose_later : (first before now : ℕ) → first ≤ before → Rose before now → Rose first now
rose_later first before now later rose = omega (arith, later, rose)

-- serving did not begin
pub nothing_yet : {V : Type 0} (j : Meaning V) (w : WindowState) (most : ℕ) (left before : DeviceView) → Serves j w most left left before before (Err Halts.Mem)
nothing_yet j w most left before = record {
  ends = told_same left.bytes (λ script after. Told before.bytes before.bytes (GainsPrefix (output_of j w (commands most script)))) (λ script.
      told_same before.bytes (GainsPrefix (output_of j w (commands most script))) (λ x. ([], (output_of j w (commands most script), refl), sym (append-nil x))));
  source_later = omega arith;
  sink_later = omega arith;
}

-- The reader went on from `left` to `rest`, and before that from `first`; the sink held `before` first and holds `now`.
module _ {J T V : Type 0} (j : Meaning V) (w : WindowState) (most : ℕ) (fresh : Reading) (h : SessionView J T) (r : Reading) (first left before now : DeviceView) (s : Stands j w most fresh h r first.bytes left.bytes before.bytes now.bytes) (next : Reading) (rest : DeviceView) where
  -- the script ended
  pub at_close : Told left.bytes rest.bytes (λ l m. NextTold (to_come r l) (to_come next m) next.last (Ok None)) → (used : List ℕ) × Uses r next left.bytes rest.bytes used × NextTaken r next used (Ok None) → Sound next rest.bytes → EndsSo j w most first rest before now (Ok tt)
  at_close told took sound = at_end j w most fresh h r first.bytes left.bytes before.bytes now.bytes s rest.bytes next told took sound

  -- the reader stopped with a fault
  pub at_stop : (fresh.ahead ≡ []) → (fresh.room ≡ most) → (fresh.ended ≡ false) → (fault : ScriptFault) (halt : Halt) → HaltIs fault halt → first.faults ≤ left.faults → (fault.why ≡ Read → Rose left.faults rest.faults)
      → Told left.bytes rest.bytes (λ l m. NextTold (to_come r l) (to_come next m) next.last (Err fault)) → (used : List ℕ) × Uses r next left.bytes rest.bytes used × NextTaken r next used (Err fault) → EndsSo j w most first rest before now (Err halt)
  at_stop none room open' fault (Halts.Script f) is later failed told took =
      subst (λ (x : ScriptFault). EndsSo j w most first rest before now (Err (Halts.Script x))) (sym is.0)
      (at_fault j w most fresh h r first.bytes left.bytes before.bytes now.bytes s rest.bytes next fault is.1.0 is.1.1 told, is.1)
  at_stop none room open' fault Halts.Read is later failed told took = (
    at_read j w most fresh h r first.bytes left.bytes before.bytes now.bytes s rest.bytes none room open' next fault is took,
    rose_later first.faults left.faults rest.faults later (failed is),
  )
  at_stop none room open' fault Halts.Write is later failed told took = absurd is
  at_stop none room open' fault Halts.Mem is later failed told took = at_prefix j w most fresh h r first.bytes left.bytes before.bytes now.bytes s rest.bytes (told_with left.bytes rest.bytes _ (λ l m. Unit {0}) told (λ x y a b p. tt))

  -- a step stopped
  pub at_halt : (new : SessionView J T) (c : Command) (wrote : DeviceView) (halt : Halt) → before.faults ≤ now.faults → Told left.bytes rest.bytes (λ l m. NextTold (to_come r l) (to_come next m) next.last (Ok (Some c))) → ComesTo j h new c next.last now wrote (Err halt) → EndsSo j w most first rest before wrote (Err halt)
  at_halt new c wrote (Halts.Script fault) later told comes = (at_refusal j w most fresh h r first.bytes left.bytes before.bytes now.bytes s new next c rest.bytes wrote.bytes told fault comes.0, comes.1)
  at_halt new c wrote Halts.Read later told comes = absurd comes
  at_halt new c wrote Halts.Write later told comes = (
    at_cut j w most fresh h r first.bytes left.bytes before.bytes now.bytes s new next c rest.bytes wrote.bytes told comes.0,
    rose_later before.faults now.faults wrote.faults later comes.1,
  )
  at_halt new c wrote Halts.Mem later told comes = at_cut j w most fresh h r first.bytes left.bytes before.bytes now.bytes s new next c rest.bytes wrote.bytes told comes
