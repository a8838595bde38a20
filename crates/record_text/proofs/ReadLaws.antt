-- What a reader has used of its script, line by line.
use Rattle.std.proofs.Common.{◌≡◌, ◌≢◌, ℕ, ◌+◌, ◌-◌, ◌<◌, ◌≤◌, Bool, true, false, List, [], ◌∷◌, ◌++◌, length, take, drop, refl, sym, ap, ◌∙◌, subst, arith, inl, inr, length-take, length-drop, append-nil, append_assoc, take-append-drop}
use Rattle.std.specs.Prelude.{Option, Ok, Err}
use Rattle.std.specs.declared.option.Option.TheVariants.{Some, None}
use Rattle.std.proofs.lemmas.Bool.Decides.{nat_tests}
use Rattle.definitions.specs.Outside.{Told}
use Rattle.definitions.specs.Records.{text_of}
use Rattle.definitions.proofs.ToldBytes.{told_same, told_then}
use Rattle.record_text.specs.Fields.{IsForm}
use Rattle.record_text.specs.Table.{asked, command_of}
use Rattle.record_text.specs.Script.{ACommand, ARecord, Script, from_line, step, after_records, fits_command}
use Rattle.record_text.specs.Reading.{IsLine, Goes, Comes, Sound, Used, Uses, Stops, RecordsAre, CommandIs, Took, TakenWhere, Lacks, RecordsLack, NeedsMore, NextLineIs, SamePlace}
use Rattle.record_text.specs.declared.reading.Reading.{Reading}
use Rattle.record_text.specs.declared.script_fault.ScriptFault.{ScriptFault}
use Rattle.record_text.specs.declared.script_fault.Why.{Why}
use Rattle.record_text.specs.declared.script_fault.Why.TheVariants.{ShortInput, WindowLarge, Read}
use Rattle.record_text.specs.declared.table.Head.{Head}
use Rattle.record_text.specs.declared.table.Asked.TheVariants.{Asks, Refuses}
use Rattle.record_text.proofs.LineLaws.{EndsLine-append}
use Rattle.record_text.proofs.ScriptLaws.{one_read, all_read, step-record, step-large, step-asks, step-refuses, from_line-none, length_append}

abbrev IsTrueTest : Bool → Type 0
IsTrueTest true = Unit {0}
IsTrueTest false = ⊥

abbrev IsRead : Why → Type 0
IsRead Read = Unit {0}
IsRead other = ⊥

pub true_false : {A : Type 0} → true ≡ false → A
true_false e = absurd (subst IsTrueTest e tt)

pub form_not_read : (why : Why) → IsForm why → why ≢ Read
form_not_read why form e = subst IsForm e form

-- nothing was used
pub uses_none : (a : Reading) (l : Option (List ℕ)) → Uses a a l l []
uses_none a l = record {
  bytes = record { bytes = told_same l (λ x y. a.ahead ++ x ≡ [] ++ (a.ahead ++ y)) (λ x. refl); stays = λ is. (is, refl); ends = λ is. refl };
  count = omega arith;
}

-- more was used
pub used_then : (a b c : Bool) (ha hb hc : List ℕ) (la lb lc : Option (List ℕ)) (u v : List ℕ) → Used a b ha hb la lb u → Used b c hb hc lb lc v → Used a c ha hc la lc (u ++ v)
used_then a b c ha hb hc la lb lc u v p q = record {
  bytes = told_then la lb lc (λ l m. ha ++ l ≡ u ++ (hb ++ m)) (λ l m. hb ++ l ≡ v ++ (hc ++ m)) (λ l m. ha ++ l ≡ (u ++ v) ++ (hc ++ m))
      (λ x y z f g. f ∙ ap (λ (l : List ℕ). u ++ l) g ∙ sym (append_assoc u v (hc ++ z))) p.bytes q.bytes;
  stays = λ is. let s = p.stays is in let t = q.stays s.0 in (t.0, s.1 ∙ ap (λ (l : List ℕ). u ++ l) t.1 ∙ sym (append_assoc u v hc));
  ends = λ is. EndsLine-append u v (p.ends (before b q is)) (q.ends is);
}
  where
    before : (b : Bool) → Used b c hb hc lb lc v → c ≡ false → b ≡ false
    before true q is = true_false (sym (q.stays refl).0 ∙ is)
    before false q is = refl

pub uses_then : (a b c : Reading) (la lb lc : Option (List ℕ)) (u v : List ℕ) → Uses a b la lb u → Uses b c lb lc v → Uses a c la lc (u ++ v)
uses_then a b c la lb lc u v p q = record {
  bytes = used_then a.ended b.ended c.ended a.ahead b.ahead c.ahead la lb lc u v p.bytes q.bytes;
  count = omega (arith, p.count, q.count, length_append u v);
}

pub uses_more : (a b c : Reading) (la lb lc : Option (List ℕ)) (u : List ℕ) → Uses a b la lb u → Uses b c lb lc [] → Uses a c la lc u
uses_more a b c la lb lc u p q = subst (λ (l : List ℕ). Uses a c la lc l) (append-nil u) (uses_then a b c la lb lc u [] p q)

-- a line ahead was used
module _ (r s : Reading) (left : Option (List ℕ)) (len skip : ℕ) (line : IsLine r.ended r.ahead len skip) (ahead : s.ahead ≡ drop skip r.ahead) (room : s.room ≡ r.room) (ended : s.ended ≡ r.ended) where
  used_line : Used r.ended r.ended r.ahead (drop skip r.ahead) left left (take skip r.ahead)
  used_line = record {
    bytes = told_same left (λ l m. r.ahead ++ l ≡ take skip r.ahead ++ (drop skip r.ahead ++ m)) (λ x. ap (λ (l : List ℕ). l ++ x) (sym (take-append-drop skip r.ahead)) ∙ append_assoc (take skip r.ahead) (drop skip r.ahead) x);
    stays = λ is. (is, sym (take-append-drop skip r.ahead));
    ends = line.ends;
  }

  pub uses_line : Uses r s left left (take skip r.ahead)
  uses_line = record {
    bytes = subst (λ (e : Bool). Used r.ended e r.ahead s.ahead left left (take skip r.ahead)) (sym ended)
        (subst (λ (h : List ℕ). Used r.ended r.ended r.ahead h left left (take skip r.ahead)) (sym ahead) used_line);
    count = let n = ap (λ (h : List ℕ). length h) ahead in omega (arith, n, room, length-take skip r.ahead, length-drop skip r.ahead, line.within);
  }

  pub sound_line : Sound r left → s.line ≡ r.line + 1 → Sound s left
  sound_line sound next = record {
    empty = λ e. sound.empty (sym ended ∙ e);
    more = λ e. let m = sound.more (sym ended ∙ e) in omega (arith, m, room);
    size = let n = ap (λ (h : List ℕ). length h) ahead in omega (arith, n, room, next, sound.size, length-drop skip r.ahead, line.within, line.some);
  }

  pub count_line : s.line ≡ r.line + 1 → s.line + (s.room + length s.ahead) ≤ r.line + (r.room + length r.ahead)
  count_line next = let n = ap (λ (h : List ℕ). length h) ahead in omega (arith, n, room, next, length-drop skip r.ahead, line.within, line.some)

  pub goes_line : (full : Bool) (x : List ℕ) → Goes s.ended s.ahead full x → Goes r.ended (drop skip r.ahead) full x
  goes_line full x goes e = let g = goes (ended ∙ e) in (g.0, g.1 ∙ ahead)

-- what comes after the bytes ahead of a reader
pub goes_on : (s : Reading) (full : Bool) (x : List ℕ) → Comes s.ended s.room full x → Goes s.ended s.ahead full (s.ahead ++ x)
goes_on s full x comes e = let c = comes.0 e in (c.0, ap (λ (l : List ℕ). s.ahead ++ l) c.1 ∙ append-nil s.ahead)

-- some record lines of the command on line `at` were read, `left` are still to come
abbrev pub IsReading : ℕ → ℕ → Reading → ℕ → List (List ℕ) → List ℕ → Type 0
IsReading at n s left got used = (head : Head) (full : Bool) (x : List ℕ) → Goes s.ended s.ahead full x → after_records at head n [] (λ next. from_line full next (at + 1) (used ++ x)) ≡ after_records at head left got (λ next. from_line full next (s.line + 1) x)

-- before another record line: r is the state before a look for it, s after
module _ (at n left : ℕ) (r s : Reading) (got : List (List ℕ)) (used : List ℕ) (lr ls : Option (List ℕ)) (reading : IsReading at n r left got used) (looks : Uses r s lr ls []) (place : SamePlace r s) (some : 0 < left) where
  -- as far as the next line
  up_to : (head : Head) (full : Bool) (y : List ℕ) → Goes s.ended s.ahead full y → after_records at head n [] (λ next. from_line full next (at + 1) (used ++ y)) ≡ from_line full (ARecord at head (left - 1) got) (s.line + 1) y
  up_to head full y goes =
      reading head full y (λ e. let st = looks.bytes.stays e in let g = goes st.0 in (g.0, g.1 ∙ sym st.1))
      ∙ one_read at head left got (λ next. from_line full next (r.line + 1) y) some
      ∙ ap (λ (m : ℕ). from_line full (ARecord at head (left - 1) got) (m + 1) y) (sym place.line)

  -- the script ends there
  pub short : (s.ended ≡ true) × (s.ahead ≡ []) → (head : Head) → Stops s.ended s.room used s.ahead (λ full x. after_records at head n [] (λ next. from_line full next (at + 1) x)) (record { line = at; why = ShortInput })
  short end head = inr (inr (
    (λ e. subst IsRead (sym e) tt),
    λ full x comes.
        let c = comes.0 end.0 in
        up_to head full (s.ahead ++ x) (goes_on s full x comes)
        ∙ (λ i. from_line (c.0 i) (ARecord at head (left - 1) got) (s.line + 1) (end.1 i ++ c.1 i))
        ∙ from_line-none (ARecord at head (left - 1) got) (s.line + 1),
  ))

  -- a fault comes instead
  pub stops : (fault : ScriptFault) → NextLineIs r.line s.ended s.room s.ahead (Err fault) → (head : Head) → Stops s.ended s.room used s.ahead (λ full x. after_records at head n [] (λ next. from_line full next (at + 1) x)) fault
  stops fault (inl mem) head = inl mem
  stops fault (inr (inl read)) head = inr (inl (
    read.0,
    read.1,
    read.2,
    read.3,
    ap (λ (l : List ℕ). (after_records at head n [] (λ next. from_line false next (at + 1) l)).0) (sym (append-nil used))
        ∙ ap (λ (t : Script). t.0) (up_to head false [] (λ e. true_false (sym e ∙ read.1)) ∙ from_line-none (ARecord at head (left - 1) got) (s.line + 1)),
  ))
  stops fault (inr (inr other)) head = inr (inr (
    other.0,
    λ full x comes.
        up_to head full (s.ahead ++ x) (goes_on s full x comes)
        ∙ ap (λ (m : ℕ). from_line full (ARecord at head (left - 1) got) (m + 1) (s.ahead ++ x)) place.line
        ∙ other.1 full x (ARecord at head (left - 1) got) comes,
  ))

  -- the line is used
  module _ (t : Reading) (len skip : ℕ) (line : IsLine s.ended s.ahead len skip) (ahead : t.ahead ≡ drop skip s.ahead) (room : t.room ≡ s.room) (ended : t.ended ≡ s.ended) (next : t.line ≡ s.line + 1) (more : List (List ℕ)) (pushed : more ≡ got ++ take len s.ahead ∷ []) where
    up_to_step : (head : Head) (full : Bool) (x : List ℕ) → Goes t.ended t.ahead full x → after_records at head n [] (λ next. from_line full next (at + 1) ((used ++ take skip s.ahead) ++ x)) ≡ step (ARecord at head (left - 1) got) (s.line + 1) (take len s.ahead) (λ next. from_line full next (t.line + 1) x)
    up_to_step head full x goes =
        let on = goes_line s t ls len skip line ahead room ended full x goes in
        ap (λ (l : List ℕ). after_records at head n [] (λ next. from_line full next (at + 1) l)) (append_assoc used (take skip s.ahead) x)
        ∙ up_to head full (take skip s.ahead ++ x) (λ e. let g = on e in (g.0, ap (λ (l : List ℕ). take skip s.ahead ++ l) g.1 ∙ take-append-drop skip s.ahead))
        ∙ line.reads full x (ARecord at head (left - 1) got) (s.line + 1) on
        ∙ ap (λ (m : ℕ). step (ARecord at head (left - 1) got) (s.line + 1) (take len s.ahead) (λ next. from_line full next (m + 1) x)) (sym next)

    pub reads_line : (left' : ℕ) → left' ≡ left - 1 → fits_command more ≡ true → IsReading at n t left' more (used ++ take skip s.ahead)
    reads_line left' fewer fits head full x goes =
        up_to_step head full x goes
        ∙ step-record at head (left - 1) got (s.line + 1) (take len s.ahead) (λ next. from_line full next (t.line + 1) x) (ap fits_command (sym pushed) ∙ fits)
        ∙ (λ i. after_records at head (sym fewer i) (sym pushed i) (λ next. from_line full next (t.line + 1) x))

    pub large : fits_command more ≡ false → (head : Head) → Stops t.ended t.room (used ++ take skip s.ahead) t.ahead (λ full x. after_records at head n [] (λ next. from_line full next (at + 1) x)) (record { line = at; why = WindowLarge })
    large fits head = inr (inr (
      (λ e. subst IsRead (sym e) tt),
      λ full x comes.
          up_to_step head full (t.ahead ++ x) (goes_on t full x comes)
          ∙ step-large at head (left - 1) got (s.line + 1) (take len s.ahead) (λ next. from_line full next (t.line + 1) (t.ahead ++ x)) (ap fits_command (sym pushed) ∙ fits),
    ))

-- all record lines were read
pub records_are : (at n : ℕ) (s : Reading) (left : ℕ) (got : List (List ℕ)) (used : List ℕ) → IsReading at n s left got used → left ≡ 0 → RecordsAre at n s.line s.ended s.room used s.ahead (Ok got)
records_are at n s left got used reading none head full x goes = reading head full x goes ∙ all_read at head left got (λ next. from_line full next (s.line + 1) x) none

-- a command line: r is the state before a look for it, s after, and t if the line is used
module _ (r s t : Reading) (lr ls : Option (List ℕ)) (looks : Uses r s lr ls []) (place : SamePlace r s) where
  pub command_stops : (last : ℕ) (fault : ScriptFault) → NextLineIs r.line s.ended s.room s.ahead (Err fault) → CommandIs r.line s.line last s.ended s.room [] s.ahead (Err fault)
  command_stops last fault (inl mem) = inl mem
  command_stops last fault (inr (inl read)) = inr (inl (read.0, read.1, read.2, read.3, ap (λ (x : Script). x.0) (from_line-none ACommand (r.line + 1))))
  command_stops last fault (inr (inr other)) = inr (inr (other.0, λ full x comes. other.1 full x ACommand comes))

  module _ (len skip : ℕ) (line : IsLine s.ended s.ahead len skip) (ahead : t.ahead ≡ drop skip s.ahead) (room : t.room ≡ s.room) (ended : t.ended ≡ s.ended) (next : t.line ≡ s.line + 1) where
    num : t.line ≡ r.line + 1
    num = next ∙ ap (λ (m : ℕ). m + 1) place.line

    begin : (full : Bool) (y : List ℕ) → Goes t.ended t.ahead full y → from_line full ACommand (r.line + 1) (take skip s.ahead ++ y) ≡ step ACommand t.line (take len s.ahead) (λ next. from_line full next (t.line + 1) y)
    begin full y goes =
        line.reads full y ACommand (r.line + 1) (goes_line s t ls len skip line ahead room ended full y goes)
        ∙ ap (λ (m : ℕ). step ACommand m (take len s.ahead) (λ next. from_line full next (m + 1) y)) (sym num)

    pub refuses : (last : ℕ) (why : Why) → asked (take len s.ahead) ≡ Refuses why → IsForm why → CommandIs r.line t.line last t.ended t.room (take skip s.ahead) t.ahead (Err (record { line = t.line; why = why }))
    refuses last why is form = inr (inr (
      form_not_read why form,
      λ full x comes.
          begin full (t.ahead ++ x) (goes_on t full x comes)
          ∙ step-refuses t.line (take len s.ahead) (λ next. from_line full next (t.line + 1) (t.ahead ++ x)) why is,
    ))

    -- its record lines: u is the state after them
    module _ (head : Head) (n : ℕ) (is : asked (take len s.ahead) ≡ Asks head n) (u : Reading) (lu : Option (List ℕ)) (used : List ℕ) (rest : Uses t u ls lu used) where
      up_to_records : (full : Bool) (y : List ℕ) → Goes t.ended t.ahead full y → from_line full ACommand (r.line + 1) (take skip s.ahead ++ y) ≡ after_records t.line head n [] (λ next. from_line full next (t.line + 1) y)
      up_to_records full y goes = begin full y goes ∙ step-asks t.line (take len s.ahead) (λ next. from_line full next (t.line + 1) y) head n is

      -- if the record lines lack something, so does the command
      pub needs_records : t.ended ≡ false → (x : List ℕ) → RecordsLack t.line n (t.ahead ++ x) → NeedsMore r.line (take skip s.ahead ++ (t.ahead ++ x))
      needs_records open' x lack = let found = lack head in (found.0, up_to_records true (t.ahead ++ x) (λ e. true_false (sym e ∙ open')) ∙ found.1)

      pub command_is : (got : List (List ℕ)) → RecordsAre t.line n u.line u.ended u.room used u.ahead (Ok got) → CommandIs r.line u.line t.line u.ended u.room (take skip s.ahead ++ used) u.ahead (Ok (Some (command_of head got)))
      command_is got records full x goes =
          ap (λ (l : List ℕ). from_line full ACommand (r.line + 1) l) (append_assoc (take skip s.ahead) used x)
          ∙ up_to_records full (used ++ x) (λ e. let st = rest.bytes.stays e in let g = goes st.0 in (g.0, ap (λ (l : List ℕ). used ++ l) g.1 ∙ sym st.1))
          ∙ records head full x goes

      pub records_stop : (last : ℕ) (fault : ScriptFault) → RecordsAre t.line n u.line u.ended u.room used u.ahead (Err fault) → CommandIs r.line u.line last u.ended u.room (take skip s.ahead ++ used) u.ahead (Err fault)
      records_stop last fault records = stopped (records head)
        where
          stopped : Stops u.ended u.room used u.ahead (λ full x. after_records t.line head n [] (λ next. from_line full next (t.line + 1) x)) fault → CommandIs r.line u.line last u.ended u.room (take skip s.ahead ++ used) u.ahead (Err fault)
          stopped (inl mem) = inl mem
          stopped (inr (inl read)) = inr (inl (
            read.0,
            read.1,
            read.2,
            read.3,
            ap (λ (x : Script). x.0) (up_to_records false used (λ e. true_false (sym (rest.bytes.stays e).0 ∙ read.1))) ∙ read.4,
          ))
          stopped (inr (inr other)) = inr (inr (
            other.0,
            λ full x comes.
                ap (λ (l : List ℕ). from_line full ACommand (r.line + 1) l) (append_assoc (take skip s.ahead) used (u.ahead ++ x))
                ∙ up_to_records full (used ++ (u.ahead ++ x)) (λ e. let st = rest.bytes.stays e in let g = goes_on u full x comes st.0 in (g.0, ap (λ (l : List ℕ). used ++ l) g.1 ∙ sym st.1))
                ∙ other.1 full x comes,
          ))

-- after bytes that are held or used, and those that came since, at most a piece comes
module _ {S : Type 0} (lacks : List ℕ → Type 0) (a b c : S) (r s : Reading) (used : List ℕ) where
  took_later : (others : List ℕ → Type 0) (came after : List ℕ) → used ++ s.ahead ≡ r.ahead ++ came → (took : Took others s.ahead after) → lacks (used ++ (s.ahead ++ took.first)) → Took lacks r.ahead (used ++ after)
  took_later others came after held took lack = record {
    first = came ++ took.first;
    last = took.last;
    bytes = ap (λ (l : List ℕ). used ++ l) took.bytes ∙ sym (append_assoc used s.ahead (took.first ++ took.last)) ∙ ap (λ (l : List ℕ). l ++ (took.first ++ took.last)) held
        ∙ append_assoc r.ahead came (took.first ++ took.last) ∙ ap (λ (l : List ℕ). r.ahead ++ l) (sym (append_assoc came took.first took.last));
    piece = took.piece;
    lacked = subst lacks (sym (append_assoc used s.ahead took.first) ∙ ap (λ (l : List ℕ). l ++ took.first) held ∙ append_assoc r.ahead came took.first) lack;
  }

  -- a reader goes on: what is lacking after s, of which `others` speaks, is lacking after r
  module _ (others : List ℕ → Type 0) (t : Reading) (more : List ℕ) (lacking : s.ended ≡ false → (x : List ℕ) → others (s.ahead ++ x) → lacks (used ++ (s.ahead ++ x))) where
    longer : Took lacks r.ahead (used ++ (more ++ t.ahead)) → Took lacks r.ahead ((used ++ more) ++ t.ahead)
    longer took = subst (λ (l : List ℕ). Took lacks r.ahead l) (sym (append_assoc used more t.ahead)) took

    pub taken_then : TakenWhere lacks a b r s used → TakenWhere others b c s t more → TakenWhere lacks a c r t (used ++ more)
    taken_then (inl held) (inl still) = inl (record {
      source = still.source ∙ held.source;
      ended = still.ended ∙ held.ended;
      ahead = held.ahead ∙ ap (λ (l : List ℕ). used ++ l) still.ahead ∙ sym (append_assoc used more t.ahead);
    })
    taken_then (inl held) (inr took) = inr (
      sym held.ended ∙ took.0,
      longer (took_later others [] (more ++ t.ahead) (sym held.ahead ∙ sym (append-nil r.ahead)) took.1 (lacking took.0 took.1.first took.1.lacked)),
    )
    taken_then (inr before) (inl still) = inr (before.0, longer (subst (λ (l : List ℕ). Took lacks r.ahead (used ++ l)) still.ahead before.1))
    taken_then (inr before) (inr took) = inr (
      before.0,
      longer (took_later others (before.1.first ++ before.1.last) (more ++ t.ahead) before.1.bytes took.1 (lacking took.0 took.1.first took.1.lacked)),
    )

-- nothing was taken yet
pub taken_none : {S : Type 0} (lacks : List ℕ → Type 0) (a : S) (r : Reading) → TakenWhere lacks a a r r []
taken_none lacks a r = inl (record { source = refl; ended = refl; ahead = refl })

pub taken_same : {S : Type 0} (lacks : List ℕ → Type 0) (a b : S) (r s t : Reading) (used : List ℕ) → t.ended ≡ s.ended → t.ahead ≡ s.ahead → TakenWhere lacks a b r s used → TakenWhere lacks a b r t used
taken_same lacks a b r s t used ended ahead (inl held) = inl (record { source = held.source; ended = ended ∙ held.ended; ahead = held.ahead ∙ ap (λ (l : List ℕ). used ++ l) (sym ahead) })
taken_same lacks a b r s t used ended ahead (inr took) = inr (took.0, subst (λ (l : List ℕ). Took lacks r.ahead (used ++ l)) (sym ahead) took.1)

-- a source that ended has nothing left
ended_empty : (l m : Option (List ℕ)) (Ended : Type 0) → Told l m (λ x y. Ended → y ≡ []) → Ended → (z : List ℕ) → m ≡ Some z → z ≡ []
ended_empty None None Ended told is z e = cc
ended_empty None (Some y) Ended told is z e = absurd told
ended_empty (Some x) None Ended told is z e = absurd told
ended_empty (Some x) (Some y) Ended told is z e = let empty = told is in cc

-- a piece was taken, or none
module _ (s t : Reading) (l m : Option (List ℕ)) (open' : s.ended ≡ false) where
  pub uses_filled : Told l m (λ x y. s.ahead ++ x ≡ t.ahead ++ y) → t.room + length t.ahead ≡ s.room + length s.ahead → Uses s t l m []
  uses_filled told count = record { bytes = record { bytes = told; stays = λ e. true_false (sym e ∙ open'); ends = λ is. refl }; count = omega (arith, count) }

  pub sound_filled : Sound s l → 0 < s.room → Told l m (λ x y. t.ended ≡ true → y ≡ []) → (t.ended ≡ true → t.room ≡ s.room) → t.room + length t.ahead ≡ s.room + length s.ahead → t.line ≡ s.line → Sound t m
  sound_filled sound some end off count line = record { empty = λ e. ended_empty l m (t.ended ≡ true) end e; more = λ e. omega (arith, some, off e); size = omega (arith, sound.size, count, line) }

-- a look takes one piece more if the next line is not held
pub line_more : {S : Type 0} (a b c : S) (r s t : Reading) → s.ended ≡ false → Lacks s.ahead → take (length s.ahead) t.ahead ≡ s.ahead → length t.ahead ≤ length s.ahead + 65536 → TakenWhere Lacks a b r s [] → TakenWhere Lacks a c r t []
line_more a b c r s t open' lack prefix most before = taken_then Lacks a b c r s [] Lacks t [] (λ _ x l. l) before (inr (
  open',
  record {
    first = [];
    last = drop (length s.ahead) t.ahead;
    bytes = sym (take-append-drop (length s.ahead) t.ahead) ∙ ap (λ (l : List ℕ). l ++ drop (length s.ahead) t.ahead) prefix;
    piece = omega (arith, length-drop (length s.ahead) t.ahead, most);
    lacked = subst Lacks (sym (append-nil s.ahead)) lack;
  },
))

-- a line ahead is used
pub taken_line : {S : Type 0} (lacks : List ℕ → Type 0) (a b : S) (r s t : Reading) (used : List ℕ) (skip : ℕ) → t.ended ≡ s.ended → t.ahead ≡ drop skip s.ahead → TakenWhere lacks a b r s used → TakenWhere lacks a b r t (used ++ take skip s.ahead)
taken_line lacks a b r s t used skip ended ahead before =
    taken_then lacks a b b r s used (λ _. ⊥) t (take skip s.ahead) (λ _ x no. absurd no) before
    (inl (record { source = refl; ended = ended; ahead = sym (take-append-drop skip s.ahead) ∙ ap (λ (l : List ℕ). take skip s.ahead ++ l) (sym ahead) }))

-- a record line is looked for
pub taken_record : {S : Type 0} (at n left : ℕ) (a b c : S) (r s t : Reading) (got : List (List ℕ)) (used : List ℕ) → IsReading at n s left got used → 0 < left → TakenWhere (RecordsLack at n) a b r s used → TakenWhere Lacks b c s t [] → TakenWhere (RecordsLack at n) a c r t used
taken_record at n left a b c r s t got used reading some before look =
    subst (λ (l : List ℕ). TakenWhere (RecordsLack at n) a c r t l) (append-nil used)
    (taken_then (RecordsLack at n) a b c r s used Lacks t [] lacking before look)
  where
    lacking : s.ended ≡ false → (x : List ℕ) → Lacks (s.ahead ++ x) → RecordsLack at n (used ++ (s.ahead ++ x))
    lacking open' x lack head = (
      s.line + 1,
      reading head true (s.ahead ++ x) (λ e. true_false (sym e ∙ open'))
          ∙ one_read at head left got (λ next. from_line true next (s.line + 1) (s.ahead ++ x)) some
          ∙ lack (ARecord at head (left - 1) got) (s.line + 1),
    )

-- a command line is looked for
pub taken_command : {S : Type 0} (a b : S) (r s : Reading) → TakenWhere Lacks a b r s [] → TakenWhere (NeedsMore r.line) a b r s []
taken_command a b r s look = taken_then (NeedsMore r.line) a a b r r [] Lacks s [] (λ _ x lack. (r.line + 1, lack ACommand (r.line + 1))) (taken_none (NeedsMore r.line) a r) look

-- whether the records of a command fit, by their text
pub fits_not : (records : List (List ℕ)) (n : ℕ) → n ≡ length (text_of records) → 268435456 < n → fits_command records ≡ false
fits_not records n is large = grind (arith, nat_tests)

pub fits_all : (records : List (List ℕ)) (n : ℕ) → n ≡ length (text_of records) → n ≤ 268435456 → fits_command records ≡ true
fits_all records n is small = grind (arith, nat_tests)
