use Rattle.std.proofs.Common.{◌≡◌, List, ℕ, None, All, ◌++◌, length, refl, sym, ap, subst, ◌∙◌, arith}
use Rattle.std.proofs.lemmas.Option.{slice_get_within}
use Rattle.definitions.specs.Answer.{pairs_of}
use Rattle.job_laws.proofs.CountLaws.{rose_none, rose_more}
use Rattle.pin_table.specs.Covers.{Backed, IsLater, names_of}
use Rattle.pin_table.proofs.Covering.{later-same}
use Rattle.map_tasks.specs.Texts.{TextView, IsMappedSo, IsHeld, Comes, Changes, with_came, digest_of_input, pins_in, StayPinned}
use Rattle.map_tasks.specs.Table.{IsAt, FindsText, texts_in}
use Rattle.map_tasks.specs.Lanes.{LaneView}
use Rattle.map_tasks.proofs.Totals.{absent-not-held, change-comes, change-mapped, change-pinned, brings-comes, brings-mapped, brings-pinned}
use Rattle.map_tasks.proofs.Rows.{absent-rows}
use Rattle.map_tasks.proofs.LaneSteps.{found-input, found-held, backed-came}
use Rattle.map_tasks.proofs.lane.Lane.bring_input.Goals as goal

pub come-requires : goal.come-requires
come-requires g c =
    let at : IsAt c.records.result.now c.self.inside.texts.rows c.in-Some.place = c.in-Some.ensures in
    slice_get_within c.self.inside.texts.rows c.in-Some.place at.row at.at

pub invariant_of-self : goal.invariant_of-self
invariant_of-self g c =
    let at : IsAt c.records.result.now c.self.inside.texts.rows c.in-Some.place = c.in-Some.ensures in
    backed-came c.self.inside.caller _ (texts_in c.self.inside.texts.rows) (texts_in c.come.new.self.rows) (names_of digest_of_input c.self.inside.spare.items) (c.in-Ok.ensures.ok at.row at.at) c.self.invariant

pub invariant_of-self-in-Err : goal.invariant_of-self-in-Err
invariant_of-self-in-Err g c = subst (λ (es : List TextView). Backed c.self.inside.caller (pins_in es ++ names_of digest_of_input c.self.inside.spare.items)) (ap (λ t. texts_in t.rows) (sym c.in-Err.ensures.err)) c.self.invariant

pub returns-in-Ok-clause-leaf : goal.returns-in-Ok-clause-leaf
returns-in-Ok-clause-leaf g c =
    let at : IsAt c.args.input.now.text c.self.inside.texts.rows c.in-Some.place = subst (λ (t : List (List ℕ)). IsAt t c.self.inside.texts.rows c.in-Some.place) (c.records.ensures ∙ c.bundle.ensures) c.in-Some.ensures in
    let mapped : All (IsMappedSo c.args.input.now.parts c.args.input.now.setting) (texts_in c.self.inside.texts.rows) = subst (λ (v : LaneView). All (IsMappedSo c.args.input.now.parts c.args.input.now.setting) v.texts) (sym c.self.view_is) c.requires.mapped in
    let same : at.row.1.input ≡ c.args.input.now = found-input c.args.input.now c.self.inside.texts.rows c.in-Some.place at mapped in
    c.in-Ok.ensures.leaf at.row at.at ∙ same

pub returns-in-Ok-clause-ok : goal.returns-in-Ok-clause-ok
returns-in-Ok-clause-ok g c =
    let at : IsAt c.args.input.now.text c.self.inside.texts.rows c.in-Some.place = subst (λ (t : List (List ℕ)). IsAt t c.self.inside.texts.rows c.in-Some.place) (c.records.ensures ∙ c.bundle.ensures) c.in-Some.ensures in
    let mapped : All (IsMappedSo c.args.input.now.parts c.args.input.now.setting) (texts_in c.self.inside.texts.rows) = subst (λ (v : LaneView). All (IsMappedSo c.args.input.now.parts c.args.input.now.setting) v.texts) (sym c.self.view_is) c.requires.mapped in
    let same : at.row.1.input ≡ c.args.input.now = found-input c.args.input.now c.self.inside.texts.rows c.in-Some.place at mapped in
    let changes : Changes c.args.input.now.text with_came (texts_in c.self.inside.texts.rows) (texts_in c.come.new.self.rows) = subst (λ (t : List (List ℕ)). Changes t with_came (texts_in c.self.inside.texts.rows) (texts_in c.come.new.self.rows)) at.is (c.in-Ok.ensures.ok at.row at.at) in
    subst (λ (v : LaneView). Comes c.args.input.now.text v.texts (texts_in c.come.new.self.rows)) c.self.view_is (change-comes c.args.input.now.text (texts_in c.self.inside.texts.rows) (texts_in c.come.new.self.rows) changes)

pub returns-in-Ok-clause-mapped : goal.returns-in-Ok-clause-mapped
returns-in-Ok-clause-mapped g c =
    let at : IsAt c.args.input.now.text c.self.inside.texts.rows c.in-Some.place = subst (λ (t : List (List ℕ)). IsAt t c.self.inside.texts.rows c.in-Some.place) (c.records.ensures ∙ c.bundle.ensures) c.in-Some.ensures in
    let mapped : All (IsMappedSo c.args.input.now.parts c.args.input.now.setting) (texts_in c.self.inside.texts.rows) = subst (λ (v : LaneView). All (IsMappedSo c.args.input.now.parts c.args.input.now.setting) v.texts) (sym c.self.view_is) c.requires.mapped in
    let same : at.row.1.input ≡ c.args.input.now = found-input c.args.input.now c.self.inside.texts.rows c.in-Some.place at mapped in
    let changes : Changes c.args.input.now.text with_came (texts_in c.self.inside.texts.rows) (texts_in c.come.new.self.rows) = subst (λ (t : List (List ℕ)). Changes t with_came (texts_in c.self.inside.texts.rows) (texts_in c.come.new.self.rows)) at.is (c.in-Ok.ensures.ok at.row at.at) in
    change-mapped c.args.input.now.text with_came (texts_in c.self.inside.texts.rows) (texts_in c.come.new.self.rows) changes refl c.args.input.now.parts c.args.input.now.setting mapped

pub returns-in-Ok-clause-pinned : goal.returns-in-Ok-clause-pinned
returns-in-Ok-clause-pinned g c =
    let at : IsAt c.args.input.now.text c.self.inside.texts.rows c.in-Some.place = subst (λ (t : List (List ℕ)). IsAt t c.self.inside.texts.rows c.in-Some.place) (c.records.ensures ∙ c.bundle.ensures) c.in-Some.ensures in
    let changes : Changes c.args.input.now.text with_came (texts_in c.self.inside.texts.rows) (texts_in c.come.new.self.rows) = subst (λ (t : List (List ℕ)). Changes t with_came (texts_in c.self.inside.texts.rows) (texts_in c.come.new.self.rows)) at.is (c.in-Ok.ensures.ok at.row at.at) in
    subst (λ (v : LaneView). StayPinned v.texts (texts_in c.come.new.self.rows)) c.self.view_is (change-pinned c.args.input.now.text with_came (texts_in c.self.inside.texts.rows) (texts_in c.come.new.self.rows) changes refl refl)

pub returns-in-Ok-clause-counted : goal.returns-in-Ok-clause-counted
returns-in-Ok-clause-counted g c = rose_more 0 0 0 (length c.args.input.now.text) 0 (length (pairs_of (g.J.Job.emits (g.J.Job.setting c.args.job.now)) c.args.input.now.text)) (g.J.Meter.Meter.counts c.args.m.now) (g.J.Meter.Meter.counts c.args.m.now) (omega arith) (omega arith) (omega arith) (rose_none (g.J.Meter.Meter.counts c.args.m.now))

pub returns-in-Ok-clause-later : goal.returns-in-Ok-clause-later
returns-in-Ok-clause-later g c = subst (λ (v : LaneView). IsLater v.caller c.self.inside.caller) c.self.view_is (later-same c.self.inside.caller)

pub returns-in-Ok-clause-kept : goal.returns-in-Ok-clause-kept
returns-in-Ok-clause-kept g c =
    let at : IsAt c.args.input.now.text c.self.inside.texts.rows c.in-Some.place = subst (λ (t : List (List ℕ)). IsAt t c.self.inside.texts.rows c.in-Some.place) (c.records.ensures ∙ c.bundle.ensures) c.in-Some.ensures in
    λ off. absurd (off (subst (λ (v : LaneView). IsHeld c.args.input.now.text v.texts) c.self.view_is (found-held c.args.input.now.text c.self.inside.texts.rows c.in-Some.place at)))

pub returns-in-Err-clause-err : goal.returns-in-Err-clause-err
returns-in-Err-clause-err g c = ap (λ t. texts_in t.rows) c.in-Err.ensures.err ∙ ap (λ (v : LaneView). v.texts) c.self.view_is

pub returns-in-Err-clause-mapped : goal.returns-in-Err-clause-mapped
returns-in-Err-clause-mapped g c = subst (All (IsMappedSo c.args.input.now.parts c.args.input.now.setting)) (sym (ap (λ t. texts_in t.rows) c.in-Err.ensures.err ∙ ap (λ (v : LaneView). v.texts) c.self.view_is)) c.requires.mapped

pub returns-in-Err-clause-pinned : goal.returns-in-Err-clause-pinned
returns-in-Err-clause-pinned g c = subst (StayPinned c.args.self.now.texts) (sym (ap (λ t. texts_in t.rows) c.in-Err.ensures.err ∙ ap (λ (v : LaneView). v.texts) c.self.view_is)) (λ t was is s id. refl)

pub returns-in-Err-clause-counted : goal.returns-in-Err-clause-counted
returns-in-Err-clause-counted g c = rose_more 0 0 0 (length c.args.input.now.text) 0 (length (pairs_of (g.J.Job.emits (g.J.Job.setting c.args.job.now)) c.args.input.now.text)) (g.J.Meter.Meter.counts c.args.m.now) (g.J.Meter.Meter.counts c.args.m.now) (omega arith) (omega arith) (omega arith) (rose_none (g.J.Meter.Meter.counts c.args.m.now))

pub returns-in-Err-clause-later : goal.returns-in-Err-clause-later
returns-in-Err-clause-later g c = subst (λ (v : LaneView). IsLater v.caller c.self.inside.caller) c.self.view_is (later-same c.self.inside.caller)

pub returns-in-Ok-bring_new-clause-ok : goal.returns-in-Ok-bring_new-clause-ok
returns-in-Ok-bring_new-clause-ok g c = subst (λ (v : LaneView). Comes c.args.input.now.text v.texts (texts_in c.bring_new.new.texts.rows)) c.self.view_is (brings-comes c.args.input.now (texts_in c.self.inside.texts.rows) (texts_in c.bring_new.new.texts.rows) c.in-Ok-bring_new.ensures.ok)

pub returns-in-Ok-bring_new-clause-mapped : goal.returns-in-Ok-bring_new-clause-mapped
returns-in-Ok-bring_new-clause-mapped g c =
    let mapped : All (IsMappedSo c.args.input.now.parts c.args.input.now.setting) (texts_in c.self.inside.texts.rows) = subst (λ (v : LaneView). All (IsMappedSo c.args.input.now.parts c.args.input.now.setting) v.texts) (sym c.self.view_is) c.requires.mapped in
    brings-mapped c.args.input.now (texts_in c.self.inside.texts.rows) (texts_in c.bring_new.new.texts.rows) c.in-Ok-bring_new.ensures.ok mapped

pub returns-in-Ok-bring_new-clause-pinned : goal.returns-in-Ok-bring_new-clause-pinned
returns-in-Ok-bring_new-clause-pinned g c =
    let absent : FindsText c.args.input.now.text c.self.inside.texts.rows None = subst (λ (t : List (List ℕ)). FindsText t c.self.inside.texts.rows None) (c.records.ensures ∙ c.bundle.ensures) (λ k d h. c.in-None.ensures k d h) in
    subst (λ (v : LaneView). StayPinned v.texts (texts_in c.bring_new.new.texts.rows)) c.self.view_is
    (brings-pinned c.args.input.now (texts_in c.self.inside.texts.rows) (texts_in c.bring_new.new.texts.rows) c.in-Ok-bring_new.ensures.ok (absent-not-held c.args.input.now.text (texts_in c.self.inside.texts.rows) (absent-rows c.args.input.now.text c.self.inside.texts.rows absent)))

pub returns-in-Err-bring_new-clause-pinned : goal.returns-in-Err-bring_new-clause-pinned
returns-in-Err-bring_new-clause-pinned g c = subst (StayPinned c.args.self.now.texts) (sym (c.in-Err-bring_new.ensures.err ∙ ap (λ (v : LaneView). v.texts) c.self.view_is)) (λ t was is s id. refl)

pub returns-in-Ok-bring_new-clause-held : goal.returns-in-Ok-bring_new-clause-held
returns-in-Ok-bring_new-clause-held g c =
    let absent : FindsText c.args.input.now.text c.self.inside.texts.rows None = subst (λ (t : List (List ℕ)). FindsText t c.self.inside.texts.rows None) (c.records.ensures ∙ c.bundle.ensures) (λ k d h. c.in-None.ensures k d h) in
    λ held. absurd (absent-not-held c.args.input.now.text (texts_in c.self.inside.texts.rows) (absent-rows c.args.input.now.text c.self.inside.texts.rows absent) (subst (λ (v : LaneView). IsHeld c.args.input.now.text v.texts) (sym c.self.view_is) held))

pub returns-in-Err-bring_new-clause-held : goal.returns-in-Err-bring_new-clause-held
returns-in-Err-bring_new-clause-held g c =
    let absent : FindsText c.args.input.now.text c.self.inside.texts.rows None = subst (λ (t : List (List ℕ)). FindsText t c.self.inside.texts.rows None) (c.records.ensures ∙ c.bundle.ensures) (λ k d h. c.in-None.ensures k d h) in
    λ held. absurd (absent-not-held c.args.input.now.text (texts_in c.self.inside.texts.rows) (absent-rows c.args.input.now.text c.self.inside.texts.rows absent) (subst (λ (v : LaneView). IsHeld c.args.input.now.text v.texts) (sym c.self.view_is) held))
