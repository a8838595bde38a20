use Rattle.std.proofs.Common.{◌≡◌, ◌≤◌, ◌-◌, ◌*◌, ◌++◌, true, false, Bool, ℕ, None, Some, length, map, take, drop, arith, sym, ap, subst, ◌∙◌}
use Rattle.std.specs.List.{All}
use Rattle.job_laws.specs.Counted.{RoseBy, RoseWithin}
use Rattle.sheets.specs.United.{tables_of}
use Rattle.record_text.specs.declared.kind.Kind.TheVariants.{Document}
use Rattle.record_text.specs.Shifts.{FitsShift, shifted}
use Rattle.pin_table.specs.Covers.{Covered, Balanced}
use Rattle.pin_table.specs.OwnEvents.{Met}
use Rattle.tree_laws.specs.Pairs.{pair_digest}
use Rattle.tree_laws.specs.Trees.{Seen, IsLeaf, IsDrafted, LooseOnlyIf, no_shape, distinct_keys}
use Rattle.random_tree.specs.Inputs.{fresh_inputs}
use Rattle.random_tree.specs.Levels.{seen_of, count_after, IsSound, IsTree, IsUndrafted, bottom, now_of, group_table, levels_pins}
use Rattle.random_tree.specs.Steps.{Drafts, DraftsSome}
use Rattle.random_tree.proofs.SeenLaws.{no-draft}
use Rattle.random_tree.proofs.SpliceLaws.{written, same-length}
use Rattle.random_tree.proofs.CallLaws.{plain-fits, few-pins, advanced-balanced, advanced-covered, advanced-levels, drafted-sound, drafted-view, drafted-loose, drafted-rose, drafted-paid, some-rose, failed-sound, failed-view, failed-balanced, failed-covered, failed-paid}
use Rattle.random_tree.proofs.tree.RandomTreeTree.advance.Goals as goal

pub draft_all-requires-clause-some : goal.draft_all-requires-clause-some
draft_all-requires-clause-some g c =
    c.self.invariant.some

pub draft_all-requires-clause-undrafted : goal.draft_all-requires-clause-undrafted
draft_all-requires-clause-undrafted g c =
    let s = c.self.inside in
    let d = pair_digest g.J.Job.encoded in
    let u = c.args.caller.now in
    let off = no-draft s.drafted s.levels.items (ap (λ (t : Seen g.row.J-Val.Denot). t.tree.draft) c.self.view_is ∙ c.requires.no_draft) in
    c.self.invariant.undrafted off

pub draft_all-requires-clause-tree : goal.draft_all-requires-clause-tree
draft_all-requires-clause-tree g c =
    let s = c.self.inside in
    let d = pair_digest g.J.Job.encoded in
    let u = c.args.caller.now in
    let of : g.J.Job.setting c.args.job.now ≡ s.setting = c.requires.job ∙ sym (ap (λ (t : Seen g.row.J-Val.Denot). t.tree.setting) c.self.view_is) in
    subst (λ (n : ℕ). IsTree g.J.Job.joined n g.J.Job.encoded (map group_table (bottom (map now_of s.levels.items))) (map now_of s.levels.items)) (sym of) c.self.invariant.now

pub draft_all-requires-clause-fits : goal.draft_all-requires-clause-fits
draft_all-requires-clause-fits g c =
    let s = c.self.inside in
    let d = pair_digest g.J.Job.encoded in
    let u = c.args.caller.now in
    let off = no-draft s.drafted s.levels.items (ap (λ (t : Seen g.row.J-Val.Denot). t.tree.draft) c.self.view_is ∙ c.requires.no_draft) in
    let is = ap (λ (b : Bool). seen_of d s.setting s.places s.levels.items b) (sym off) ∙ c.self.view_is in
    let fits = subst (λ (t : Seen g.row.J-Val.Denot). FitsShift Document t.tree.places t.tree.leaves.first (length t.tree.leaves.tables) (length c.args.fresh.now) c.args.shift.now) (sym is) c.requires.fits in
    plain-fits group_table s.places 0 (length c.args.fresh.now) (bottom (map now_of s.levels.items)) c.args.shift.now fits

pub draft_all-requires-clause-settings : goal.draft_all-requires-clause-settings
draft_all-requires-clause-settings g c =
    subst (λ (n : ℕ). All (λ t. t.setting ≡ n) c.args.fresh.now) (sym c.requires.job) c.requires.settings

pub invariant_of-self : goal.invariant_of-self
invariant_of-self g c =
    let s = c.self.inside in
    let d = pair_digest g.J.Job.encoded in
    let u = c.args.caller.now in
    let v = c.draft_all.new.caller in
    let x = g.J.Meter.Meter.counts c.args.m.now in
    let y = g.J.Meter.Meter.counts c.draft_all.new.m in
    let new = c.draft_all.new.levels.items in
    let off = no-draft s.drafted s.levels.items (ap (λ (t : Seen g.row.J-Val.Denot). t.tree.draft) c.self.view_is ∙ c.requires.no_draft) in
    let is = ap (λ (b : Bool). seen_of d s.setting s.places s.levels.items b) (sym off) ∙ c.self.view_is in
    let of : g.J.Job.setting c.args.job.now ≡ s.setting = c.requires.job ∙ sym (ap (λ (t : Seen g.row.J-Val.Denot). t.tree.setting) c.self.view_is) in
    let sound = subst (λ (b : Bool). IsSound g.J.Job.good g.J.Job.joined g.J.Job.encoded s.setting s.levels.items b) off c.self.invariant in
    let fits = subst (λ (t : Seen g.row.J-Val.Denot). FitsShift Document t.tree.places t.tree.leaves.first (length t.tree.leaves.tables) (length c.args.fresh.now) c.args.shift.now) (sym is) c.requires.fits in
    let news_sound = subst (λ (n : ℕ). All (IsLeaf g.J.Job.good n) c.args.fresh.now) of c.in-Ok.ensures.sound in
    let drafts = subst (λ (n : ℕ). Drafts g.J.Job.joined n g.J.Job.encoded c.args.shift.now c.args.fresh.now u v x y s.levels.items new) of c.in-Ok.ensures.ok in
    drafted-sound g.J.Job.good g.J.Job.joined g.J.Job.encoded s.setting s.places c.args.shift.now c.args.fresh.now s.places 0 s.levels.items new sound fits c.draft_all.ensures.same c.draft_all.ensures.some u v x y c.draft_all.ensures.gains news_sound drafts c.draft_all.ensures.fits c.in-Ok.ensures.room

pub returns-in-Ok-clause-ok : goal.returns-in-Ok-clause-ok
returns-in-Ok-clause-ok g c =
    let s = c.self.inside in
    let d = pair_digest g.J.Job.encoded in
    let u = c.args.caller.now in
    let v = c.draft_all.new.caller in
    let x = g.J.Meter.Meter.counts c.args.m.now in
    let y = g.J.Meter.Meter.counts c.draft_all.new.m in
    let new = c.draft_all.new.levels.items in
    let off = no-draft s.drafted s.levels.items (ap (λ (t : Seen g.row.J-Val.Denot). t.tree.draft) c.self.view_is ∙ c.requires.no_draft) in
    let is = ap (λ (b : Bool). seen_of d s.setting s.places s.levels.items b) (sym off) ∙ c.self.view_is in
    let of : g.J.Job.setting c.args.job.now ≡ s.setting = c.requires.job ∙ sym (ap (λ (t : Seen g.row.J-Val.Denot). t.tree.setting) c.self.view_is) in
    let sound = subst (λ (b : Bool). IsSound g.J.Job.good g.J.Job.joined g.J.Job.encoded s.setting s.levels.items b) off c.self.invariant in
    let fits = subst (λ (t : Seen g.row.J-Val.Denot). FitsShift Document t.tree.places t.tree.leaves.first (length t.tree.leaves.tables) (length c.args.fresh.now) c.args.shift.now) (sym is) c.requires.fits in
    let news_sound = subst (λ (n : ℕ). All (IsLeaf g.J.Job.good n) c.args.fresh.now) of c.in-Ok.ensures.sound in
    let drafts = subst (λ (n : ℕ). Drafts g.J.Job.joined n g.J.Job.encoded c.args.shift.now c.args.fresh.now u v x y s.levels.items new) of c.in-Ok.ensures.ok in
    subst (λ (t : Seen g.row.J-Val.Denot). IsDrafted (λ shape h. no_shape) c.args.shift.now c.args.fresh.now t.tree (seen_of d s.setting s.places new true).tree) is (drafted-view g.J.Job.good g.J.Job.joined g.J.Job.encoded s.setting s.places c.args.shift.now c.args.fresh.now s.places 0 s.levels.items new sound fits c.draft_all.ensures.same c.draft_all.ensures.some u v x y c.draft_all.ensures.gains news_sound drafts c.draft_all.ensures.fits c.in-Ok.ensures.room)

pub returns-in-Ok-clause-covered : goal.returns-in-Ok-clause-covered
returns-in-Ok-clause-covered g c =
    let s = c.self.inside in
    let d = pair_digest g.J.Job.encoded in
    let u = c.args.caller.now in
    let v = c.draft_all.new.caller in
    let x = g.J.Meter.Meter.counts c.args.m.now in
    let y = g.J.Meter.Meter.counts c.draft_all.new.m in
    let new = c.draft_all.new.levels.items in
    let off = no-draft s.drafted s.levels.items (ap (λ (t : Seen g.row.J-Val.Denot). t.tree.draft) c.self.view_is ∙ c.requires.no_draft) in
    let is = ap (λ (b : Bool). seen_of d s.setting s.places s.levels.items b) (sym off) ∙ c.self.view_is in
    let of : g.J.Job.setting c.args.job.now ≡ s.setting = c.requires.job ∙ sym (ap (λ (t : Seen g.row.J-Val.Denot). t.tree.setting) c.self.view_is) in
    let sound = subst (λ (b : Bool). IsSound g.J.Job.good g.J.Job.joined g.J.Job.encoded s.setting s.levels.items b) off c.self.invariant in
    let fits = subst (λ (t : Seen g.row.J-Val.Denot). FitsShift Document t.tree.places t.tree.leaves.first (length t.tree.leaves.tables) (length c.args.fresh.now) c.args.shift.now) (sym is) c.requires.fits in
    let covered = subst (λ (t : Seen g.row.J-Val.Denot). Covered u t.pins) (sym is) c.requires.covered in
    advanced-covered g.J.Job.good g.J.Job.joined g.J.Job.encoded s.setting s.places c.args.shift.now c.args.fresh.now s.places 0 s.levels.items new sound fits c.draft_all.ensures.same c.draft_all.ensures.some u v x y c.draft_all.ensures.gains true covered

pub returns-in-Ok-clause-balanced : goal.returns-in-Ok-clause-balanced
returns-in-Ok-clause-balanced g c =
    let s = c.self.inside in
    let d = pair_digest g.J.Job.encoded in
    let u = c.args.caller.now in
    let v = c.draft_all.new.caller in
    let x = g.J.Meter.Meter.counts c.args.m.now in
    let y = g.J.Meter.Meter.counts c.draft_all.new.m in
    let new = c.draft_all.new.levels.items in
    let off = no-draft s.drafted s.levels.items (ap (λ (t : Seen g.row.J-Val.Denot). t.tree.draft) c.self.view_is ∙ c.requires.no_draft) in
    let is = ap (λ (b : Bool). seen_of d s.setting s.places s.levels.items b) (sym off) ∙ c.self.view_is in
    let of : g.J.Job.setting c.args.job.now ≡ s.setting = c.requires.job ∙ sym (ap (λ (t : Seen g.row.J-Val.Denot). t.tree.setting) c.self.view_is) in
    let sound = subst (λ (b : Bool). IsSound g.J.Job.good g.J.Job.joined g.J.Job.encoded s.setting s.levels.items b) off c.self.invariant in
    let fits = subst (λ (t : Seen g.row.J-Val.Denot). FitsShift Document t.tree.places t.tree.leaves.first (length t.tree.leaves.tables) (length c.args.fresh.now) c.args.shift.now) (sym is) c.requires.fits in
    subst (λ (t : Seen g.row.J-Val.Denot). Balanced u t.pins v (seen_of d s.setting s.places new true).pins) is (advanced-balanced g.J.Job.good g.J.Job.joined g.J.Job.encoded s.setting s.places c.args.shift.now c.args.fresh.now s.places 0 s.levels.items new sound fits c.draft_all.ensures.same c.draft_all.ensures.some u v x y c.draft_all.ensures.gains true)

pub returns-in-Ok-clause-loose : goal.returns-in-Ok-clause-loose
returns-in-Ok-clause-loose g c =
    let s = c.self.inside in
    let d = pair_digest g.J.Job.encoded in
    let u = c.args.caller.now in
    let v = c.draft_all.new.caller in
    let x = g.J.Meter.Meter.counts c.args.m.now in
    let y = g.J.Meter.Meter.counts c.draft_all.new.m in
    let new = c.draft_all.new.levels.items in
    let off = no-draft s.drafted s.levels.items (ap (λ (t : Seen g.row.J-Val.Denot). t.tree.draft) c.self.view_is ∙ c.requires.no_draft) in
    let is = ap (λ (b : Bool). seen_of d s.setting s.places s.levels.items b) (sym off) ∙ c.self.view_is in
    let of : g.J.Job.setting c.args.job.now ≡ s.setting = c.requires.job ∙ sym (ap (λ (t : Seen g.row.J-Val.Denot). t.tree.setting) c.self.view_is) in
    let sound = subst (λ (b : Bool). IsSound g.J.Job.good g.J.Job.joined g.J.Job.encoded s.setting s.levels.items b) off c.self.invariant in
    let fits = subst (λ (t : Seen g.row.J-Val.Denot). FitsShift Document t.tree.places t.tree.leaves.first (length t.tree.leaves.tables) (length c.args.fresh.now) c.args.shift.now) (sym is) c.requires.fits in
    let news_sound = subst (λ (n : ℕ). All (IsLeaf g.J.Job.good n) c.args.fresh.now) of c.in-Ok.ensures.sound in
    let drafts = subst (λ (n : ℕ). Drafts g.J.Job.joined n g.J.Job.encoded c.args.shift.now c.args.fresh.now u v x y s.levels.items new) of c.in-Ok.ensures.ok in
    subst (λ (t : Seen g.row.J-Val.Denot). LooseOnlyIf (Met u v) t.tree (seen_of d s.setting s.places new true).tree) is (drafted-loose g.J.Job.good g.J.Job.joined g.J.Job.encoded s.setting s.places c.args.shift.now c.args.fresh.now s.places 0 s.levels.items new sound fits c.draft_all.ensures.same c.draft_all.ensures.some u v x y c.draft_all.ensures.gains news_sound drafts c.draft_all.ensures.fits c.in-Ok.ensures.room)

pub returns-in-Ok-clause-counted : goal.returns-in-Ok-clause-counted
returns-in-Ok-clause-counted g c =
    let s = c.self.inside in
    let d = pair_digest g.J.Job.encoded in
    let u = c.args.caller.now in
    let v = c.draft_all.new.caller in
    let x = g.J.Meter.Meter.counts c.args.m.now in
    let y = g.J.Meter.Meter.counts c.draft_all.new.m in
    let new = c.draft_all.new.levels.items in
    let off = no-draft s.drafted s.levels.items (ap (λ (t : Seen g.row.J-Val.Denot). t.tree.draft) c.self.view_is ∙ c.requires.no_draft) in
    let is = ap (λ (b : Bool). seen_of d s.setting s.places s.levels.items b) (sym off) ∙ c.self.view_is in
    let of : g.J.Job.setting c.args.job.now ≡ s.setting = c.requires.job ∙ sym (ap (λ (t : Seen g.row.J-Val.Denot). t.tree.setting) c.self.view_is) in
    let sound = subst (λ (b : Bool). IsSound g.J.Job.good g.J.Job.joined g.J.Job.encoded s.setting s.levels.items b) off c.self.invariant in
    let fits = subst (λ (t : Seen g.row.J-Val.Denot). FitsShift Document t.tree.places t.tree.leaves.first (length t.tree.leaves.tables) (length c.args.fresh.now) c.args.shift.now) (sym is) c.requires.fits in
    let news_sound = subst (λ (n : ℕ). All (IsLeaf g.J.Job.good n) c.args.fresh.now) of c.in-Ok.ensures.sound in
    let drafts = subst (λ (n : ℕ). Drafts g.J.Job.joined n g.J.Job.encoded c.args.shift.now c.args.fresh.now u v x y s.levels.items new) of c.in-Ok.ensures.ok in
    subst (λ (t : Seen g.row.J-Val.Denot). RoseBy 0 (count_after c.args.shift.now (length t.tree.leaves.tables) - 1) ((count_after c.args.shift.now (length t.tree.leaves.tables) - 1) * distinct_keys (shifted c.args.shift.now (tables_of c.args.fresh.now) t.tree.leaves.tables)) x y) is (drafted-rose g.J.Job.good g.J.Job.joined g.J.Job.encoded s.setting s.places c.args.shift.now c.args.fresh.now s.places 0 s.levels.items new sound fits c.draft_all.ensures.same c.draft_all.ensures.some u v x y c.draft_all.ensures.gains news_sound drafts c.draft_all.ensures.fits c.in-Ok.ensures.room)

pub returns-in-Ok-clause-tight : goal.returns-in-Ok-clause-tight
returns-in-Ok-clause-tight g c =
    let s = c.self.inside in
    let d = pair_digest g.J.Job.encoded in
    let u = c.args.caller.now in
    let v = c.draft_all.new.caller in
    let x = g.J.Meter.Meter.counts c.args.m.now in
    let y = g.J.Meter.Meter.counts c.draft_all.new.m in
    let new = c.draft_all.new.levels.items in
    let off = no-draft s.drafted s.levels.items (ap (λ (t : Seen g.row.J-Val.Denot). t.tree.draft) c.self.view_is ∙ c.requires.no_draft) in
    let is = ap (λ (b : Bool). seen_of d s.setting s.places s.levels.items b) (sym off) ∙ c.self.view_is in
    let of : g.J.Job.setting c.args.job.now ≡ s.setting = c.requires.job ∙ sym (ap (λ (t : Seen g.row.J-Val.Denot). t.tree.setting) c.self.view_is) in
    let sound = subst (λ (b : Bool). IsSound g.J.Job.good g.J.Job.joined g.J.Job.encoded s.setting s.levels.items b) off c.self.invariant in
    let fits = subst (λ (t : Seen g.row.J-Val.Denot). FitsShift Document t.tree.places t.tree.leaves.first (length t.tree.leaves.tables) (length c.args.fresh.now) c.args.shift.now) (sym is) c.requires.fits in
    let news_sound = subst (λ (n : ℕ). All (IsLeaf g.J.Job.good n) c.args.fresh.now) of c.in-Ok.ensures.sound in
    let drafts = subst (λ (n : ℕ). Drafts g.J.Job.joined n g.J.Job.encoded c.args.shift.now c.args.fresh.now u v x y s.levels.items new) of c.in-Ok.ensures.ok in
    let covered = subst (λ (t : Seen g.row.J-Val.Denot). Covered u t.pins) (sym is) c.requires.covered in
    subst (λ (t : Seen g.row.J-Val.Denot). t.tree.leaves.loose ≡ false → (Met u v → ⊥) → RoseWithin (length (fresh_inputs g.J.Job.encoded g.J.Job.joined t.tree.setting t.tree.leaves.tables (shifted c.args.shift.now (tables_of c.args.fresh.now) t.tree.leaves.tables))) x.merges y.merges) is (λ tight clean. drafted-paid g.J.Job.good g.J.Job.joined g.J.Job.encoded s.setting s.places c.args.shift.now c.args.fresh.now s.places 0 s.levels.items new sound fits c.draft_all.ensures.same c.draft_all.ensures.some u v x y c.draft_all.ensures.gains news_sound drafts c.draft_all.ensures.fits c.in-Ok.ensures.room tight covered clean)

pub revert_all-requires-clause-of : goal.revert_all-requires-clause-of
revert_all-requires-clause-of g c =
    c.draft_all.ensures.gains.gets.0.later.locks ∙ c.requires.of

pub revert_all-requires-clause-covered : goal.revert_all-requires-clause-covered
revert_all-requires-clause-covered g c =
    let s = c.self.inside in
    let d = pair_digest g.J.Job.encoded in
    let u = c.args.caller.now in
    let v = c.draft_all.new.caller in
    let x = g.J.Meter.Meter.counts c.args.m.now in
    let y = g.J.Meter.Meter.counts c.draft_all.new.m in
    let new = c.draft_all.new.levels.items in
    let off = no-draft s.drafted s.levels.items (ap (λ (t : Seen g.row.J-Val.Denot). t.tree.draft) c.self.view_is ∙ c.requires.no_draft) in
    let is = ap (λ (b : Bool). seen_of d s.setting s.places s.levels.items b) (sym off) ∙ c.self.view_is in
    let of : g.J.Job.setting c.args.job.now ≡ s.setting = c.requires.job ∙ sym (ap (λ (t : Seen g.row.J-Val.Denot). t.tree.setting) c.self.view_is) in
    let sound = subst (λ (b : Bool). IsSound g.J.Job.good g.J.Job.joined g.J.Job.encoded s.setting s.levels.items b) off c.self.invariant in
    let fits = subst (λ (t : Seen g.row.J-Val.Denot). FitsShift Document t.tree.places t.tree.leaves.first (length t.tree.leaves.tables) (length c.args.fresh.now) c.args.shift.now) (sym is) c.requires.fits in
    let covered = subst (λ (t : Seen g.row.J-Val.Denot). Covered u t.pins) (sym is) c.requires.covered in
    let eq : c.as_mut_slice.result.now ≡ new = c.as_mut_slice.ensures.value in
    subst (λ ls. Covered v (levels_pins d ls)) (sym eq) (advanced-levels g.J.Job.good g.J.Job.joined g.J.Job.encoded s.setting s.places c.args.shift.now c.args.fresh.now s.places 0 s.levels.items new sound fits c.draft_all.ensures.same c.draft_all.ensures.some u v x y c.draft_all.ensures.gains covered)

pub invariant_of-self-in-Err : goal.invariant_of-self-in-Err
invariant_of-self-in-Err g c =
    let s = c.self.inside in
    let d = pair_digest g.J.Job.encoded in
    let u = c.args.caller.now in
    let v = c.draft_all.new.caller in
    let x = g.J.Meter.Meter.counts c.args.m.now in
    let y = g.J.Meter.Meter.counts c.draft_all.new.m in
    let new = c.draft_all.new.levels.items in
    let off = no-draft s.drafted s.levels.items (ap (λ (t : Seen g.row.J-Val.Denot). t.tree.draft) c.self.view_is ∙ c.requires.no_draft) in
    let is = ap (λ (b : Bool). seen_of d s.setting s.places s.levels.items b) (sym off) ∙ c.self.view_is in
    let of : g.J.Job.setting c.args.job.now ≡ s.setting = c.requires.job ∙ sym (ap (λ (t : Seen g.row.J-Val.Denot). t.tree.setting) c.self.view_is) in
    let sound = subst (λ (b : Bool). IsSound g.J.Job.good g.J.Job.joined g.J.Job.encoded s.setting s.levels.items b) off c.self.invariant in
    let fits = subst (λ (t : Seen g.row.J-Val.Denot). FitsShift Document t.tree.places t.tree.leaves.first (length t.tree.leaves.tables) (length c.args.fresh.now) c.args.shift.now) (sym is) c.requires.fits in
    let some = subst (λ (n : ℕ). DraftsSome g.J.Job.joined n g.J.Job.encoded g.J.Job.good c.args.shift.now c.args.fresh.now u v x y s.levels.items) of c.in-Err.ensures.err in
    let w = c.revert_all.new.caller in
    let eq : c.as_mut_slice.result.now ≡ new = c.as_mut_slice.ensures.value in
    let made = c.revert_all.new.levels in
    let ok = c.draft_all.new.levels.ok.0 in
    let undone = c.revert_all.ensures.same ∙ ap (map now_of) eq in
    let backed = written c.draft_all.new.levels.len made new (omega (arith, ok)) (same-length now_of now_of made new undone) in
    let back = take c.draft_all.new.levels.len (made ++ drop (length made) new) in
    let same : map now_of back ≡ map now_of new = ap (map now_of) backed ∙ undone in
    let none_then : All IsUndrafted back = subst (All IsUndrafted) (sym backed) c.revert_all.ensures.undrafted in
    let balanced : Balanced v (levels_pins d new) w (levels_pins d back) = subst (λ ls. Balanced v (levels_pins d new) w (levels_pins d ls)) (sym backed) (subst (λ ls. Balanced v (levels_pins d ls) w (levels_pins d made)) eq c.revert_all.ensures.balanced) in
    subst (λ (b : Bool). IsSound g.J.Job.good g.J.Job.joined g.J.Job.encoded s.setting back b) (sym off) (failed-sound g.J.Job.good g.J.Job.joined g.J.Job.encoded s.setting s.places c.args.shift.now c.args.fresh.now s.places 0 s.levels.items new sound fits c.draft_all.ensures.same c.draft_all.ensures.some u v x y c.draft_all.ensures.gains back same none_then w balanced)

pub returns-in-Err-clause-err : goal.returns-in-Err-clause-err
returns-in-Err-clause-err g c =
    let s = c.self.inside in
    let d = pair_digest g.J.Job.encoded in
    let u = c.args.caller.now in
    let v = c.draft_all.new.caller in
    let x = g.J.Meter.Meter.counts c.args.m.now in
    let y = g.J.Meter.Meter.counts c.draft_all.new.m in
    let new = c.draft_all.new.levels.items in
    let off = no-draft s.drafted s.levels.items (ap (λ (t : Seen g.row.J-Val.Denot). t.tree.draft) c.self.view_is ∙ c.requires.no_draft) in
    let is = ap (λ (b : Bool). seen_of d s.setting s.places s.levels.items b) (sym off) ∙ c.self.view_is in
    let of : g.J.Job.setting c.args.job.now ≡ s.setting = c.requires.job ∙ sym (ap (λ (t : Seen g.row.J-Val.Denot). t.tree.setting) c.self.view_is) in
    let sound = subst (λ (b : Bool). IsSound g.J.Job.good g.J.Job.joined g.J.Job.encoded s.setting s.levels.items b) off c.self.invariant in
    let fits = subst (λ (t : Seen g.row.J-Val.Denot). FitsShift Document t.tree.places t.tree.leaves.first (length t.tree.leaves.tables) (length c.args.fresh.now) c.args.shift.now) (sym is) c.requires.fits in
    let some = subst (λ (n : ℕ). DraftsSome g.J.Job.joined n g.J.Job.encoded g.J.Job.good c.args.shift.now c.args.fresh.now u v x y s.levels.items) of c.in-Err.ensures.err in
    let w = c.revert_all.new.caller in
    let eq : c.as_mut_slice.result.now ≡ new = c.as_mut_slice.ensures.value in
    let made = c.revert_all.new.levels in
    let ok = c.draft_all.new.levels.ok.0 in
    let undone = c.revert_all.ensures.same ∙ ap (map now_of) eq in
    let backed = written c.draft_all.new.levels.len made new (omega (arith, ok)) (same-length now_of now_of made new undone) in
    let back = take c.draft_all.new.levels.len (made ++ drop (length made) new) in
    let same : map now_of back ≡ map now_of new = ap (map now_of) backed ∙ undone in
    let none_then : All IsUndrafted back = subst (All IsUndrafted) (sym backed) c.revert_all.ensures.undrafted in
    let balanced : Balanced v (levels_pins d new) w (levels_pins d back) = subst (λ ls. Balanced v (levels_pins d new) w (levels_pins d ls)) (sym backed) (subst (λ ls. Balanced v (levels_pins d ls) w (levels_pins d made)) eq c.revert_all.ensures.balanced) in
    ap (λ (b : Bool). (seen_of d s.setting s.places back b).tree) off ∙ (failed-view g.J.Job.good g.J.Job.joined g.J.Job.encoded s.setting s.places c.args.shift.now c.args.fresh.now s.places 0 s.levels.items new sound fits c.draft_all.ensures.same c.draft_all.ensures.some u v x y c.draft_all.ensures.gains back same none_then w balanced ∙ ap (λ (t : Seen g.row.J-Val.Denot). t.tree) is)

pub returns-in-Err-clause-covered : goal.returns-in-Err-clause-covered
returns-in-Err-clause-covered g c =
    let s = c.self.inside in
    let d = pair_digest g.J.Job.encoded in
    let u = c.args.caller.now in
    let v = c.draft_all.new.caller in
    let x = g.J.Meter.Meter.counts c.args.m.now in
    let y = g.J.Meter.Meter.counts c.draft_all.new.m in
    let new = c.draft_all.new.levels.items in
    let off = no-draft s.drafted s.levels.items (ap (λ (t : Seen g.row.J-Val.Denot). t.tree.draft) c.self.view_is ∙ c.requires.no_draft) in
    let is = ap (λ (b : Bool). seen_of d s.setting s.places s.levels.items b) (sym off) ∙ c.self.view_is in
    let of : g.J.Job.setting c.args.job.now ≡ s.setting = c.requires.job ∙ sym (ap (λ (t : Seen g.row.J-Val.Denot). t.tree.setting) c.self.view_is) in
    let sound = subst (λ (b : Bool). IsSound g.J.Job.good g.J.Job.joined g.J.Job.encoded s.setting s.levels.items b) off c.self.invariant in
    let fits = subst (λ (t : Seen g.row.J-Val.Denot). FitsShift Document t.tree.places t.tree.leaves.first (length t.tree.leaves.tables) (length c.args.fresh.now) c.args.shift.now) (sym is) c.requires.fits in
    let some = subst (λ (n : ℕ). DraftsSome g.J.Job.joined n g.J.Job.encoded g.J.Job.good c.args.shift.now c.args.fresh.now u v x y s.levels.items) of c.in-Err.ensures.err in
    let w = c.revert_all.new.caller in
    let eq : c.as_mut_slice.result.now ≡ new = c.as_mut_slice.ensures.value in
    let made = c.revert_all.new.levels in
    let ok = c.draft_all.new.levels.ok.0 in
    let undone = c.revert_all.ensures.same ∙ ap (map now_of) eq in
    let backed = written c.draft_all.new.levels.len made new (omega (arith, ok)) (same-length now_of now_of made new undone) in
    let back = take c.draft_all.new.levels.len (made ++ drop (length made) new) in
    let same : map now_of back ≡ map now_of new = ap (map now_of) backed ∙ undone in
    let none_then : All IsUndrafted back = subst (All IsUndrafted) (sym backed) c.revert_all.ensures.undrafted in
    let balanced : Balanced v (levels_pins d new) w (levels_pins d back) = subst (λ ls. Balanced v (levels_pins d new) w (levels_pins d ls)) (sym backed) (subst (λ ls. Balanced v (levels_pins d ls) w (levels_pins d made)) eq c.revert_all.ensures.balanced) in
    let covered = subst (λ (t : Seen g.row.J-Val.Denot). Covered u t.pins) (sym is) c.requires.covered in
    subst (λ (b : Bool). Covered w (seen_of d s.setting s.places back b).pins) (sym off) (failed-covered g.J.Job.good g.J.Job.joined g.J.Job.encoded s.setting s.places c.args.shift.now c.args.fresh.now s.places 0 s.levels.items new sound fits c.draft_all.ensures.same c.draft_all.ensures.some u v x y c.draft_all.ensures.gains back same none_then w balanced covered)

pub returns-in-Err-clause-balanced : goal.returns-in-Err-clause-balanced
returns-in-Err-clause-balanced g c =
    let s = c.self.inside in
    let d = pair_digest g.J.Job.encoded in
    let u = c.args.caller.now in
    let v = c.draft_all.new.caller in
    let x = g.J.Meter.Meter.counts c.args.m.now in
    let y = g.J.Meter.Meter.counts c.draft_all.new.m in
    let new = c.draft_all.new.levels.items in
    let off = no-draft s.drafted s.levels.items (ap (λ (t : Seen g.row.J-Val.Denot). t.tree.draft) c.self.view_is ∙ c.requires.no_draft) in
    let is = ap (λ (b : Bool). seen_of d s.setting s.places s.levels.items b) (sym off) ∙ c.self.view_is in
    let of : g.J.Job.setting c.args.job.now ≡ s.setting = c.requires.job ∙ sym (ap (λ (t : Seen g.row.J-Val.Denot). t.tree.setting) c.self.view_is) in
    let sound = subst (λ (b : Bool). IsSound g.J.Job.good g.J.Job.joined g.J.Job.encoded s.setting s.levels.items b) off c.self.invariant in
    let fits = subst (λ (t : Seen g.row.J-Val.Denot). FitsShift Document t.tree.places t.tree.leaves.first (length t.tree.leaves.tables) (length c.args.fresh.now) c.args.shift.now) (sym is) c.requires.fits in
    let some = subst (λ (n : ℕ). DraftsSome g.J.Job.joined n g.J.Job.encoded g.J.Job.good c.args.shift.now c.args.fresh.now u v x y s.levels.items) of c.in-Err.ensures.err in
    let w = c.revert_all.new.caller in
    let eq : c.as_mut_slice.result.now ≡ new = c.as_mut_slice.ensures.value in
    let made = c.revert_all.new.levels in
    let ok = c.draft_all.new.levels.ok.0 in
    let undone = c.revert_all.ensures.same ∙ ap (map now_of) eq in
    let backed = written c.draft_all.new.levels.len made new (omega (arith, ok)) (same-length now_of now_of made new undone) in
    let back = take c.draft_all.new.levels.len (made ++ drop (length made) new) in
    let same : map now_of back ≡ map now_of new = ap (map now_of) backed ∙ undone in
    let none_then : All IsUndrafted back = subst (All IsUndrafted) (sym backed) c.revert_all.ensures.undrafted in
    let balanced : Balanced v (levels_pins d new) w (levels_pins d back) = subst (λ ls. Balanced v (levels_pins d new) w (levels_pins d ls)) (sym backed) (subst (λ ls. Balanced v (levels_pins d ls) w (levels_pins d made)) eq c.revert_all.ensures.balanced) in
    subst (λ (b : Bool). Balanced u c.args.self.now.pins w (seen_of d s.setting s.places back b).pins) (sym off) (subst (λ (t : Seen g.row.J-Val.Denot). Balanced u t.pins w (seen_of d s.setting s.places back false).pins) is (failed-balanced g.J.Job.good g.J.Job.joined g.J.Job.encoded s.setting s.places c.args.shift.now c.args.fresh.now s.places 0 s.levels.items new sound fits c.draft_all.ensures.same c.draft_all.ensures.some u v x y c.draft_all.ensures.gains back same none_then w balanced))

pub returns-in-Err-clause-few : goal.returns-in-Err-clause-few
returns-in-Err-clause-few g c =
    let s = c.self.inside in
    let d = pair_digest g.J.Job.encoded in
    let u = c.args.caller.now in
    let v = c.draft_all.new.caller in
    let x = g.J.Meter.Meter.counts c.args.m.now in
    let y = g.J.Meter.Meter.counts c.draft_all.new.m in
    let new = c.draft_all.new.levels.items in
    let off = no-draft s.drafted s.levels.items (ap (λ (t : Seen g.row.J-Val.Denot). t.tree.draft) c.self.view_is ∙ c.requires.no_draft) in
    let is = ap (λ (b : Bool). seen_of d s.setting s.places s.levels.items b) (sym off) ∙ c.self.view_is in
    let of : g.J.Job.setting c.args.job.now ≡ s.setting = c.requires.job ∙ sym (ap (λ (t : Seen g.row.J-Val.Denot). t.tree.setting) c.self.view_is) in
    let sound = subst (λ (b : Bool). IsSound g.J.Job.good g.J.Job.joined g.J.Job.encoded s.setting s.levels.items b) off c.self.invariant in
    let fits = subst (λ (t : Seen g.row.J-Val.Denot). FitsShift Document t.tree.places t.tree.leaves.first (length t.tree.leaves.tables) (length c.args.fresh.now) c.args.shift.now) (sym is) c.requires.fits in
    let some = subst (λ (n : ℕ). DraftsSome g.J.Job.joined n g.J.Job.encoded g.J.Job.good c.args.shift.now c.args.fresh.now u v x y s.levels.items) of c.in-Err.ensures.err in
    let w = c.revert_all.new.caller in
    let eq : c.as_mut_slice.result.now ≡ new = c.as_mut_slice.ensures.value in
    let made = c.revert_all.new.levels in
    let ok = c.draft_all.new.levels.ok.0 in
    let undone = c.revert_all.ensures.same ∙ ap (map now_of) eq in
    let backed = written c.draft_all.new.levels.len made new (omega (arith, ok)) (same-length now_of now_of made new undone) in
    let back = take c.draft_all.new.levels.len (made ++ drop (length made) new) in
    let same : map now_of back ≡ map now_of new = ap (map now_of) backed ∙ undone in
    let none_then : All IsUndrafted back = subst (All IsUndrafted) (sym backed) c.revert_all.ensures.undrafted in
    let balanced : Balanced v (levels_pins d new) w (levels_pins d back) = subst (λ ls. Balanced v (levels_pins d new) w (levels_pins d ls)) (sym backed) (subst (λ ls. Balanced v (levels_pins d ls) w (levels_pins d made)) eq c.revert_all.ensures.balanced) in
    λ none. subst (λ (b : Bool). length (seen_of d s.setting s.places back b).pins ≤ length (seen_of d s.setting s.places back b).tree.leaves.tables - 1) (sym off) (few-pins g.J.Job.good g.J.Job.joined g.J.Job.encoded s.setting s.places back (failed-sound g.J.Job.good g.J.Job.joined g.J.Job.encoded s.setting s.places c.args.shift.now c.args.fresh.now s.places 0 s.levels.items new sound fits c.draft_all.ensures.same c.draft_all.ensures.some u v x y c.draft_all.ensures.gains back same none_then w balanced))

pub returns-in-Err-clause-loose : goal.returns-in-Err-clause-loose
returns-in-Err-clause-loose g c =
    let s = c.self.inside in
    let d = pair_digest g.J.Job.encoded in
    let u = c.args.caller.now in
    let v = c.draft_all.new.caller in
    let x = g.J.Meter.Meter.counts c.args.m.now in
    let y = g.J.Meter.Meter.counts c.draft_all.new.m in
    let new = c.draft_all.new.levels.items in
    let off = no-draft s.drafted s.levels.items (ap (λ (t : Seen g.row.J-Val.Denot). t.tree.draft) c.self.view_is ∙ c.requires.no_draft) in
    let w = c.revert_all.new.caller in
    let made = c.revert_all.new.levels in
    let back = take c.draft_all.new.levels.len (made ++ drop (length made) new) in
    subst (λ (b : Bool). LooseOnlyIf (Met u w) c.args.self.now.tree (seen_of d s.setting s.places back b).tree) (sym off) (λ draft none loose. absurd (let wrong : None ≡ Some draft = none in cc))

pub returns-in-Err-clause-counted : goal.returns-in-Err-clause-counted
returns-in-Err-clause-counted g c =
    let s = c.self.inside in
    let d = pair_digest g.J.Job.encoded in
    let u = c.args.caller.now in
    let v = c.draft_all.new.caller in
    let x = g.J.Meter.Meter.counts c.args.m.now in
    let y = g.J.Meter.Meter.counts c.draft_all.new.m in
    let new = c.draft_all.new.levels.items in
    let off = no-draft s.drafted s.levels.items (ap (λ (t : Seen g.row.J-Val.Denot). t.tree.draft) c.self.view_is ∙ c.requires.no_draft) in
    let is = ap (λ (b : Bool). seen_of d s.setting s.places s.levels.items b) (sym off) ∙ c.self.view_is in
    let of : g.J.Job.setting c.args.job.now ≡ s.setting = c.requires.job ∙ sym (ap (λ (t : Seen g.row.J-Val.Denot). t.tree.setting) c.self.view_is) in
    let sound = subst (λ (b : Bool). IsSound g.J.Job.good g.J.Job.joined g.J.Job.encoded s.setting s.levels.items b) off c.self.invariant in
    let fits = subst (λ (t : Seen g.row.J-Val.Denot). FitsShift Document t.tree.places t.tree.leaves.first (length t.tree.leaves.tables) (length c.args.fresh.now) c.args.shift.now) (sym is) c.requires.fits in
    let some = subst (λ (n : ℕ). DraftsSome g.J.Job.joined n g.J.Job.encoded g.J.Job.good c.args.shift.now c.args.fresh.now u v x y s.levels.items) of c.in-Err.ensures.err in
    let w = c.revert_all.new.caller in
    let eq : c.as_mut_slice.result.now ≡ new = c.as_mut_slice.ensures.value in
    let made = c.revert_all.new.levels in
    let ok = c.draft_all.new.levels.ok.0 in
    let undone = c.revert_all.ensures.same ∙ ap (map now_of) eq in
    let backed = written c.draft_all.new.levels.len made new (omega (arith, ok)) (same-length now_of now_of made new undone) in
    let back = take c.draft_all.new.levels.len (made ++ drop (length made) new) in
    let same : map now_of back ≡ map now_of new = ap (map now_of) backed ∙ undone in
    let none_then : All IsUndrafted back = subst (All IsUndrafted) (sym backed) c.revert_all.ensures.undrafted in
    let balanced : Balanced v (levels_pins d new) w (levels_pins d back) = subst (λ ls. Balanced v (levels_pins d new) w (levels_pins d ls)) (sym backed) (subst (λ ls. Balanced v (levels_pins d ls) w (levels_pins d made)) eq c.revert_all.ensures.balanced) in
    subst (λ (t : Seen g.row.J-Val.Denot). RoseBy 0 (count_after c.args.shift.now (length t.tree.leaves.tables) - 1) ((count_after c.args.shift.now (length t.tree.leaves.tables) - 1) * distinct_keys (shifted c.args.shift.now (tables_of c.args.fresh.now) t.tree.leaves.tables)) x y) is (some-rose g.J.Job.good g.J.Job.joined g.J.Job.encoded s.setting s.places c.args.shift.now c.args.fresh.now s.places 0 s.levels.items new sound fits c.draft_all.ensures.same c.draft_all.ensures.some u v x y c.draft_all.ensures.gains some)

pub returns-in-Err-clause-tight : goal.returns-in-Err-clause-tight
returns-in-Err-clause-tight g c =
    let s = c.self.inside in
    let d = pair_digest g.J.Job.encoded in
    let u = c.args.caller.now in
    let v = c.draft_all.new.caller in
    let x = g.J.Meter.Meter.counts c.args.m.now in
    let y = g.J.Meter.Meter.counts c.draft_all.new.m in
    let new = c.draft_all.new.levels.items in
    let off = no-draft s.drafted s.levels.items (ap (λ (t : Seen g.row.J-Val.Denot). t.tree.draft) c.self.view_is ∙ c.requires.no_draft) in
    let is = ap (λ (b : Bool). seen_of d s.setting s.places s.levels.items b) (sym off) ∙ c.self.view_is in
    let of : g.J.Job.setting c.args.job.now ≡ s.setting = c.requires.job ∙ sym (ap (λ (t : Seen g.row.J-Val.Denot). t.tree.setting) c.self.view_is) in
    let sound = subst (λ (b : Bool). IsSound g.J.Job.good g.J.Job.joined g.J.Job.encoded s.setting s.levels.items b) off c.self.invariant in
    let fits = subst (λ (t : Seen g.row.J-Val.Denot). FitsShift Document t.tree.places t.tree.leaves.first (length t.tree.leaves.tables) (length c.args.fresh.now) c.args.shift.now) (sym is) c.requires.fits in
    let some = subst (λ (n : ℕ). DraftsSome g.J.Job.joined n g.J.Job.encoded g.J.Job.good c.args.shift.now c.args.fresh.now u v x y s.levels.items) of c.in-Err.ensures.err in
    let w = c.revert_all.new.caller in
    let eq : c.as_mut_slice.result.now ≡ new = c.as_mut_slice.ensures.value in
    let made = c.revert_all.new.levels in
    let ok = c.draft_all.new.levels.ok.0 in
    let undone = c.revert_all.ensures.same ∙ ap (map now_of) eq in
    let backed = written c.draft_all.new.levels.len made new (omega (arith, ok)) (same-length now_of now_of made new undone) in
    let back = take c.draft_all.new.levels.len (made ++ drop (length made) new) in
    let same : map now_of back ≡ map now_of new = ap (map now_of) backed ∙ undone in
    let none_then : All IsUndrafted back = subst (All IsUndrafted) (sym backed) c.revert_all.ensures.undrafted in
    let balanced : Balanced v (levels_pins d new) w (levels_pins d back) = subst (λ ls. Balanced v (levels_pins d new) w (levels_pins d ls)) (sym backed) (subst (λ ls. Balanced v (levels_pins d ls) w (levels_pins d made)) eq c.revert_all.ensures.balanced) in
    let covered = subst (λ (t : Seen g.row.J-Val.Denot). Covered u t.pins) (sym is) c.requires.covered in
    subst (λ (t : Seen g.row.J-Val.Denot). t.tree.leaves.loose ≡ false → (Met u w → ⊥) → RoseWithin (length (fresh_inputs g.J.Job.encoded g.J.Job.joined t.tree.setting t.tree.leaves.tables (shifted c.args.shift.now (tables_of c.args.fresh.now) t.tree.leaves.tables))) x.merges y.merges) is (λ tight clean. failed-paid g.J.Job.good g.J.Job.joined g.J.Job.encoded s.setting s.places c.args.shift.now c.args.fresh.now s.places 0 s.levels.items new sound fits c.draft_all.ensures.same c.draft_all.ensures.some u v x y c.draft_all.ensures.gains back same none_then w balanced some tight covered clean)
