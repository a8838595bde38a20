use Rattle.std.proofs.Common.{◌≡◌, ◌∙◌, ◌++◌, ◌∷◌, [], List, ℕ, sym, ap, subst}
use Rattle.std.specs.Prelude.{map}
use Rattle.std.proofs.lemmas.List.{map-append, map-id}
use Rattle.std.proofs.lemmas.Iterator.Consumers.{YieldsList-end}
use Rattle.std.proofs.lemmas.Iterator.Adapters.{YieldsList-from_vec}
use Rattle.std.proofs.lemmas.List.Elements.{All-same, All-head, All-tail}
use Rattle.definitions.specs.Tables.{IsRising, HasGoodValues}
use Rattle.sheets.specs.Sheets.{SheetOf}
use Rattle.sheets.specs.Parts.{AreSheets}
use Rattle.sheets.proofs.PartLaws.{rising-in_part, good-in_part, each_part, sheets_are}
use Rattle.sheets.proofs.parts.sheets_of_parts.Goals as goal

pub lists-init : goal.lists-init
lists-init g c =
    let parts = c.args.parts in
    let t = c.args.entries.items in
    let lists = c.in_ok-lists.lists.items in
    let is = c.into_iter-list-iterator.ensures.into_iter_gives.0 in
    record {
      sheets = c.new-sheets.ensures.items;
      rising = All-same IsRising c.into_iter-list-iterator.result.rest.items lists is (each_part parts IsRising t lists c.in_ok-lists.ensures (λ part. rising-in_part parts part t c.requires.rising));
      good = All-same (HasGoodValues (g.J.Job.good c.args.setting)) c.into_iter-list-iterator.result.rest.items lists is (each_part parts (HasGoodValues (g.J.Job.good c.args.setting)) t lists c.in_ok-lists.ensures (λ part. good-in_part parts (g.J.Job.good c.args.setting) part t c.requires.good));
    }

pub lists-preserved : goal.lists-preserved
lists-preserved g c =
    let as_sheet : List (List ℕ × g.row.J-Val.Denot) → SheetOf g.row.J-Val.Denot = λ t. record { setting = c.args.setting; entries = t } in
    let good = HasGoodValues (g.J.Job.good c.args.setting) in
    let sheet : c.in-Ok.sheet.entries ≡ c.in-Some.list = c.in-Ok.ensures.entries ∙ c.of.ensures ∙ c.into_entries.ensures in
    let rest = c.next.new.self.rest.items in
    record {
      sheets = c.in_ok-push-in-Ok.ensures.items ∙ (λ i. c.lists.invariant.sheets i ++ record { setting = c.in-Ok.ensures.setting i; entries = sheet i } ∷ []) ∙ sym (map-append as_sheet c.lists.yielded (c.in-Some.list ∷ []));
      rising = All-tail IsRising c.in-Some.list rest (All-same IsRising _ _ (sym c.in-Some.ensures.steps.0) c.lists.invariant.rising);
      good = All-tail good c.in-Some.list rest (All-same good _ _ (sym c.in-Some.ensures.steps.0) c.lists.invariant.good);
    }

pub of-requires : goal.of-requires
of-requires g c =
    let rest = All-same IsRising _ _ (sym c.in-Some.ensures.steps.0) c.lists.invariant.rising in
    subst IsRising (sym c.into_entries.ensures) (All-head IsRising c.in-Some.list c.next.new.self.rest.items rest)

pub of-requires-in-lists : goal.of-requires-in-lists
of-requires-in-lists g c =
    let good = HasGoodValues (g.J.Job.good c.args.setting) in
    let rest = All-same good _ _ (sym c.in-Some.ensures.steps.0) c.lists.invariant.good in
    subst good (sym (c.of.ensures ∙ c.into_entries.ensures)) (All-head good c.in-Some.list c.next.new.self.rest.items rest)

pub returns : goal.returns
returns g c =
    let gives = c.into_iter-list-iterator.ensures.into_iter_gives in
    let ended = YieldsList-end (YieldsList-from_vec {s = c.into_iter-list-iterator.result} c.in_ok-lists.lists.items gives.0 (gives.1 ∙ c.in_ok-lists.lists.ok.0)) c.lists.yielded c.lists.list-iterator c.lists.yielded_by c.next.result c.next.new.self c.in-None.is c.next.ensures.steps in
    let yielded : c.lists.yielded ≡ c.in_ok-lists.lists.items = sym (map-id c.lists.yielded) ∙ ended.0 in
    let all = c.lists.invariant.sheets ∙ ap (map (λ t. record { setting = c.args.setting; entries = t })) yielded in
    subst (AreSheets c.args.setting c.args.parts c.args.entries.items) (sym all) (sheets_are c.args.parts c.args.setting c.args.entries.items c.in_ok-lists.lists.items c.in_ok-lists.ensures)
