-- A new engine, by its fields.
use Rattle.std.proofs.Common.{◌≡◌, ℕ, ◌+◌, List, [], ◌∷◌, ◌++◌, length, map, All, refl, ap, sym, subst, ◌∙◌, arith}
use Rattle.std.specs.Prelude.{Some}
use Rattle.std.proofs.lemmas.List.{length_push, length-map}
use Rattle.std.proofs.lemmas.List.Elements.{All-nil}
use Rattle.atomic_table.specs.Seated.{TableId}
use Rattle.job_laws.specs.Meanings.{AllAccepted, meaning_of}
use Rattle.job_laws.specs.declared.job.Job as Jobs
use Rattle.pin_table.specs.Views.{MemoView, CallerView, newcomer}
use Rattle.pin_table.specs.Known.{known_at}
use Rattle.pin_table.specs.Covers.{PinName}
use Rattle.pin_table.specs.Ends.{Starts}
use Rattle.collector.specs.Collectors.{CollectorView}
use Rattle.map_tasks.specs.Inputs.{InputView}
use Rattle.tree_laws.specs.Trees.{TreeView, bare}
use Rattle.run_settings.specs.declared.settings.Settings.{Settings}
use Rattle.run_settings.specs.Settings.{AreWithin}
use Rattle.run_engine.specs.declared.lane_seat.LaneSeat.{LaneSeat}
use Rattle.run_engine.specs.declared.part_seat.PartSeat.{PartSeat}
use Rattle.run_engine.specs.Inputs.{texts_of}
use Rattle.run_engine.specs.Engines.{IsCollectorIn, IsWhole, IsNewEngine, bare_lane, engine_of, seat_view}
use Rattle.run_engine.proofs.Newcomers.{but-last}
use Rattle.run_engine.proofs.MakeSteps.{AreNumbered, numbered-unused, new-lanes, new-lanes-count, new-lane-seats, new-parts-count, new-part-seats, new-parts}

-- The callers of a new memo but the last, and the collector of the last.
pub record Parted (locks : List TableId) (count keep : ℕ) (rest : List CallerView) (sweep : CollectorView) : Type 0 where
  pub many : length rest ≡ count
  pub numbered : AreNumbered locks rest
  pub last : sweep ≡ record { caller = newcomer locks count; keep = keep }

collector-is : (c : CollectorView) (v : CallerView) (k : ℕ) → c.caller ≡ v → c.keep ≡ k → c ≡ record { caller = v; keep = k }
collector-is c v k p q =
    let first : ◌≡◌ {A = CollectorView} (record { caller = c.caller; keep = c.keep }) (record { caller = v; keep = c.keep }) = ap (λ (x : CallerView). record { caller = x; keep = c.keep }) p in
    let second : ◌≡◌ {A = CollectorView} (record { caller = v; keep = c.keep }) (record { caller = v; keep = k }) = ap (λ (n : ℕ). record { caller = v; keep = n }) q in
    first ∙ second

pub parted : (start shards count keep : ℕ) (m : MemoView) (callers rest : List CallerView) (sweep : CollectorView) → Starts start shards (count + 1) m callers → callers ≡ rest ++ sweep.caller ∷ [] → sweep.keep ≡ keep → Parted m.locks count keep rest sweep
parted start shards count keep m callers rest sweep starts is kept =
    let all : length callers ≡ length rest + 1 = ap (λ (l : List CallerView). length l) is ∙ length_push rest sweep.caller in
    let n = starts.count in
    let many : length rest ≡ count = omega (arith, all, n) in
    let ends = but-last m.locks callers rest sweep.caller is starts.fresh in
    record {
      many = many;
      numbered = ends.0;
      last = collector-is sweep (newcomer m.locks count) keep (ends.1 ∙ ap (newcomer m.locks) many) kept;
    }

-- No caller but the last made a call either.
pub rest-unused : (start shards count keep : ℕ) (m : MemoView) (callers rest : List CallerView) (sweep : CollectorView) → Starts start shards (count + 1) m callers → callers ≡ rest ++ sweep.caller ∷ [] → sweep.keep ≡ keep → All (λ c. (s : ℕ) → (known_at s c).mine ≡ []) rest
rest-unused start shards count keep m callers rest sweep starts is kept = numbered-unused m.locks rest (parted start shards count keep m callers rest sweep starts is kept).numbered

pub collector-in : (locks : List TableId) (count keep : ℕ) (rest : List CallerView) (sweep : CollectorView) → Parted locks count keep rest sweep → IsCollectorIn locks keep sweep
collector-in locks count keep rest sweep p = record { of = ap (λ (c : CollectorView). c.caller.locks) p.last; keep_is = ap (λ (c : CollectorView). c.keep) p.last }

module _ {J T V M : Type 0} (j : Jobs.Ghosts J V M) (view : T → TreeView V) (pins : T → List PinName) (most : T → ℕ) (job : J) (settings : Settings) (within : AreWithin settings) (n : ℕ) (leaf_memo merge_memo : MemoView)
    (leaf_callers leaf_rest merge_callers merge_rest : List CallerView) (leaf_sweep merge_sweep : CollectorView) (leaves : List InputView) (lanes : List (LaneSeat J V M)) (parts : List (PartSeat J T V M)) (none : leaves ≡ [])
    (leaf_starts : Starts n settings.shards 17 leaf_memo leaf_callers) (leaf_is : leaf_callers ≡ leaf_rest ++ leaf_sweep.caller ∷ []) (leaf_keep : leaf_sweep.keep ≡ settings.keep)
    (merge_starts : Starts n settings.shards (settings.parts + 1) merge_memo merge_callers) (merge_is : merge_callers ≡ merge_rest ++ merge_sweep.caller ∷ []) (merge_keep : merge_sweep.keep ≡ settings.keep)
    (lanes_are : map (λ (s : LaneSeat J V M). s.lane) lanes ≡ map bare_lane leaf_rest) (lanes_empty : All (λ (s : LaneSeat J V M). (s.fresh.items ≡ []) × (s.gone.items ≡ [])) lanes)
    (parts_are : map (λ (s : PartSeat J T V M). s.caller) parts ≡ merge_rest) (trees : All (λ (s : PartSeat J T V M). (pins s.tree ≡ []) × (view s.tree ≡ bare (j.setting job) settings.places) × (s.fresh.items ≡ [])) parts) where
  leaf-ends : Parted leaf_memo.locks 16 settings.keep leaf_rest leaf_sweep
  leaf-ends = parted n settings.shards 16 settings.keep leaf_memo leaf_callers leaf_rest leaf_sweep leaf_starts leaf_is leaf_keep

  merge-ends : Parted merge_memo.locks settings.parts settings.keep merge_rest merge_sweep
  merge-ends = parted n settings.shards settings.parts settings.keep merge_memo merge_callers merge_rest merge_sweep merge_starts merge_is merge_keep

  -- Everything is over no leaves.
  pub new-whole : IsWhole (meaning_of j job) view pins most (j.setting job) 0 settings (texts_of leaves) leaf_memo.locks merge_memo.locks lanes parts leaf_sweep merge_sweep
  new-whole = subst (λ (l : List InputView). IsWhole (meaning_of j job) view pins most (j.setting job) 0 settings (texts_of l) leaf_memo.locks merge_memo.locks lanes parts leaf_sweep merge_sweep) (sym none) (record {
    settings_are = within;
    accepted = All-nil (AllAccepted (meaning_of j job));
    lanes_count = new-lanes-count leaf_memo.locks leaf_rest lanes lanes_are leaf-ends.numbered ∙ leaf-ends.many;
    lanes_are = new-lane-seats leaf_memo.locks leaf_rest lanes lanes_are leaf-ends.numbered settings.parts (j.setting job) lanes_empty;
    parts_count = new-parts-count (meaning_of j job) view pins most merge_memo.locks merge_rest parts (j.setting job) settings.places parts_are merge-ends.numbered trees ∙ merge-ends.many;
    parts_are = new-part-seats (meaning_of j job) view pins most merge_memo.locks merge_rest parts (j.setting job) settings.places parts_are merge-ends.numbered trees settings.parts;
    leaf_sweeps = collector-in leaf_memo.locks 16 settings.keep leaf_rest leaf_sweep leaf-ends;
    merge_sweeps = collector-in merge_memo.locks settings.parts settings.keep merge_rest merge_sweep merge-ends;
  })

  -- It is an engine before its first run.
  pub is-new : IsNewEngine j view pins n job settings (engine_of job settings 0 0 leaves leaf_memo merge_memo lanes parts (Some leaf_sweep) (Some merge_sweep))
  is-new = record {
    job_is = refl;
    settings_are = refl;
    runs = refl;
    first = refl;
    leaves = ap texts_of none;
    leaf_memo = (leaf_starts.start_is, leaf_starts.shards_are, leaf_starts.callers_are);
    merge_memo = (merge_starts.start_is, merge_starts.shards_are, merge_starts.callers_are);
    lanes_count = length-map lanes (λ (s : LaneSeat J V M). s.lane) ∙ new-lanes-count leaf_memo.locks leaf_rest lanes lanes_are leaf-ends.numbered ∙ leaf-ends.many;
    lanes = new-lanes leaf_memo.locks leaf_rest lanes lanes_are leaf-ends.numbered;
    parts_count = length-map parts seat_view ∙ new-parts-count (meaning_of j job) view pins most merge_memo.locks merge_rest parts (j.setting job) settings.places parts_are merge-ends.numbered trees ∙ merge-ends.many;
    parts = new-parts (meaning_of j job) view pins most merge_memo.locks merge_rest parts (j.setting job) settings.places parts_are merge-ends.numbered trees;
    leaf_collector = leaf-ends.last;
    merge_collector = merge-ends.last;
  }
