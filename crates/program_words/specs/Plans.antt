-- What the arguments ask for, and what they are refused for.
use Rattle.std.specs.Prelude.{◌≡◌, ◌≤◌, ℕ, Bool, true, false, ◌&&◌, if◌then◌else◌, nat_le, List, codes, bytes_eq, Option, option_map, Result, Ok, Err}
use Rattle.std.specs.declared.option.Option.TheVariants.{Some, None}
use Rattle.definitions.specs.Limits.{most_members, most_parts, most_places}
use Rattle.definitions.specs.Numbers.{is_number, digits_value}
use Rattle.record_text.specs.declared.kind.Kind.{Kind}
use Rattle.record_text.specs.declared.kind.Kind.TheVariants as Kinds
use Rattle.run_settings.specs.Settings.{AreWithin, most_workers, most_shards, most_keep}
use Rattle.run_settings.specs.declared.settings.Settings.{Settings}
use Rattle.program_words.specs.declared.plan.JobName.{JobName}
use Rattle.program_words.specs.declared.plan.JobName.TheVariants as jobs
use Rattle.program_words.specs.declared.plan.TreeName.{TreeName}
use Rattle.program_words.specs.declared.plan.TreeName.TheVariants as trees
use Rattle.program_words.specs.declared.plan.Plan.{Plan}
use Rattle.program_words.specs.declared.plan.Values.{Values}
use Rattle.program_words.specs.declared.plan.Field.{Field}
use Rattle.program_words.specs.declared.plan.Field.TheVariants as fields
use Rattle.program_words.specs.WellFormed.{Text, Item, items_of, value_of, is_given}

-- The jobs and their names.
abbrev pub job_named : Text → Option JobName
job_named name =
    if bytes_eq name (codes "count") then Some jobs.Count
    else if bytes_eq name (codes "index") then Some jobs.Index
    else if bytes_eq name (codes "topk") then Some jobs.TopK
    else if bytes_eq name (codes "latest") then Some jobs.Latest
    else None

-- The trees and their names.
abbrev pub tree_named : Text → Option TreeName
tree_named name =
    if bytes_eq name (codes "folding") then Some trees.Folding
    else if bytes_eq name (codes "random") then Some trees.Random
    else if bytes_eq name (codes "rotating") then Some trees.Rotating
    else if bytes_eq name (codes "coalescing") then Some trees.Coalescing
    else None

-- The number that a text spells, if it is from `least` to `most`.
abbrev pub number_within : ℕ → ℕ → Text → Option ℕ
number_within least most text =
    if is_number text && nat_le least (digits_value text) && nat_le (digits_value text) most then Some (digits_value text) else None

-- The number that a value spells, if it is from `least` to `most`; the default if no value is given.
abbrev pub number_or : ℕ → ℕ → ℕ → Option Text → Option ℕ
number_or default least most None = Some default
number_or default least most (Some text) = number_within least most text

-- The seed that a value spells, or no seed if no value is given.
abbrev pub seed_or_none : Option Text → Option (Option ℕ)
seed_or_none None = Some None
seed_or_none (Some text) = if is_number text then Some (Some (digits_value text)) else None

-- What a required value names in its table.
abbrev pub given : {A : Type 0} → (Text → Option A) → Option Text → Option A
given named None = None
given named (Some name) = named name

-- The tree joins in another order than the job needs: `latest` takes the last value in the window's order, and a
-- rotating tree joins in the order of places.
abbrev pub joins_out_of_order : JobName → TreeName → Bool
joins_out_of_order jobs.Latest trees.Rotating = true
joins_out_of_order job tree = false

-- What is given, or the refusal of its field.
abbrev pub demand : {A B : Type 0} → Field → Option A → (A → Result B Field) → Result B Field
demand field None next = Err field
demand field (Some found) next = next found

-- What was made of some values, or their refusal.
abbrev pub accepted : {A B : Type 0} → Result A Field → (A → Result B Field) → Result B Field
accepted (Err field) next = Err field
accepted (Ok found) next = next found

-- The values of the options that are given, and whether the flag is.
pub record Given : Type 0 where
  pub job : Option Text
  pub k : Option Text
  pub tree : Option Text
  pub buckets : Option Text
  pub parts : Option Text
  pub workers : Option Text
  pub shards : Option Text
  pub keep : Option Text
  pub generate : Option Text
  pub work : Bool

-- The settings that the values ask for, or the first field that is refused.
abbrev pub settings_by : Given → Result Settings Field
settings_by v =
    demand fields.Buckets (number_or 24 1 most_places v.buckets) (λ places.
    demand fields.Parts (number_or 1 1 most_parts v.parts) (λ parts.
    demand fields.Workers (number_or 1 1 most_workers v.workers) (λ workers.
    demand fields.Shards (number_or 1 1 most_shards v.shards) (λ shards.
    demand fields.Keep (number_or 1 0 most_keep v.keep) (λ keep.
    Ok (record {
      parts = parts;
      workers = workers;
      shards = shards;
      keep = keep;
      places = places;
      work = v.work;
      split = false;
      steal = false;
    }))))))

-- What the values ask for, or the first field that is refused.
abbrev pub plan_by : Given → Result Plan Field
plan_by v =
    demand fields.Job (given job_named v.job) (λ job.
    demand fields.K (number_or 10 1 most_members v.k) (λ k.
    demand fields.Tree (given tree_named v.tree) (λ tree.
    accepted (settings_by v) (λ settings.
    demand fields.Gen (seed_or_none v.generate) (λ seed.
    if joins_out_of_order job tree then Err fields.Tree
    else Ok (record { job = job; k = k; tree = tree; settings = settings; seed = seed; then = false }))))))

-- The values of the options, and the flag, among these.
abbrev pub given_by : List Item → Given
given_by items = record {
  job = value_of items (codes "job");
  k = value_of items (codes "k");
  tree = value_of items (codes "tree");
  buckets = value_of items (codes "buckets");
  parts = value_of items (codes "parts");
  workers = value_of items (codes "workers");
  shards = value_of items (codes "shards");
  keep = value_of items (codes "keep");
  generate = value_of items (codes "gen");
  work = is_given items (codes "work");
}

-- What the arguments ask for, or the first field that is refused.
unfoldable pub plan_of : List Text → Result Plan Field
plan_of words = demand fields.Words (items_of words) (λ items. plan_by (given_by items))

-- The numbers of a plan are within their limits, and its tree joins in the order that its job needs.
pub record IsWithin (plan : Plan) : Type 0 where
  pub k : (1 ≤ plan.k) × (plan.k ≤ most_members)
  pub settings : AreWithin plan.settings
  pub ordered : joins_out_of_order plan.job plan.tree ≡ false

-- The kind of window that a tree is for.
abbrev pub kind_of : TreeName → Kind
kind_of trees.Folding = Kinds.Buckets
kind_of trees.Random = Kinds.Document
kind_of trees.Rotating = Kinds.Circle
kind_of trees.Coalescing = Kinds.Growing

-- The values, as the code has them.
abbrev pub values_as_text : Values → Given
values_as_text v = record {
  job = option_map (λ text. text.now) v.job;
  k = option_map (λ text. text.now) v.k;
  tree = option_map (λ text. text.now) v.tree;
  buckets = option_map (λ text. text.now) v.buckets;
  parts = option_map (λ text. text.now) v.parts;
  workers = option_map (λ text. text.now) v.workers;
  shards = option_map (λ text. text.now) v.shards;
  keep = option_map (λ text. text.now) v.keep;
  generate = option_map (λ text. text.now) v.generate;
  work = v.work;
}
