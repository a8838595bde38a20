-- Which shard an input belongs to.
use Rattle.std.specs.Prelude.{ℕ, ◌%◌, List, slice_index}

-- The digest's second byte modulo the number of shards.
abbrev pub shard_at : List ℕ → ℕ → ℕ
shard_at digest shards = slice_index digest 1 % shards
