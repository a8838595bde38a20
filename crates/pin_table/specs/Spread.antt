-- A digest of the tests' inputs.
use Rattle.std.specs.Prelude.{ℕ, ◌%◌, List, replicate}

-- Numbers below 256 have different digests, so small numbers spread over the shards.
abbrev pub spread : ℕ → List ℕ
spread input = replicate 32 (input % 256)
