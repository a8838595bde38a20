-- Numbers as digests write them.
use Rattle.std.specs.Prelude.{ℕ, List}
use Rattle.std.specs.Int.{to_be_bytes, w32, w64}

-- A number as 4 bytes, the highest first.
unfoldable pub be32 : ℕ → List ℕ
be32 n = to_be_bytes w32 n

-- A number as 8 bytes, the highest first.
unfoldable pub be64 : ℕ → List ℕ
be64 n = to_be_bytes w64 n
