-- The part of a key: the 32-bit hash FNV-1a of its bytes, modulo the number of parts.
use Rattle.std.specs.Prelude.{ℕ, ◌*◌, ◌%◌, ◌^◌, List, fold, bit_xor}

-- One byte more: it is xored in, then the hash is multiplied, modulo 2^32.
abbrev pub hash_step : ℕ → ℕ → ℕ
hash_step hash byte = bit_xor hash byte * 16777619 % 2 ^ 32

-- The hash of bytes, which starts at 2166136261.
abbrev pub hash_of : List ℕ → ℕ
hash_of bytes = fold hash_step 2166136261 bytes

-- The part of a key, of a given number of parts.
abbrev pub part_number : List ℕ → ℕ → ℕ
part_number key parts = hash_of key % parts
