-- A table as bytes, and its digest.
use Rattle.std.specs.Prelude.{◌≡◌, ℕ, List, ◌++◌, length}
use Rattle.std.specs.List.{flat_map}
use Rattle.sha2.specs.Sha256.{sha256}
use Rattle.sha2.specs.Hashers.{Holds256}
use Rattle.sha2.specs.declared.Sha256.{Sha256}
use Rattle.job_laws.specs.Encoding.{be64}

-- An entry as bytes: the key and the encoding of its value, each after its length.
abbrev pub entry_bytes : {V : Type 0} → (V → List ℕ) → List ℕ × V → List ℕ
entry_bytes encoded e = be64 (length e.0) ++ e.0 ++ be64 (length (encoded e.1)) ++ encoded e.1

-- A table as bytes: entry by entry, in order.
abbrev pub table_bytes : {V : Type 0} → (V → List ℕ) → List (List ℕ × V) → List ℕ
table_bytes encoded t = flat_map (entry_bytes encoded) t

-- The digest of a table.
unfoldable pub table_digest : {V : Type 0} → (V → List ℕ) → List (List ℕ × V) → List ℕ
table_digest encoded t = sha256 (table_bytes encoded t)

-- The hasher holds all of a message except these last bytes.
abbrev pub HoldsBut : Sha256 → List ℕ → List ℕ → Type 0
HoldsBut hasher bytes message = (held : List ℕ) × Holds256 hasher held × (held ++ bytes ≡ message)
