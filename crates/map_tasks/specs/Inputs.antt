-- The input of a leaf, its digest, and the lane that it belongs to.
use Rattle.std.specs.Prelude.{ℕ, ◌%◌, List, ◌∷◌, slice_index}
use Rattle.sha2.specs.Sha256.{sha256}
use Rattle.definitions.specs.Records.{text_of}

-- Records, the number of parts into which they are mapped, and the number that the job is set to.
pub record InputView : Type 0 where
  pub text : List (List ℕ)
  pub parts : ℕ
  pub setting : ℕ

-- The digest of a leaf is that of the byte 0 and the text of its records.
unfoldable pub input_digest : List (List ℕ) → List ℕ
input_digest text = sha256 (0 ∷ text_of text)

-- The lane of a digest is its first byte modulo the number of lanes.
abbrev pub lane_at : List ℕ → ℕ → ℕ
lane_at digest lanes = slice_index digest 0 % lanes
