-- Records in a text, by the places of their bytes.
use Rattle.std.specs.Prelude.{◌≡◌, ℕ, ◌-◌, ◌≤◌, List, length, map, take, drop, All}
use Rattle.definitions.specs.Records.{AllRecords, text_of}
use Rattle.record_text.specs.declared.records.Span.{Span}

-- The bytes of a span.
abbrev pub cut : List ℕ → Span → List ℕ
cut text span = take (span.to - span.from) (drop span.from text)

-- The bytes of each span.
abbrev pub cuts : List ℕ → List Span → List (List ℕ)
cuts text spans = map (cut text) spans

-- A span is within a text of this length.
abbrev pub LiesIn : ℕ → Span → Type 0
LiesIn size span = (span.from ≤ span.to) × (span.to ≤ size)

-- The text is that of the records at the spans.
pub record IsText (text : List ℕ) (spans : List Span) : Type 0 where
  pub inside : All (LiesIn (length text)) spans
  pub records : AllRecords (cuts text spans)
  pub whole : text ≡ text_of (cuts text spans)
  pub most : length spans ≤ 4294967295
