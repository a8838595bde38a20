use Rattle.std.proofs.Common.{◌≡◌, ◌∙◌, refl, ap, codes, true, false, List, map, string_bytes}
use Rattle.std.specs.Prelude.{bytes_eq}
use Rattle.clap.specs.Words.{App, app_of, first_of, first_value, found_of, one_of, one_text, is_simple, matches_of, rows_of}
use Rattle.clap.proofs.WalkLemmas.{first_value-rows, one_text-rows}
use Rattle.program_words.specs.WellFormed.{Text, value_of}
use Rattle.program_words.specs.Options.{slider_app}
use Rattle.program_words.proofs.WalkedWords.{value_found, flag_read}
use Rattle.program_words.proofs.options.values_of.Goals as goal

pub returns : goal.returns
returns c = λ items is.
    let words : List Text = map string_bytes c.args.words.now in
    let m = c.in_ok-matches.matches in
    let app : app_of c.in_ok-command.command ≡ slider_app = c.in_ok-command.ensures in
    let simple : is_simple (app_of c.in_ok-command.command) ≡ true = ap is_simple app in
    let rows : rows_of (found_of m) ≡ matches_of slider_app words = (c.in_ok-matches.ensures.matches simple).0 ∙ ap (λ (a : App). matches_of a words) app in
    let value : (name : Text) → bytes_eq name (codes "work") ≡ false → first_value (found_of m) name ≡ value_of items name = λ name other.
    first_value-rows (found_of m) name ∙ ap (first_of name) rows ∙ value_found words items name other is in
    let flag : one_text (found_of m) (codes "work") ≡ one_of (codes "work") (matches_of slider_app words) = one_text-rows (found_of m) (codes "work") ∙ ap (one_of (codes "work")) rows in
    λ i. record {
      job = (c.get_str.ensures ∙ value (codes "job") refl) i;
      k = (c.get_str-2.ensures ∙ value (codes "k") refl) i;
      tree = (c.get_str-3.ensures ∙ value (codes "tree") refl) i;
      buckets = (c.get_str-4.ensures ∙ value (codes "buckets") refl) i;
      parts = (c.get_str-5.ensures ∙ value (codes "parts") refl) i;
      workers = (c.get_str-6.ensures ∙ value (codes "workers") refl) i;
      shards = (c.get_str-7.ensures ∙ value (codes "shards") refl) i;
      keep = (c.get_str-8.ensures ∙ value (codes "keep") refl) i;
      generate = (c.get_str-9.ensures ∙ value (codes "gen") refl) i;
      work = flag_read words items (one_text (found_of m) (codes "work")) c.get_flag.result flag is c.get_flag.ensures.value c.get_flag.ensures.other i;
    }
