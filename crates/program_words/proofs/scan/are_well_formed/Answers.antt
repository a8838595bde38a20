use Rattle.std.proofs.Common.{◌≡◌, ◌∙◌, ◌&&◌, suc, refl, sym, ap, false, List, ◌∷◌, map, drop, drop-cons, string_bytes, String, Global, is_some, option_map}
use Rattle.program_words.specs.WellFormed.{Text, scan, items_of}
use Rattle.program_words.proofs.scan.are_well_formed.Goals as goal

pub words-init : goal.words-init
unfolding items_of
words-init c = rw c.new.ensures.items refl

pub returns-then-not-branch : goal.returns-then-not-branch
returns-then-not-branch c =
    let words = c.args.words.now in let i = c.words.word-index in let word = c.word-item.result in
    let met : List Text = map (λ n. n.now) c.words.scan.names.items in
    let waiting = option_map (λ n. n.now) c.words.scan.waiting in
    let behind : List Text = map string_bytes (drop (suc i) words) in
    let split : drop i words ≡ word ∷ drop (suc i) words = drop-cons words i word c.words-test.true ∙ ap (λ (w : String Global). w ∷ drop (suc i) words) (sym c.word-item.is) in
    let refused : is_some (scan met waiting (string_bytes word ∷ behind)) ≡ false =
    ap (λ (w : Text). is_some (scan met waiting (w ∷ behind))) (sym c.as_bytes.ensures.value) ∙ c.in_ok-read.ensures behind
    ∙ ap (λ b. b && is_some (scan (map (λ n. n.now) c.read.new.self.names.items) (option_map (λ n. n.now) c.read.new.self.waiting) behind)) c.if-not-branch.true in
    sym refused ∙ ap (λ (l : List (String Global)). is_some (scan met waiting (map string_bytes l))) (sym split) ∙ c.words.invariant
