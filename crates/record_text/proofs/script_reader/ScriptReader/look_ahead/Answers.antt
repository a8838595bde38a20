use Rattle.std.proofs.Common.{◌≡◌, ◌+◌, ◌≤◌, ℕ, List, [], ◌++◌, length, take, arith, ◌∙◌, subst, ap}
use Rattle.std.proofs.Math.Seq.{take-length}
use Rattle.definitions.specs.Outside.{Told}
use Rattle.record_text.proofs.ReadLaws.{uses_more, uses_filled, sound_filled, line_more}
use Rattle.record_text.proofs.script_reader.ScriptReader.look_ahead.Goals as goal

pub fills-preserved : goal.fills-preserved
fills-preserved g c =
    let inv = c.fills.invariant in let more = c.in-More.ensures.found in let e = c.in-Ok.ensures in
    let same = c.look.ensures.same in
    let r = c.args.self.now.reading in let s = c.fills.self.reading in let t = c.fill.new.self.reading in
    let a = c.args.self.now.source.now in let b = c.fills.self.source.now in let d = c.fill.new.self.source.now in
    let la = g.S.Source.left a in let lb = g.S.Source.left b in let ld = g.S.Source.left d in
    let count = e.count ∙ ap (λ (l : List ℕ). s.room + length l) same in
    record {
      same = e.same ∙ inv.same;
      used = uses_more r s t la lb ld [] inv.used (uses_filled s t lb ld more.0 (subst (λ (l : List ℕ). Told lb ld (λ x y. l ++ x ≡ t.ahead ++ y)) same e.bytes) count);
      sound = sound_filled s t lb ld more.0 inv.sound more.1 e.end e.off count e.place.line;
      touch = line_more a b d r s t more.0 more.3 (subst (λ (l : List ℕ). take (length l) t.ahead ≡ l) same e.prefix) (subst (λ (l : List ℕ). length t.ahead ≤ length l + 65536) same e.piece) inv.touch;
      place = search;
      later = omega (arith, inv.later, e.later);
    }

pub returns-in-Err-clause-touch : goal.returns-in-Err-clause-touch
returns-in-Err-clause-touch g c =
    let inv = c.fills.invariant in let more = c.in-More.ensures.found in
    let s = c.fills.self.reading in let t = c.fill.new.self.reading in
    let stays : t.ahead ≡ s.ahead = c.in-Err.ensures.stays.0 ∙ c.look.ensures.same in
    line_more c.args.self.now.source.now c.fills.self.source.now c.fill.new.self.source.now c.args.self.now.reading s t more.0 more.3
    (ap (λ (l : List ℕ). take (length s.ahead) l) stays ∙ take-length s.ahead)
    (let same = ap (λ (l : List ℕ). length l) stays in omega (arith, same)) inv.touch
