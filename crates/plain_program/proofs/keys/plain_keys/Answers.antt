use Rattle.std.proofs.Common.{◌≡◌, ◌≤◌, ◌+◌, ◌-◌, length, drop, sym, ap, ◌∙◌, arith}
use Rattle.std.proofs.lemmas.List.{drop_all}
use Rattle.definitions.specs.Tables.{keys_of}
use Rattle.plain_program.specs.Plain.{key_among}
use Rattle.plain_program.proofs.KeyLaws.{keys_of-drop, keys_of-nothing}
use Rattle.plain_program.proofs.keys.plain_keys.Goals as goal

pub pairs-init : goal.pairs-init
pairs-init g c =
    let all = c.len-left.ensures in
    let past : length c.args.pairs.now ≤ c.len-left.result = omega (arith, all) in
    record {
      within = omega (arith, all);
      keys = c.new-keys.ensures.items ∙ sym (keys_of-nothing _) ∙ ap keys_of (sym (drop_all c.len-left.result c.args.pairs.now past));
    }

pub pairs-preserved : goal.pairs-preserved
pairs-preserved g c =
    let inv = c.pairs.invariant in
    let within = inv.within in
    let test = c.pairs-test.true in
    let pairs = c.args.pairs.now in
    let left = c.pairs.left in
    let back : left - 1 + 1 ≡ left = omega (arith, test) in
    record {
      within = omega (arith, within);
      keys = c.in-Ok-add_key.ensures
          ∙ (λ i. key_among (c.in-Ok.ensures i) (inv.keys i))
          ∙ (λ i. key_among c.pair.result.0.now (keys_of (drop (sym back i) pairs)))
          ∙ sym (keys_of-drop pairs (left - 1) (c.pair.result.0.now, c.pair.result.1.now) c.pair.ensures.value);
    }
