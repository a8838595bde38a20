use Rattle.std.proofs.Common.{◌≡◌, ℕ, ◌&&◌, Bool, nat_eq, List, [], ◌∷◌, ◌++◌, None, sym, ap, subst, ◌∙◌}
use Rattle.std.specs.Str.{bytes_eq}
use Rattle.std.specs.Map.{lookup}
use Rattle.indexmap.proofs.CallerLemmas.{insert_entry-new}
use Rattle.map_tasks.specs.Texts.{TextView, maybe_pins, new_text}
use Rattle.map_tasks.specs.Table.{TableView, IsTable, FindsText, is_key, texts_in}
use Rattle.map_tasks.proofs.Rows.{table-first, few-pins, texts-push}
use Rattle.map_tasks.proofs.texts.Texts.insert_first.Goals as goal

abbrev key_eq : List ℕ × ℕ → List ℕ × ℕ → Bool
key_eq x y = bytes_eq x.0 y.0 && nat_eq x.1 y.1

pub invariant_of-self : goal.invariant_of-self
invariant_of-self g c =
    let k : List ℕ × ℕ = (c.args.digest, 0) in
    let free : lookup (is_key c.args.digest 0) c.self.inside.map.entries ≡ None = subst (λ (v : TableView). lookup (is_key c.args.digest 0) v.rows ≡ None) (sym c.self.view_is) c.requires.free in
    let absent : FindsText c.args.leaf.text c.self.inside.map.entries None = subst (λ (v : TableView). FindsText c.args.leaf.text v.rows None) (sym c.self.view_is) c.requires.absent in
    let is : c.insert.new.self.entries ≡ c.self.inside.map.entries ++ (k, new_text c.args.leaf (maybe_pins c.args.pin)) ∷ [] =
    c.in-Ok.ensures.entries ∙ (insert_entry-new key_eq c.self.inside.map k c.new.result free ∙ ap (λ (e : TextView). c.self.inside.map.entries ++ (k, e) ∷ []) c.new.ensures) in
    subst (IsTable c.self.inside.calm c.self.inside.next) (sym is)
    (table-first c.self.inside.calm c.self.inside.next c.self.inside.map.entries c.self.invariant c.args.digest c.args.leaf (maybe_pins c.args.pin) c.requires.digest free absent c.requires.pin (few-pins c.args.pin))

pub returns-in-Ok : goal.returns-in-Ok
returns-in-Ok g c =
    let k : List ℕ × ℕ = (c.args.digest, 0) in
    let free : lookup (is_key c.args.digest 0) c.self.inside.map.entries ≡ None = subst (λ (v : TableView). lookup (is_key c.args.digest 0) v.rows ≡ None) (sym c.self.view_is) c.requires.free in
    let is : c.insert.new.self.entries ≡ c.self.inside.map.entries ++ (k, new_text c.args.leaf (maybe_pins c.args.pin)) ∷ [] =
    c.in-Ok.ensures.entries ∙ (insert_entry-new key_eq c.self.inside.map k c.new.result free ∙ ap (λ (e : TextView). c.self.inside.map.entries ++ (k, e) ∷ []) c.new.ensures) in
    record {
      ok = ap texts_in is ∙ (texts-push c.self.inside.map.entries k (new_text c.args.leaf (maybe_pins c.args.pin)) ∙ ap (λ (v : TableView). texts_in v.rows ++ new_text c.args.leaf (maybe_pins c.args.pin) ∷ []) c.self.view_is);
      err = tt;
    }
