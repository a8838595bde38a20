use Rattle.std.proofs.Common.{◌≡◌, ℕ, ◌+◌, ◌&&◌, Bool, nat_eq, List, [], ◌∷◌, ◌++◌, None, sym, ap, subst, ◌∙◌}
use Rattle.std.specs.Str.{bytes_eq}
use Rattle.indexmap.proofs.CallerLemmas.{insert_entry-new}
use Rattle.map_tasks.specs.Texts.{TextView, new_text}
use Rattle.map_tasks.specs.Table.{TableView, IsTable, FindsText, texts_in}
use Rattle.map_tasks.proofs.Rows.{table-another, next-free, texts-push}
use Rattle.map_tasks.proofs.texts.Texts.insert_another.Goals as goal

abbrev key_eq : List ℕ × ℕ → List ℕ × ℕ → Bool
key_eq x y = bytes_eq x.0 y.0 && nat_eq x.1 y.1

pub invariant_of-self : goal.invariant_of-self
invariant_of-self g c =
    let n = c.self.inside.next in
    let k : List ℕ × ℕ = (c.args.digest, n) in
    let absent : FindsText c.args.leaf.text c.self.inside.map.entries None = subst (λ (v : TableView). FindsText c.args.leaf.text v.rows None) (sym c.self.view_is) c.requires.absent in
    let is : c.insert.new.self.entries ≡ c.self.inside.map.entries ++ (k, new_text c.args.leaf []) ∷ [] =
    c.in-Ok.ensures.entries ∙ (insert_entry-new key_eq c.self.inside.map k c.new.result (next-free n c.args.digest c.self.inside.map.entries c.self.invariant.keyed) ∙ ap (λ (e : TextView). c.self.inside.map.entries ++ (k, e) ∷ []) c.new.ensures) in
    subst (IsTable c.self.inside.calm (n + 1)) (sym is)
    (table-another c.self.inside.calm n c.self.inside.map.entries c.self.invariant c.args.digest c.args.leaf c.requires.digest absent)

pub returns-in-Ok : goal.returns-in-Ok
returns-in-Ok g c =
    let n = c.self.inside.next in
    let k : List ℕ × ℕ = (c.args.digest, n) in
    let is : c.insert.new.self.entries ≡ c.self.inside.map.entries ++ (k, new_text c.args.leaf []) ∷ [] =
    c.in-Ok.ensures.entries ∙ (insert_entry-new key_eq c.self.inside.map k c.new.result (next-free n c.args.digest c.self.inside.map.entries c.self.invariant.keyed) ∙ ap (λ (e : TextView). c.self.inside.map.entries ++ (k, e) ∷ []) c.new.ensures) in
    record {
      ok = ap texts_in is ∙ (texts-push c.self.inside.map.entries k (new_text c.args.leaf []) ∙ ap (λ (v : TableView). texts_in v.rows ++ new_text c.args.leaf [] ∷ []) c.self.view_is);
      err = tt;
    }
