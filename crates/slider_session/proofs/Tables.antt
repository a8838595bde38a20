-- A table has a row for each key, and the table of a run's records gives its piece.
use Rattle.std.proofs.Common.{◌≡◌, ℕ, suc, Bool, true, false, ◌||◌, List, [], ◌∷◌, ◌++◌, length, refl, sym, ap, ◌∙◌, is_some, cond}
use Rattle.std.specs.Prelude.{Option}
use Rattle.std.specs.declared.option.Option.TheVariants.{Some, None}
use Rattle.std.specs.List.{list_any}
use Rattle.std.specs.Ordering.{eq_by_cmp}
use Rattle.definitions.specs.Tables.{key_cmp, value_at, values_with, joined_all, reduced, entry_of, tabulate, keys_of, table_of}
use Rattle.definitions.specs.Answer.{pairs_of, lines_of}
use Rattle.definitions.proofs.TableLaws.{eq_itself, listed-keys}
use Rattle.job_laws.specs.Meanings.{Meaning}
use Rattle.slider_session.specs.Output.{header, piece_over}

module _ {V : Type 0} (join : V → V → V) where
  full : (f : List ℕ → Option V) (ks : List (List ℕ)) → ((q : List ℕ) → list_any (eq_by_cmp key_cmp q) ks ≡ true → is_some (f q) ≡ true) → length (tabulate f ks) ≡ length ks
  full f [] h = refl
  full f (k ∷ ks) h = entry (f k) refl (h k (ap (λ (b : Bool). b || list_any (eq_by_cmp key_cmp k) ks) (eq_itself k))) (full f ks (λ q is. h q (later (eq_by_cmp key_cmp q k) (list_any (eq_by_cmp key_cmp q) ks) is)))
    where
      later : (a b : Bool) → b ≡ true → a || b ≡ true
      later true b h = refl
      later false b h = h

      entry : (o : Option V) → f k ≡ o → is_some (f k) ≡ true → length (tabulate f ks) ≡ length ks → length (entry_of k o ++ tabulate f ks) ≡ suc (length ks)
      entry None is some rest = absurd (none_is (sym (ap is_some is) ∙ some))
        where
          none_is : false ≡ true → ⊥
          none_is e = cc
      entry (Some v) is some rest = ap suc rest

  some_values : (es : List (List ℕ × V)) (q : List ℕ) → is_some (value_at es q) ≡ true → is_some (reduced join es q) ≡ true
  some_values [] q = λ h. cc
  some_values (e ∷ es) q = elim (eq_by_cmp key_cmp q e.0) as (λ b. is_some (cond b (Some e.1) (value_at es q)) ≡ true → is_some (joined_all join (cond b (e.1 ∷ values_with es q) (values_with es q))) ≡ true) [ true ↦ λ h. refl | false ↦ some_values es q ]

  -- a table has a row for each distinct key
  pub length-table : (es : List (List ℕ × V)) → length (table_of join es) ≡ length (keys_of es)
  unfolding table_of
  length-table es = full (reduced join es) (keys_of es) (λ q is. some_values es q (sym (listed-keys es q) ∙ is))

module _ {V : Type 0} (j : Meaning V) where
  -- the header and the lines of the table are the piece of the run
  pub piece_is : (i : ℕ) (records : List (List ℕ)) (rows : List (List ℕ × V)) → rows ≡ table_of j.joined (pairs_of j.emits records) → header i (length rows) ++ lines_of j.text rows ≡ piece_over j i records
  piece_is i records rows table =
      ap (λ (t : List (List ℕ × V)). header i (length t) ++ lines_of j.text t) table
      ∙ ap (λ (n : ℕ). header i n ++ lines_of j.text (table_of j.joined (pairs_of j.emits records))) (length-table j.joined (pairs_of j.emits records))
