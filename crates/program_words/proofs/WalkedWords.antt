-- What `clap` makes of a well formed list: the options and their values, as the scan has them.
use Rattle.std.proofs.Common.{◌≡◌, ◌∙◌, ◌&&◌, ◌||◌, ℕ, Bool, cond, true, false, refl, sym, ap, true≢false, List, [], ◌∷◌, ◌++◌, map, Option, Some, None, inl, inr, ◌⊎◌, append-nil, append_assoc, nat_lt}
use Rattle.std.specs.Prelude.{◌==◌, not, bytes_eq, codes, option_map, option_and_then, option_to_list, slice_get, is_some}
use Rattle.std.specs.List.{find, fold, list_all, list_any}
use Rattle.std.specs.Option.{unwrap_or}
use Rattle.std.proofs.lemmas.Slice.Eq.{bytes_eq-Decides}
use Rattle.std.proofs.lemmas.Cmp.{nat_list_eq_equiv}
use Rattle.std.proofs.lemmas.List.Folds.{list_any-append}
use Rattle.clap.specs.declared.builder.action.ArgAction.TheVariants.{SetTrue}
use Rattle.clap.specs.declared.builder.value_parser.Reading.TheVariants.{AsWritten}
use Rattle.clap.specs.declared.parser.matches.ValueSource.TheVariants.{CommandLine, DefaultValue}
use Rattle.clap.specs.Lexer.{long_of, long_of_rest, short_of, strip_byte}
use Rattle.clap.specs.Walk.{Held, Row, Rule, Step, Waiting, Walk, after_flag, after_step, arg_by_id, arg_by_long, at_row, first_of, has_row, idle, long_met, long_or_other, next, nothing_held, one_of, option, option_word, reacted, reading_by, row_text, rows_after, settled, settled_rows, short_or_plain, trailing, used, used_by_id, walk, walked, with_default, with_values, more_values, word_met}
use Rattle.clap.specs.Simple.{built, filled, matches_of, new_rule, with_index}
use Rattle.program_words.specs.WellFormed.{Text, Item, option_names, flag_names, is_option, is_flag, is_stray, begins_with_dash, name_and_value, option_in, with_item, is_met, may_stand, begun, met_option, scan, items_of, value_of, is_given}
use Rattle.program_words.specs.Options.{slider_app}

-- ---- small facts

-- a list that is there if a test failed, or if it passed
taken : {A : Type 0} (b : Bool) (o : Option A) (x : A) → cond b None o ≡ Some x → (b ≡ false) × (o ≡ Some x)
taken true o x e = absurd (true≢false (ap is_some (sym e)))
taken false o x e = (refl, e)

let_in : {A : Type 0} (b : Bool) (o : Option A) (x : A) → cond b o None ≡ Some x → (b ≡ true) × (o ≡ Some x)
let_in true o x e = (refl, e)
let_in false o x e = absurd (true≢false (ap is_some (sym e)))

both_true : (a b : Bool) → (a && b) ≡ true → (a ≡ true) × (b ≡ true)
both_true true b e = (refl, e)
both_true false b e = absurd (true≢false (sym e))

neither : (a b : Bool) → (a || b) ≡ false → (a ≡ false) × (b ≡ false)
neither true b e = absurd (true≢false e)
neither false b e = (refl, e)

not_true : (b : Bool) → not b ≡ true → b ≡ false
not_true true e = absurd (true≢false (sym e))
not_true false e = refl

same_text : (a b : Text) → bytes_eq a b ≡ true → a ≡ b
same_text a b e = (bytes_eq-Decides a b).0 e

-- the items after the first one
rest_of : (name : Text) (value : Option Text) (o : Option (List Item)) (items : List Item) → with_item name value o ≡ Some items → (rest : List Item) × (o ≡ Some rest) × (items ≡ (name, value) ∷ rest)
rest_of name value None items e = absurd (true≢false (ap is_some (sym e)))
rest_of name value (Some rest) items e = (rest, refl, sym (ap (λ (o : Option (List Item)). unwrap_or o []) e))

-- ---- the rules of the options and flags, as they are built

-- the rule of an option, or of a flag
abbrev rule_with : Bool → Text → Rule
rule_with flag name = with_index 1 (filled (record (new_rule name) { long = Some name; action = cond flag (Some SetTrue) None }))

abbrev rule_for : Text → Rule
rule_for name = rule_with (is_flag name) name

abbrev all_names : List Text
all_names = option_names ++ flag_names

abbrev rules : List Rule
rules = map rule_for all_names

rules_are : (built slider_app).top.rules ≡ rules
unfolding is_flag
rules_are = refl

by_long : (names : List Text) (name : Text) → list_any (λ n. bytes_eq name n) names ≡ true → arg_by_long (map rule_for names) name ≡ Some (rule_for name)
by_long [] name is = absurd (true≢false (sym is))
by_long (n ∷ names) name is = go (bytes_eq name n) refl is (by_long names name)
  where
    go : (b : Bool) → bytes_eq name n ≡ b → (b || list_any (λ m. bytes_eq name m) names) ≡ true
        → (list_any (λ m. bytes_eq name m) names ≡ true → arg_by_long (map rule_for names) name ≡ Some (rule_for name)) → arg_by_long (map rule_for (n ∷ names)) name ≡ Some (rule_for name)
    go true here is further =
        let same : n ≡ name = sym (same_text name n here) in
        let hit : bytes_eq n name ≡ true = nat_list_eq_equiv.symm n name ∙ here in
        ap (λ b. cond (b || false) (Some (rule_for n)) (arg_by_long (map rule_for names) name)) hit ∙ ap (λ (m : Text). Some (rule_for m)) same
    go false here is further =
        let miss : bytes_eq n name ≡ false = nat_list_eq_equiv.symm n name ∙ here in
        ap (λ b. cond (b || false) (Some (rule_for n)) (arg_by_long (map rule_for names) name)) miss ∙ further is

by_id : (names : List Text) (name : Text) → list_any (λ n. bytes_eq name n) names ≡ true → arg_by_id (map rule_for names) name ≡ Some (rule_for name)
by_id [] name is = absurd (true≢false (sym is))
by_id (n ∷ names) name is = go (bytes_eq name n) refl is (by_id names name)
  where
    go : (b : Bool) → bytes_eq name n ≡ b → (b || list_any (λ m. bytes_eq name m) names) ≡ true
        → (list_any (λ m. bytes_eq name m) names ≡ true → arg_by_id (map rule_for names) name ≡ Some (rule_for name)) → arg_by_id (map rule_for (n ∷ names)) name ≡ Some (rule_for name)
    go true here is further =
        let same : n ≡ name = sym (same_text name n here) in
        let hit : bytes_eq n name ≡ true = nat_list_eq_equiv.symm n name ∙ here in
        ap (λ b. cond b (Some (rule_for n)) (arg_by_id (map rule_for names) name)) hit ∙ ap (λ (m : Text). Some (rule_for m)) same
    go false here is further =
        let miss : bytes_eq n name ≡ false = nat_list_eq_equiv.symm n name ∙ here in
        ap (λ b. cond b (Some (rule_for n)) (arg_by_id (map rule_for names) name)) miss ∙ further is

-- whether a name is that of an option or of a flag
abbrev is_named : Text → Bool
is_named name = list_any (λ n. bytes_eq name n) all_names

rule_by_long : (flag : Bool) (name : Text) → is_flag name ≡ flag → is_named name ≡ true → arg_by_long rules name ≡ Some (rule_with flag name)
rule_by_long flag name kind named = by_long all_names name named ∙ ap (λ b. Some (rule_with b name)) kind

rule_by_id : (flag : Bool) (name : Text) → is_flag name ≡ flag → is_named name ≡ true → arg_by_id rules name ≡ Some (rule_with flag name)
rule_by_id flag name kind named = by_id all_names name named ∙ ap (λ b. Some (rule_with b name)) kind

-- what is allowed is an option, or a flag without a value
left_or_right : (a b : Bool) → (a ≡ true) ⊎ (b ≡ true) → (a || b) ≡ true
left_or_right true b one = refl
left_or_right false b (inl is) = absurd (true≢false (sym is))
left_or_right false b (inr is) = is

option_or_flag : (name : Text) → (is_option name ≡ true) ⊎ (is_flag name ≡ true) → is_named name ≡ true
unfolding is_option is_flag
option_or_flag name one =
    list_any-append (λ n. bytes_eq name n) option_names flag_names
    ∙ left_or_right (list_any (λ n. bytes_eq name n) option_names) (list_any (λ n. bytes_eq name n) flag_names) one

with_its_value : (name value : Text) → may_stand name (Some value) ≡ true → (is_flag name ≡ false) × (is_named name ≡ true)
with_its_value name value may = at (is_flag name) refl may
  where
    at : (flag : Bool) → is_flag name ≡ flag → cond flag false (is_option name) ≡ true → (is_flag name ≡ false) × (is_named name ≡ true)
    at true kind may = absurd (true≢false (sym may))
    at false kind may = (kind, option_or_flag name (inl may))

with_no_value : (flag : Bool) (name : Text) → is_flag name ≡ flag → may_stand name None ≡ true → is_named name ≡ true
with_no_value true name kind may = option_or_flag name (inr kind)
with_no_value false name kind may = option_or_flag name (inl (ap (λ b. cond b true (is_option name)) (sym kind) ∙ may))

-- ---- rows

-- the row of an option and its value, or of a flag
abbrev row_with : Bool → Item → Row
row_with flag item = record {
  id = item.0;
  values = cond flag (codes "true" ∷ []) (option_to_list item.1);
  count = None;
  source = Some CommandLine;
  reading = reading_by (rule_with flag item.0);
}

abbrev item_row : Item → Row
item_row item = row_with (is_flag item.0) item

abbrev rows_for : List Item → List Row
rows_for items = map item_row items

abbrev names_of_items : List Item → List Text
names_of_items items = map (λ (item : Item). item.0) items

at_no_row : (id : Text) (change : Row → List Row) (missing rows : List Row) → has_row id rows ≡ false → at_row id change missing rows ≡ rows ++ missing
at_no_row id change missing [] none = refl
at_no_row id change missing (r ∷ rows) none =
    let parts = neither (bytes_eq r.id id) (has_row id rows) none in
    rw parts.0 (ap (λ (rs : List Row). r ∷ rs) (at_no_row id change missing rows parts.1))

row_met : (name : Text) (items : List Item) → has_row name (rows_for items) ≡ is_met (names_of_items items) name
row_met name [] = refl
row_met name (item ∷ items) = ap (λ b. bytes_eq item.0 name || b) (row_met name items)

rows_more : (items : List Item) (item : Item) → rows_for items ++ item_row item ∷ [] ≡ rows_for (items ++ item ∷ [])
rows_more [] item = refl
rows_more (i ∷ items) item = ap (λ (rs : List Row). item_row i ∷ rs) (rows_more items item)

names_more : (items : List Item) (name : Text) (value : Option Text) → names_of_items items ++ name ∷ [] ≡ names_of_items (items ++ (name, value) ∷ [])
names_more [] name value = refl
names_more (i ∷ items) name value = ap (λ (ns : List Text). i.0 ∷ ns) (names_more items name value)

-- a first use adds its row
row_added : (flag : Bool) (name : Text) (value : Option Text) (items : List Item) → is_flag name ≡ flag → is_met (names_of_items items) name ≡ false
    → with_values name (reading_by (rule_with flag name)) CommandLine (row_with flag (name, value)).values (at_row name (λ _. []) [] (rows_for items)) ≡ rows_for (items ++ (name, value) ∷ [])
row_added flag name value items kind new =
    let none : has_row name (rows_for items) ≡ false = row_met name items ∙ new in
    let without_is : at_row name (λ _. []) [] (rows_for items) ≡ rows_for items = at_no_row name (λ _. []) [] (rows_for items) none ∙ append-nil (rows_for items) in
    let values = (row_with flag (name, value)).values in
    ap (λ (rs : List Row). with_values name (reading_by (rule_with flag name)) CommandLine values rs) without_is
    ∙ at_no_row name (more_values CommandLine values) (row_with flag (name, value) ∷ []) (rows_for items) none
    ∙ ap (λ b. rows_for items ++ row_with b (name, value) ∷ []) (sym kind) ∙ rows_more items (name, value)

used_option : (name value : Text) (items : List Item) → is_flag name ≡ false → is_met (names_of_items items) name ≡ false
    → used (rule_with false name) (value ∷ []) (rows_for items) ≡ rows_for (items ++ (name, Some value) ∷ [])
used_option name value items kind new = row_added false name (Some value) items kind new

used_flag : (name : Text) (items : List Item) → is_flag name ≡ true → is_met (names_of_items items) name ≡ false
    → used (rule_with true name) [] (rows_for items) ≡ rows_for (items ++ (name, None) ∷ [])
used_flag name items kind new = row_added true name None items kind new

-- ---- an argument

-- an argument that begins an option is a long option to `clap`
named_some : is_named [] ≡ true → ⊥
named_some is = true≢false (sym is)

long_is : (word : Text) (o : Text × Option Text) → option_in word ≡ Some o → is_named o.0 ≡ true → (long_of word ≡ Some o) × (bytes_eq word (45 ∷ 45 ∷ []) ≡ false)
long_is [] o is named = absurd (true≢false (ap is_some (sym is)))
long_is (a ∷ []) o is named = absurd (true≢false (ap is_some (sym is)))
long_is (a ∷ b ∷ text) o is named =
    elim (a == 45) as (λ s. option_map name_and_value (cond (s && (b == 45)) (Some text) None) ≡ Some o
    → (option_and_then long_of_rest (option_and_then (strip_byte 45) (cond s (Some (b ∷ text)) None)) ≡ Some o) × ((s && bytes_eq (b ∷ text) (45 ∷ [])) ≡ false))
    [ true ↦ second text | false ↦ λ e. absurd (true≢false (ap is_some (sym e))) ] is
  where
    tail : (t : Text) → option_map name_and_value (Some t) ≡ Some o → (long_of_rest t ≡ Some o) × (bytes_eq t [] ≡ false)
    tail [] e =
        let none : [] ≡ o.0 = ap (λ (p : Option (Text × Option Text)). (unwrap_or p o).0) e in
        absurd (named_some (ap is_named none ∙ named))
    tail (x ∷ xs) e = (e, refl)

    second : (t : Text) → option_map name_and_value (cond (true && (b == 45)) (Some t) None) ≡ Some o
        → (option_and_then long_of_rest (option_and_then (strip_byte 45) (Some (b ∷ t))) ≡ Some o) × (bytes_eq (b ∷ t) (45 ∷ []) ≡ false)
    second t = elim (b == 45) as (λ s. option_map name_and_value (cond s (Some t) None) ≡ Some o
        → (option_and_then long_of_rest (cond s (Some t) None) ≡ Some o) × ((s && bytes_eq t []) ≡ false))
        [ true ↦ tail t | false ↦ λ e. absurd (true≢false (ap is_some (sym e))) ]

-- an argument that does not begin with a dash is no flag to `clap`
no_flag : (word : Text) → begins_with_dash word ≡ false → (bytes_eq word (45 ∷ 45 ∷ []) ≡ false) × (long_of word ≡ None) × (short_of word ≡ None)
no_flag [] plain = (refl, refl, refl)
no_flag (b ∷ bs) plain = (rw plain refl, rw plain refl, rw plain refl)

-- ---- a step of the walk

abbrev at : Waiting → Held → Walk
at waiting held = record { held = held; waiting = waiting; position = 1; is_trailing = false; stopped = None }

-- an option or a flag when none waits for its value
met_long : (flag : Bool) (word name : Text) (value : Option Text) (h : Held) → option_in word ≡ Some (name, value) → is_flag name ≡ flag → is_named name ≡ true
    → word_met rules [] false idle 1 word h ≡ after_flag rules idle word (long_met rules (Some (rule_with flag name)) value h).0 (long_met rules (Some (rule_with flag name)) value h).1
met_long flag word name value h is kind named =
    let long = long_is word (name, value) is named in
    ap (λ b. cond b (h, trailing 1) (long_or_other rules idle word (long_of word) h)) long.1
    ∙ ap (λ (o : Option (Text × Option Text)). long_or_other rules idle word o h) long.0
    ∙ ap (λ (o : Option Rule). after_flag rules idle word (long_met rules o value h).0 (long_met rules o value h).1) (rule_by_long flag name kind named)

step_with : (word name value : Text) (h : Held) → option_in word ≡ Some (name, Some value) → is_flag name ≡ false → is_named name ≡ true
    → walked rules [] (at idle h) word ≡ at idle (reacted rules (rule_with false name) (value ∷ []) h)
unfolding walked
step_with word name value h is kind named = ap (λ (p : Held × Step). after_step rules word (at idle h) p.0 p.1) (met_long false word name (Some value) h is kind named)

step_without : (word name : Text) (h : Held) → option_in word ≡ Some (name, None) → is_flag name ≡ false → is_named name ≡ true
    → walked rules [] (at idle h) word ≡ at (option name) (record (settled rules h) { pending = Some (name, []) })
unfolding walked
step_without word name h is kind named = ap (λ (p : Held × Step). after_step rules word (at idle h) p.0 p.1) (met_long false word name None h is kind named)

step_flag : (word name : Text) (h : Held) → option_in word ≡ Some (name, None) → is_flag name ≡ true → is_named name ≡ true
    → walked rules [] (at idle h) word ≡ at idle (reacted rules (rule_with true name) [] h)
unfolding walked
step_flag word name h is kind named = ap (λ (p : Held × Step). after_step rules word (at idle h) p.0 p.1) (met_long true word name None h is kind named)

-- the value that an option waits for
abbrev waits : Text → List Text → List Row → ℕ → Held
waits name values rows skip = record { rows = rows; pending = Some (name, values); skip = skip }

step_value : (word name : Text) (rows : List Row) (skip : ℕ) → begins_with_dash word ≡ false → is_flag name ≡ false → is_named name ≡ true
    → walked rules [] (at (option name) (waits name [] rows skip)) word ≡ at idle (waits name (word ∷ []) rows skip)
unfolding walked
step_value word name rows skip plain kind named =
    let flags = no_flag word plain in
    let h = waits name [] rows skip in
    let same : bytes_eq name name ≡ true = nat_list_eq_equiv.refl name in
    let met : word_met rules [] false (option name) 1 word h ≡ (waits name (word ∷ []) rows skip, next idle) =
    ap (λ b. cond b (h, trailing 1) (long_or_other rules (option name) word (long_of word) h)) flags.0
    ∙ ap (λ (o : Option (Text × Option Text)). long_or_other rules (option name) word o h) flags.1
    ∙ ap (λ (o : Option Text). short_or_plain rules (option name) word o h) flags.2
    ∙ ap (λ (o : Option Rule). ((option_word o name word h).0, next (option_word o name word h).1)) (rule_by_id false name kind named)
    ∙ ap (λ b. (waits name (word ∷ []) rows skip, next (cond (nat_lt (cond b 1 0) 1) (option name) idle))) same in
    ap (λ (p : Held × Step). after_step rules word (at (option name) h) p.0 p.1) met

-- ---- the walk over a well formed list

-- what the walk over these arguments comes to, after the items before them
abbrev EndsWith : Walk → List Text → List Item → Type 0
EndsWith w words items = settled_rows rules (fold (walked rules []) w words).held.pending (fold (walked rules []) w words).held.rows ≡ rows_for items

record Walks (words : List Text) : Type 0 where
  alone : (h : Held) (done items : List Item) → settled_rows rules h.pending h.rows ≡ rows_for done → scan (names_of_items done) None words ≡ Some items
      → EndsWith (at idle h) words (done ++ items)
  waiting : (name : Text) (rows : List Row) (skip : ℕ) (done items : List Item) → rows ≡ rows_for done → is_flag name ≡ false → is_named name ≡ true
      → is_met (names_of_items done) name ≡ false → scan (names_of_items done ++ name ∷ []) (Some name) words ≡ Some items
      → EndsWith (at (option name) (waits name [] rows skip)) words (done ++ items)

no_words : Walks []
no_words = record {
  alone = λ h done items held is.
      let none : [] ≡ items = ap (λ (o : Option (List Item)). unwrap_or o items) is in
      held ∙ ap rows_for (sym (append-nil done) ∙ ap (λ (l : List Item). done ++ l) none);
  waiting = λ name rows skip done items same kind named new is. absurd (true≢false (ap is_some (sym is)));
}

-- a whole item, after which the walk goes on
one_item : (word name : Text) (value : Option Text) (rest : List Text) (w : Walk) (h : Held) (done items : List Item) → Walks rest → walked rules [] w word ≡ at idle h
    → settled_rows rules h.pending h.rows ≡ rows_for (done ++ (name, value) ∷ [])
    → with_item name value (scan (names_of_items done ++ name ∷ []) None rest) ≡ Some items → EndsWith w (word ∷ rest) (done ++ items)
one_item word name value rest w h done items walks step rows scanned =
    let more = rest_of name value (scan (names_of_items done ++ name ∷ []) None rest) items scanned in
    let after = done ++ (name, value) ∷ [] in
    let scanned_on : scan (names_of_items after) None rest ≡ Some more.0 = ap (λ (ns : List Text). scan ns None rest) (sym (names_more done name value)) ∙ more.1 in
    ap (λ (v : Walk). settled_rows rules (fold (walked rules []) v rest).held.pending (fold (walked rules []) v rest).held.rows) step
    ∙ walks.alone h after more.0 rows scanned_on
    ∙ ap rows_for (append_assoc done ((name, value) ∷ []) more.0 ∙ ap (λ (l : List Item). done ++ l) (sym more.2))

-- an option that has its value
one_word : (word name value : Text) (rest : List Text) (h : Held) (done items : List Item) → Walks rest → settled_rows rules h.pending h.rows ≡ rows_for done
    → option_in word ≡ Some (name, Some value) → is_flag name ≡ false → is_named name ≡ true → is_met (names_of_items done) name ≡ false
    → with_item name (Some value) (scan (names_of_items done ++ name ∷ []) None rest) ≡ Some items → EndsWith (at idle h) (word ∷ rest) (done ++ items)
one_word word name value rest h done items walks held is kind named new scanned =
    let rows : used (rule_with false name) (value ∷ []) (settled_rows rules h.pending h.rows) ≡ rows_for (done ++ (name, Some value) ∷ []) =
    ap (λ (rs : List Row). used (rule_with false name) (value ∷ []) rs) held ∙ used_option name value done kind new in
    one_item word name (Some value) rest (at idle h) (reacted rules (rule_with false name) (value ∷ []) h) done items walks (step_with word name value h is kind named) rows scanned

-- a flag
flag_word : (word name : Text) (rest : List Text) (h : Held) (done items : List Item) → Walks rest → settled_rows rules h.pending h.rows ≡ rows_for done
    → option_in word ≡ Some (name, None) → is_flag name ≡ true → is_named name ≡ true → is_met (names_of_items done) name ≡ false
    → with_item name None (scan (names_of_items done ++ name ∷ []) None rest) ≡ Some items → EndsWith (at idle h) (word ∷ rest) (done ++ items)
flag_word word name rest h done items walks held is kind named new scanned =
    let rows : used (rule_with true name) [] (settled_rows rules h.pending h.rows) ≡ rows_for (done ++ (name, None) ∷ []) =
    ap (λ (rs : List Row). used (rule_with true name) [] rs) held ∙ used_flag name done kind new in
    one_item word name None rest (at idle h) (reacted rules (rule_with true name) [] h) done items walks (step_flag word name h is kind named) rows scanned

-- an option that waits for its value
first_word : (word name : Text) (rest : List Text) (h : Held) (done items : List Item) → Walks rest → settled_rows rules h.pending h.rows ≡ rows_for done
    → option_in word ≡ Some (name, None) → is_flag name ≡ false → is_named name ≡ true → is_met (names_of_items done) name ≡ false
    → scan (names_of_items done ++ name ∷ []) (Some name) rest ≡ Some items → EndsWith (at idle h) (word ∷ rest) (done ++ items)
first_word word name rest h done items walks held is kind named new scanned =
    ap (λ (w : Walk). settled_rows rules (fold (walked rules []) w rest).held.pending (fold (walked rules []) w rest).held.rows) (step_without word name h is kind named)
    ∙ walks.waiting name (settled_rows rules h.pending h.rows) h.skip done items held kind named new scanned

-- an option's value in an argument of its own
value_word : (word name : Text) (rest : List Text) (rows : List Row) (skip : ℕ) (done items : List Item) → Walks rest → rows ≡ rows_for done → begins_with_dash word ≡ false
    → is_flag name ≡ false → is_named name ≡ true → is_met (names_of_items done) name ≡ false
    → with_item name (Some word) (scan (names_of_items done ++ name ∷ []) None rest) ≡ Some items → EndsWith (at (option name) (waits name [] rows skip)) (word ∷ rest) (done ++ items)
value_word word name rest rows skip done items walks same plain kind named new scanned =
    let held : settled_rows rules (Some (name, word ∷ [])) rows ≡ rows_for (done ++ (name, Some word) ∷ []) =
    ap (λ (o : Option Rule). used_by_id o (word ∷ []) rows) (rule_by_id false name kind named)
    ∙ ap (λ (rs : List Row). used (rule_with false name) (word ∷ []) rs) same ∙ used_option name word done kind new in
    one_item word name (Some word) rest (at (option name) (waits name [] rows skip)) (waits name (word ∷ []) rows skip) done items walks (step_value word name rows skip plain kind named) held scanned

-- the option or flag that an argument begins
begins : (word : Text) (rest : List Text) (h : Held) (done items : List Item) (o : Option (Text × Option Text)) → Walks rest → settled_rows rules h.pending h.rows ≡ rows_for done
    → option_in word ≡ o → met_option (names_of_items done) o (λ more waiting. scan more waiting rest) ≡ Some items → EndsWith (at idle h) (word ∷ rest) (done ++ items)
begins word rest h done items None walks held is scanned = absurd (true≢false (ap is_some (sym scanned)))
begins word rest h done items (Some o) walks held is scanned =
    let passed = let_in (may_stand o.0 o.1 && not (is_met (names_of_items done) o.0)) (begun (names_of_items done) o.0 o.1 (λ more waiting. scan more waiting rest)) items scanned in
    let parts = both_true (may_stand o.0 o.1) (not (is_met (names_of_items done) o.0)) passed.0 in
    by_value o.0 o.1 is parts.0 (not_true (is_met (names_of_items done) o.0) parts.1) passed.1
  where
    by_kind : (flag : Bool) (name : Text) → is_flag name ≡ flag → option_in word ≡ Some (name, None) → is_named name ≡ true → is_met (names_of_items done) name ≡ false
        → cond flag (with_item name None (scan (names_of_items done ++ name ∷ []) None rest)) (scan (names_of_items done ++ name ∷ []) (Some name) rest) ≡ Some items
        → EndsWith (at idle h) (word ∷ rest) (done ++ items)
    by_kind true name kind is named new scanned = flag_word word name rest h done items walks held is kind named new scanned
    by_kind false name kind is named new scanned = first_word word name rest h done items walks held is kind named new scanned

    by_value : (name : Text) (value : Option Text) → option_in word ≡ Some (name, value) → may_stand name value ≡ true → is_met (names_of_items done) name ≡ false
        → begun (names_of_items done) name value (λ more waiting. scan more waiting rest) ≡ Some items → EndsWith (at idle h) (word ∷ rest) (done ++ items)
    by_value name None is may new scanned = by_kind (is_flag name) name refl is (with_no_value (is_flag name) name refl may) new scanned
    by_value name (Some value) is may new scanned =
        let valued = with_its_value name value may in
        one_word word name value rest h done items walks held is valued.0 valued.1 new scanned

walks_on : (word : Text) (rest : List Text) → Walks rest → Walks (word ∷ rest)
walks_on word rest walks = record {
  alone = λ h done items held scanned.
      let kept = taken (is_stray word) (met_option (names_of_items done) (option_in word) (λ more waiting. scan more waiting rest)) items scanned in
      begins word rest h done items (option_in word) walks held refl kept.1;
  waiting = λ name rows skip done items same kind named new scanned.
      let kept = taken (is_stray word || begins_with_dash word) (with_item name (Some word) (scan (names_of_items done ++ name ∷ []) None rest)) items scanned in
      value_word word name rest rows skip done items walks same (neither (is_stray word) (begins_with_dash word) kept.0).1 kind named new kept.1;
}

walks : (words : List Text) → Walks words
walks [] = no_words
walks (word ∷ rest) = walks_on word rest (walks rest)

-- ---- the rows of the whole list

-- no option has a default
no_defaults : (names more : List Text) (rows : List Row) → list_all (λ n. not (is_flag n)) names ≡ true → fold with_default rows (map rule_for (names ++ more)) ≡ fold with_default rows (map rule_for more)
no_defaults [] more rows options = refl
no_defaults (n ∷ names) more rows options =
    let parts = both_true (not (is_flag n)) (list_all (λ m. not (is_flag m)) names) options in
    let same : with_default rows (rule_for n) ≡ rows =
    ap (λ b. with_default rows (rule_with b n)) (not_true (is_flag n) parts.0)
    ∙ elim (has_row n rows) as (λ b. cond b rows rows ≡ rows) [ true ↦ refl | false ↦ refl ] in
    ap (λ (r : List Row). fold with_default r (map rule_for (names ++ more))) same ∙ no_defaults names more rows parts.1

-- the row of the flag if it is not given
abbrev work : Text
work = codes "work"

abbrev default_row : Row
default_row = record {
  id = work;
  values = codes "false" ∷ [];
  count = None;
  source = Some DefaultValue;
  reading = AsWritten;
}

-- the rows at the end
abbrev all_rows : List Item → List Row
all_rows items = rows_for items ++ cond (is_given items work) [] (default_row ∷ [])

row_given : (name : Text) (items : List Item) → has_row name (rows_for items) ≡ is_given items name
row_given name [] = refl
row_given name (item ∷ items) = ap (λ b. bytes_eq item.0 name || b) (row_given name items)

with_flag : (items : List Item) → fold with_default (rows_for items) (map rule_for flag_names) ≡ all_rows items
unfolding is_flag
with_flag items = at (is_given items work) (row_given work items)
  where
    at : (b : Bool) → has_row work (rows_for items) ≡ b → cond (has_row work (rows_for items)) (rows_for items) (with_values work AsWritten DefaultValue (codes "false" ∷ []) (rows_for items))
        ≡ rows_for items ++ cond b [] (default_row ∷ [])
    at true given = ap (λ b. cond b (rows_for items) (with_values work AsWritten DefaultValue (codes "false" ∷ []) (rows_for items))) given ∙ sym (append-nil (rows_for items))
    at false given =
        ap (λ b. cond b (rows_for items) (with_values work AsWritten DefaultValue (codes "false" ∷ []) (rows_for items))) given
        ∙ at_no_row work (more_values DefaultValue (codes "false" ∷ [])) (default_row ∷ []) (rows_for items) given

all_options : list_all (λ n. not (is_flag n)) option_names ≡ true
unfolding is_flag
all_options = refl

-- the matches of a well formed list are its items
matches_are : (words : List Text) (items : List Item) → items_of words ≡ Some items → matches_of slider_app words ≡ all_rows items
unfolding items_of
matches_are words items is =
    ap (λ (rs : List Rule). rows_after rs [] words) rules_are
    ∙ no_defaults option_names flag_names (settled rules (walk rules [] nothing_held words).held).rows all_options
    ∙ ap (λ (rs : List Row). fold with_default rs (map rule_for flag_names)) ((walks words).alone nothing_held [] items refl is)
    ∙ with_flag items

-- the value of an option among the rows
first_item : (items : List Item) (name : Text) (more : List Row) → is_flag name ≡ false → first_of name more ≡ None → first_of name (rows_for items ++ more) ≡ value_of items name
first_item [] name more kind none = none
first_item (item ∷ items) name more kind none = at (bytes_eq item.0 name) refl (first_item items name more kind none)
  where
    at : (b : Bool) → bytes_eq item.0 name ≡ b → first_of name (rows_for items ++ more) ≡ value_of items name
        → option_and_then (λ (r : Row). slice_get r.values 0) (cond b (Some (item_row item)) (find (λ (r : Row). bytes_eq r.id name) (rows_for items ++ more)))
        ≡ option_and_then (λ (i : Item). i.1) (cond b (Some item) (find (λ (i : Item). bytes_eq i.0 name) items))
    at true here further =
        let same : is_flag item.0 ≡ false = ap is_flag (same_text item.0 name here) ∙ kind in
        ap (λ b. slice_get (row_with b item).values 0) same ∙ only item.1
      where
        only : (o : Option Text) → slice_get (option_to_list o) 0 ≡ o
        only None = refl
        only (Some value) = refl
    at false here further = further

other_than_work : (name : Text) → bytes_eq name work ≡ false → is_flag name ≡ false
unfolding is_flag
other_than_work name other = ap (λ b. b || false) other

pub value_found : (words : List Text) (items : List Item) (name : Text) → bytes_eq name work ≡ false → items_of words ≡ Some items
    → first_of name (matches_of slider_app words) ≡ value_of items name
value_found words items name other is =
    ap (first_of name) (matches_are words items is)
    ∙ first_item items name (cond (is_given items work) [] (default_row ∷ [])) (other_than_work name other) (last (is_given items work) (nat_list_eq_equiv.symm work name ∙ other))
  where
    last : (b : Bool) → bytes_eq work name ≡ false → first_of name (cond b [] (default_row ∷ [])) ≡ None
    last true apart = refl
    last false apart = ap (λ c. option_and_then (λ (r : Row). slice_get r.values 0) (cond c (Some default_row) None)) apart

-- the flag among the rows
work_is_flag : is_flag work ≡ true
unfolding is_flag
work_is_flag = refl

flag_row : (items : List Item) (more : List Row) → one_of work (rows_for items ++ more) ≡ cond (is_given items work) (Some (codes "true")) (one_of work more)
flag_row [] more = refl
flag_row (item ∷ items) more = at (bytes_eq item.0 work) refl (flag_row items more)
  where
    at : (b : Bool) → bytes_eq item.0 work ≡ b → one_of work (rows_for items ++ more) ≡ cond (is_given items work) (Some (codes "true")) (one_of work more)
        → option_and_then row_text (cond b (Some (item_row item)) (find (λ (r : Row). bytes_eq r.id work) (rows_for items ++ more)))
        ≡ cond (b || is_given items work) (Some (codes "true")) (one_of work more)
    at true here further = ap (λ b. row_text (row_with b item)) (ap is_flag (same_text item.0 work here) ∙ work_is_flag)
    at false here further = further

flag_found : (words : List Text) (items : List Item) → items_of words ≡ Some items → one_of work (matches_of slider_app words) ≡ Some (cond (is_given items work) (codes "true") (codes "false"))
flag_found words items is =
    ap (one_of work) (matches_are words items is) ∙ flag_row items (cond (is_given items work) [] (default_row ∷ [])) ∙ elim (is_given items work) as (λ b.
    cond b (Some (codes "true")) (one_of work (cond b [] (default_row ∷ []))) ≡ Some (cond b (codes "true") (codes "false"))) [ true ↦ refl | false ↦ refl ]

-- what is read of the flag says whether it is given
pub flag_read : (words : List Text) (items : List Item) (text : Option Text) (read : Bool) → text ≡ one_of work (matches_of slider_app words) → items_of words ≡ Some items
    → (text ≡ Some (codes "true") → read ≡ true) → (text ≡ Some (codes "false") → read ≡ false) → read ≡ is_given items work
flag_read words items text read found is stands lacks = at (is_given items work) (found ∙ flag_found words items is)
  where
    at : (given : Bool) → text ≡ Some (cond given (codes "true") (codes "false")) → read ≡ given
    at true says = stands says
    at false says = lacks says
