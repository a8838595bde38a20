-- When the arguments are well formed, and which options they give.
use Rattle.std.specs.Prelude.{ℕ, ◌-◌, ◌==◌, Bool, false, true, not, ◌&&◌, ◌||◌, if◌then◌else◌, List, [], ◌∷◌, ◌++◌, length, codes, bytes_eq, Option, option_map, option_and_then, is_none, slice_get, find}
use Rattle.std.specs.List.{list_any, before_first, after_first}
use Rattle.std.specs.Option.{option_map_or}
use Rattle.std.specs.declared.option.Option.TheVariants.{Some, None}
use Rattle.std.specs.Borrow.{Bor}

-- An argument, as its bytes.
abbrev pub Text : Type 0
Text = List ℕ

-- The names of the options that take a value.
abbrev pub option_names : List Text
option_names =
    codes "job" ∷ codes "k" ∷ codes "tree" ∷ codes "buckets" ∷ codes "parts" ∷ codes "workers" ∷ codes "shards" ∷ codes "keep" ∷ codes "gen" ∷ []

-- The names of the flags, which take none.
abbrev pub flag_names : List Text
flag_names = codes "work" ∷ []

-- Whether these bytes are the name of an option that takes a value, whole.
unfoldable pub is_option : Text → Bool
is_option name = list_any (λ n. bytes_eq name n) option_names

-- Whether these bytes are the name of a flag, whole.
unfoldable pub is_flag : Text → Bool
is_flag name = list_any (λ n. bytes_eq name n) flag_names

-- An argument is allowed nowhere if it is empty, `-` or `--`, or ends in `=` (61).
abbrev pub is_stray : Text → Bool
is_stray word = option_map_or (λ b. b == 61) (slice_get word (length word - 1)) true || bytes_eq word (codes "-") || bytes_eq word (codes "--")

-- An argument begins with `-` (45).
abbrev pub begins_with_dash : Text → Bool
begins_with_dash [] = false
begins_with_dash (b ∷ bs) = b == 45

-- What comes after the two dashes that an argument begins with.
abbrev pub behind_dashes : Text → Option Text
behind_dashes (a ∷ b ∷ text) = if a == 45 && b == 45 then Some text else None
behind_dashes word = None

-- What comes before the first `=`, and what comes after it if there is one.
abbrev pub name_and_value : Text → Text × Option Text
name_and_value text = (
  before_first (λ b. b == 61) text,
  if list_any (λ b. b == 61) text then Some (after_first (λ b. b == 61) text) else None,
)

-- The name after an argument's two dashes, and the value that is in the same argument.
abbrev pub option_in : Text → Option (Text × Option Text)
option_in word = option_map name_and_value (behind_dashes word)

-- An option and its value, or a flag, which has none.
abbrev pub Item : Type 0
Item = Text × Option Text

-- One item more, in front.
abbrev pub with_item : Text → Option Text → Option (List Item) → Option (List Item)
with_item name value = option_map (λ items. (name, value) ∷ items)

-- Whether the name was met before.
abbrev pub is_met : List Text → Text → Bool
is_met met name = list_any (λ n. bytes_eq n name) met

-- The name is that of a flag, with no value in its argument, or that of an option.
abbrev pub may_stand : Text → Option Text → Bool
may_stand name value = if is_flag name then is_none value else is_option name

-- An option that has its value in the same argument, one that waits for the next argument, or a flag; `next` reads the
-- arguments after.
abbrev pub begun : List Text → Text → Option Text → (List Text → Option Text → Option (List Item)) → Option (List Item)
begun met name (Some value) next = with_item name (Some value) (next (met ++ name ∷ []) None)
begun met name None next = if is_flag name then with_item name None (next (met ++ name ∷ []) None) else next (met ++ name ∷ []) (Some name)

-- An argument when no option waits for its value: it is an option or a flag that was not met before.
abbrev pub met_option : List Text → Option (Text × Option Text) → (List Text → Option Text → Option (List Item)) → Option (List Item)
met_option met None next = None
met_option met (Some option) next = if may_stand option.0 option.1 && not (is_met met option.0) then begun met option.0 option.1 next else None

-- The options and flags that the arguments give, after these names were met, and with one that may wait for its value;
-- nothing if the arguments are not well formed.
abbrev pub scan : List Text → Option Text → List Text → Option (List Item)
scan met None [] = Some []
scan met (Some name) [] = None
scan met None (word ∷ rest) = if is_stray word then None else met_option met (option_in word) (λ more waiting. scan more waiting rest)
scan met (Some name) (word ∷ rest) = if is_stray word || begins_with_dash word then None else with_item name (Some word) (scan met None rest)

-- The options that the arguments give, each with its value, and the flags, in their order; nothing if the arguments are
-- not well formed.
unfoldable pub items_of : List Text → Option (List Item)
items_of words = scan [] None words

-- The value of an option.
abbrev pub value_of : List Item → Text → Option Text
value_of items name = option_and_then (λ item. item.1) (find (λ item. bytes_eq item.0 name) items)

-- A flag is among the items.
abbrev pub is_given : List Item → Text → Bool
is_given items name = list_any (λ item. bytes_eq item.0 name) items

-- A name and its value, as the code has them.
abbrev pub as_texts : Bor Text × Option (Bor Text) → Text × Option Text
as_texts o = (o.0.now, option_map (λ v. v.now) o.1)
