-- How the members of a level are taken into groups, and which merges that takes.
use Rattle.std.specs.Prelude.{◌≡◌, ℕ, suc, zero, ◌+◌, ◌||◌, ◌&&◌, Bool, cond, nat_le, List, [], ◌∷◌, ◌++◌, length, map, fold, Option, Some, None}
use Rattle.std.specs.List.{flat_map}

-- The members of a group, at least one.
pub record Members (T : Type 0) : Type 0 where
  pub first : T
  pub others : List T

module _ {T : Type 0} where
  -- A group of one member.
  abbrev pub alone : T → Members T
  alone t = record { first = t; others = [] }

  -- The group with one member more.
  abbrev pub with_next : Members T → T → Members T
  with_next g t = record { first = g.first; others = g.others ++ t ∷ [] }

  -- How many members a group has.
  abbrev pub size : Members T → ℕ
  size g = length g.others + 1

  -- All members of a group, in order.
  abbrev pub members_of : Members T → List T
  members_of g = g.first ∷ g.others

  module _ (join : T → T → T) where
    -- The merge of a group, from left to right.
    abbrev pub whole : Members T → T
    whole g = fold join g.first g.others

    module _ {X : Type 0} (input : T → T → X) where
      -- The inputs of the merges with these members, from left to right.
      abbrev pub inputs_from : T → List T → List X
      inputs_from a [] = []
      inputs_from a (t ∷ ts) = input a t ∷ inputs_from (join a t) ts

      -- The inputs of a group.
      abbrev pub group_inputs : Members T → List X
      group_inputs g = inputs_from g.first g.others

      -- The inputs of the groups of a level.
      abbrev pub level_inputs : List (Members T) → List X
      level_inputs gs = flat_map group_inputs gs

  module _ (marked : T → Bool) where
    -- Whether a group ends at this member, its n-th: at a marked one from the second on, or at the eighth.
    abbrev pub ends : ℕ → T → Bool
    ends n t = nat_le 2 n && (marked t || nat_le 8 n)

    -- The groups of the rest of a list, with or without a begun group. The last one ends with the list.
    abbrev pub groups_on : Option (Members T) → List T → List (Members T)
    groups_on None [] = []
    groups_on (Some g) [] = g ∷ []
    groups_on None (t ∷ ts) = groups_on (Some (alone t)) ts
    groups_on (Some g) (t ∷ ts) = cond (ends (size g + 1) t) (with_next g t ∷ groups_on None ts) (groups_on (Some (with_next g t)) ts)

    -- The groups of a list of two or more members; over fewer there is no level.
    abbrev pub groups_of : List T → List (Members T)
    groups_of ts = cond (nat_le 2 (length ts)) (groups_on None ts) []

    -- The group ends at its last member, whatever comes after it.
    abbrev pub Ends : Members T → Type 0
    Ends g = (ts : List T) → groups_on None (members_of g ++ ts) ≡ g ∷ groups_on None ts

    module _ (join : T → T → T) where
      -- The next level.
      abbrev pub next : List T → List T
      next ts = map (whole join) (groups_of ts)

      module _ {X : Type 0} (input : T → T → X) where
        -- The inputs of a number of levels over a list.
        abbrev pub inputs_by : ℕ → List T → List X
        inputs_by zero ts = []
        inputs_by (suc k) ts = level_inputs join input (groups_of ts) ++ inputs_by k (next ts)

        -- The inputs of all levels over a list: each level is shorter than the one below it.
        abbrev pub inputs_of : List T → List X
        inputs_of ts = inputs_by (length ts) ts
