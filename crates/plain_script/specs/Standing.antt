-- All states of all walks at each place of a history, and what was told above it.
use Rattle.std.specs.Prelude.{ℕ, zero, suc, ◌==◌, ◌&&◌, ◌||◌, ◌++◌, ◌<◌, Bool, false, true, List, [], ◌∷◌, take, map, get_or, Option, Some, None, ⊤, if◌then◌else◌}
use Rattle.std.specs.List.{flat_map, range_with_len}
use Rattle.std.specs.Option.{option_to_list}
use Rattle.pipeline_lang.specs.declared.config.Config.{Config}
use Rattle.pipeline_lang.specs.Config.{script_of}
use Rattle.rss_model.specs.Tokens.{same_token}
use Rattle.rss_model.specs.declared.history.Entry.{Entry}
use Rattle.rss_model.specs.declared.history.Entry.TheVariants.{Begin, End, Give, Get, Over}
use Rattle.rss_model.specs.declared.history.Token.{Token}
use Rattle.rss_model.specs.declared.history.Token.TheVariants as token
use Rattle.rss_model.specs.History.{entry_at}
use Rattle.rss_model.specs.Stages.{stage_at}
use Rattle.rss_model.specs.Scripts.{giver_of}
use Rattle.rss_model.specs.Walk.{Walk, first_walk}
use Rattle.script_laws.specs.Steps.{silent_step}
use Rattle.script_laws.specs.Entries.{entry_step}
use Rattle.script_laws.specs.Weights.{weigh}
use Rattle.script_laws.specs.Paths.{tells, take_step}
use Rattle.plain_script.specs.declared.told.Told.{Told}

-- as many states as a way from here has at most
abbrev pub left_of : Config → ℕ → Option Walk → ℕ
left_of config stage None = 0
left_of config stage (Some w) = suc (weigh (script_of config stage) w.cursor)

-- the states to which a walk comes without an entry, so many of them at most
unfoldable pub way_within : Config → List Entry → ℕ → ℕ → Option Walk → List Walk
way_within config h stage left None = []
way_within config h stage zero (Some w) = []
way_within config h stage (suc left) (Some w) =
    w ∷ way_within config h stage left (silent_step config h stage w)

-- all of them
unfoldable pub way_from : Config → List Entry → ℕ → Option Walk → List Walk
way_from config h stage o = way_within config h stage (left_of config stage o) o

-- all states to which a walk comes without an entry, itself included
abbrev pub way : Config → List Entry → ℕ → Walk → List Walk
way config h stage w = way_from config h stage (Some w)

-- whether a stage gets what was told
abbrev pub is_got : ℕ → Told → Entry → Bool
is_got stage t (Begin call s op) = false
is_got stage t (End call reply) = false
is_got stage t (Give s given) = false
is_got stage t (Get s got) = (s == stage) && same_token got (token.Chunk t.pipe t.number)
is_got stage t (Over s how) = false

-- where an entry leads a walk by what was told
unfoldable pub taken_by : Config → ℕ → Entry → Walk → Told → List Walk
taken_by config stage e w t =
    if is_got stage t e then option_to_list (take_step config stage w t.pipe t.number t.value) else []

-- where the entry at a place leads a walk
unfoldable pub leads_of : Config → List Entry → ℕ → ℕ → List Told → Walk → List Walk
leads_of config h stage n told w =
    option_to_list (entry_step config h stage (take n h) (entry_at h n) w) ++
    flat_map (taken_by config stage (entry_at h n) w) told

-- the walks that the entry at a place passes by
unfoldable pub passed_of : List Entry → ℕ → ℕ → List Walk → List Walk
passed_of h stage n bases = if stage_at h n == stage then [] else bases

-- the walks behind the entry at a place
unfoldable pub next_states : Config → List Entry → ℕ → ℕ → List Told → List Walk → List Walk
next_states config h stage n told bases =
    passed_of h stage n bases ++
    flat_map (leads_of config h stage n told) (flat_map (way config h stage) bases)

-- the walks of all stages behind it, from this stage on
unfoldable pub next_table : Config → List Entry → ℕ → List Told → ℕ → List (List Walk) → List (List Walk)
next_table config h n told stage [] = []
next_table config h n told stage (bases ∷ rest) =
    next_states config h stage n told bases ∷ next_table config h n told (suc stage) rest

-- the walks of a stage before the first entry
abbrev pub first_states : Config → ℕ → List Walk
first_states config stage = first_walk config stage ∷ []

-- those of all stages, by number; stage 0 is none
unfoldable pub first_table : Config → List (List Walk)
first_table config = map (first_states config) (range_with_len 0 17)

-- whether two values told are the same
abbrev pub same_value : Option ℕ → Option ℕ → Bool
same_value None None = true
same_value None (Some b) = false
same_value (Some a) None = false
same_value (Some a) (Some b) = a == b

-- whether the same was told
abbrev pub same_told : Told → Told → Bool
same_told a b = (a.pipe == b.pipe && a.number == b.number) && same_value a.value b.value

-- whether this is among what was told
abbrev pub is_listed : List Told → Told → Bool
is_listed [] t = false
is_listed (one ∷ told) t = same_told one t || is_listed told t

-- with this, once
unfoldable pub with_one : List Told → Told → List Told
with_one told t = if is_listed told t then told else told ++ t ∷ []

-- with what a walk tells of a number of a pipe
abbrev pub with_telling : List Told → ℕ → ℕ → Option (Option ℕ) → List Told
with_telling told pipe number None = told
with_telling told pipe number (Some value) =
    with_one told (record { pipe = pipe; number = number; value = value })

-- with what these walks of a giver tell
unfoldable pub with_tellings : Config → ℕ → ℕ → ℕ → List Told → List Walk → List Told
with_tellings config giver pipe number told [] = told
with_tellings config giver pipe number told (w ∷ ws) =
    with_tellings config giver pipe number
    (with_telling told pipe number (tells config giver w pipe number)) ws

-- with what is told where a stage gives a token
abbrev pub told_at : Config → List Entry → List (List Walk) → ℕ → List Told → Token → List Told
told_at config h table giver told (token.Spawn stage) = told
told_at config h table giver told (token.Chunk pipe number) =
    if giver == giver_of config pipe
    then with_tellings config giver pipe number told (flat_map (way config h giver) (get_or table giver []))
    else told
told_at config h table giver told (token.Exit stage) = told

-- with what is told at an entry
abbrev pub told_by : Config → List Entry → List (List Walk) → List Told → Entry → List Told
told_by config h table told (Begin call s op) = told
told_by config h table told (End call reply) = told
told_by config h table told (Give s given) = told_at config h table s told given
told_by config h table told (Get s got) = told
told_by config h table told (Over s how) = told

-- all walks at a place, by stage, and what was told above it
pub record Standing : Type 0 where
  pub table : List (List Walk)
  pub told : List Told

-- those behind the entry at the place, and what was told down to it
abbrev pub after_entry : Config → List Entry → ℕ → Standing → Standing
after_entry config h n s = record {
  table = next_table config h n s.told 0 s.table;
  told = told_by config h s.table s.told (entry_at h n);
}

-- all walks at each place, and what was told above it
unfoldable pub standing : Config → List Entry → ℕ → Standing
standing config h zero = record { table = first_table config; told = [] }
standing config h (suc n) = after_entry config h n (standing config h n)

-- the entry gives by one of the stages of a file, if it gives
abbrev pub GivesWithin : Entry → Type 0
GivesWithin (Begin call s op) = ⊤
GivesWithin (End call reply) = ⊤
GivesWithin (Give s given) = s < 17
GivesWithin (Get s got) = ⊤
GivesWithin (Over s how) = ⊤
