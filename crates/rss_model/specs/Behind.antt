-- The calls that a place of a history, a stage and a message can know of.
use Rattle.std.specs.Prelude.{◌≡◌, ℕ, ◌<◌, List, length}
use Rattle.rss_model.specs.declared.history.Entry.{Entry}
use Rattle.rss_model.specs.declared.history.Entry.TheVariants.{Give}
use Rattle.rss_model.specs.declared.history.Token.{Token}
use Rattle.rss_model.specs.History.{entry_at, EndsAt}
use Rattle.rss_model.specs.Stages.{stage_at}
use Rattle.rss_model.specs.Causality.{Path}

-- a call is behind a place: a path leads there from its End
abbrev pub BehindPlace : List Entry → ℕ → ℕ → Type 0
BehindPlace h call j = (i : ℕ) × EndsAt h call i × Path h i j

-- a call is behind a stage: behind one of its entries
abbrev pub BehindStage : List Entry → ℕ → ℕ → Type 0
BehindStage h call stage =
    (j : ℕ) × (j < length h) × (stage_at h j ≡ stage) × BehindPlace h call j

-- a call is behind a message: behind its Give
abbrev pub BehindToken : List Entry → ℕ → Token → Type 0
BehindToken h call token =
    (j : ℕ) × (giver : ℕ) × (j < length h) ×
    (entry_at h j ≡ Give giver token) × BehindPlace h call j
