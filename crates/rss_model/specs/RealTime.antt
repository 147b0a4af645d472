-- The order of real time.
use Rattle.std.specs.Prelude.{ℕ, ◌<◌, List}
use Rattle.rss_model.specs.declared.history.Entry.{Entry}
use Rattle.rss_model.specs.History.{BeginsAt, EndsAt}

-- a is before b in real time: the End of a stands in the history before the Begin of b
abbrev pub BeforeInRealTime : List Entry → ℕ → ℕ → Type 0
BeforeInRealTime h a b = (i : ℕ) × (j : ℕ) × EndsAt h a i × BeginsAt h b j × (i < j)
