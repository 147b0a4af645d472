-- What must be so before a step, and what is made ready for it.
use Rattle.std.specs.Prelude.{◌≡◌, ℕ, ◌+◌, ◌<◌, ◌≤◌, ◌^◌, length, Option, Some, None}
use Rattle.rss_names.specs.declared.service.Key.{Key}
use Rattle.causal_context.specs.Seen.{Seen, context_joined}
use Rattle.pipeline_lang.specs.declared.config.Config.{Config}
use Rattle.pipeline_lang.specs.declared.script.Statement.{Statement}
use Rattle.pipeline_lang.specs.declared.script.Statement.TheVariants as statement
use Rattle.pipeline_stage.specs.CopiesView.{AreCopies}
use Rattle.pipeline_stage.specs.Marks.{lying}
use Rattle.world_parts.specs.Parts.{Staging, stage_in, pipe_in}
use Rattle.world_stages.specs.View.{StagingView}

-- pipes behind this number can be given one number more
pub record HasNumbers (g : Staging) (i : ℕ) : Type 0 where
  pub next : (p : ℕ) → i < p → (pipe_in g p).next + 1 < 2 ^ 32

-- there is room for this many entries, and there are this many copies of what was seen
pub record IsReady (v : StagingView) (entries : ℕ) (what : Seen) (many : ℕ) : Type 0 where
  pub room : entries ≤ v.room
  pub spare : AreCopies v.spare what many

-- what a stage has seen, joined with what lies with what it takes, if a context does
abbrev pub joined_if : Seen → Option Seen → Seen
joined_if seen None = seen
joined_if seen (Some other) = context_joined seen other

-- what a stage has seen behind a take
abbrev pub seen_behind_take : Staging → ℕ → ℕ → Seen
seen_behind_take g n p = joined_if (stage_in g n).context (lying (pipe_in g p).chunks (pipe_in g p).mark)

-- how many entries a statement adds at most
abbrev pub entries_for : Config → Statement ℕ Key ℕ ℕ → ℕ
entries_for c (statement.Spawn child) = 2
entries_for c (statement.Wait child) = 1
entries_for c (statement.Put p value) = 1
entries_for c (statement.Take variable p) = 1
entries_for c (statement.Close p) = 1
entries_for c statement.Exit = length c.pipe_ends + 2
entries_for c (statement.Read variable key) = 1
entries_for c (statement.Write key value) = 1
entries_for c (statement.Snap pairs) = 1
entries_for c (statement.Txn pairs guard writes) = 1
entries_for c statement.Fence = 0
entries_for c (statement.Let variable value) = 0
entries_for c (statement.Repeat times) = 0
entries_for c (statement.When test) = 0
entries_for c statement.End = 0

-- how many copies of a context it needs at most
abbrev pub copies_for : Config → Statement ℕ Key ℕ ℕ → ℕ
copies_for c (statement.Spawn child) = 1
copies_for c (statement.Wait child) = 1
copies_for c (statement.Put p value) = 1
copies_for c (statement.Take variable p) = 1
copies_for c (statement.Close p) = 1
copies_for c statement.Exit = length c.pipe_ends + 1
copies_for c (statement.Read variable key) = 1
copies_for c (statement.Write key value) = 1
copies_for c (statement.Snap pairs) = 1
copies_for c (statement.Txn pairs guard writes) = 1
copies_for c statement.Fence = 1
copies_for c (statement.Let variable value) = 0
copies_for c (statement.Repeat times) = 0
copies_for c (statement.When test) = 0
copies_for c statement.End = 0

-- which context that is, where this one lies with the exit of a child that is waited for
abbrev pub context_for : Staging → ℕ → Seen → Statement ℕ Key ℕ ℕ → Seen
context_for g n exit (statement.Wait child) = context_joined (stage_in g n).context exit
context_for g n exit (statement.Take variable p) = seen_behind_take g n p
context_for g n exit (statement.Spawn child) = (stage_in g n).context
context_for g n exit (statement.Put p value) = (stage_in g n).context
context_for g n exit (statement.Close p) = (stage_in g n).context
context_for g n exit statement.Exit = (stage_in g n).context
context_for g n exit (statement.Read variable key) = (stage_in g n).context
context_for g n exit (statement.Write key value) = (stage_in g n).context
context_for g n exit (statement.Snap pairs) = (stage_in g n).context
context_for g n exit (statement.Txn pairs guard writes) = (stage_in g n).context
context_for g n exit statement.Fence = (stage_in g n).context
context_for g n exit (statement.Let variable value) = (stage_in g n).context
context_for g n exit (statement.Repeat times) = (stage_in g n).context
context_for g n exit (statement.When test) = (stage_in g n).context
context_for g n exit statement.End = (stage_in g n).context

-- what a stage's statement needs is ready
abbrev pub IsReadyFor : Config → StagingView → ℕ → Seen → Statement ℕ Key ℕ ℕ → Type 0
IsReadyFor c v n exit st = IsReady v (entries_for c st) (context_for v.staging n exit st) (copies_for c st)

-- nothing but room was made
pub record IsGrown (old new : StagingView) : Type 0 where
  pub staging : new.staging ≡ old.staging
  pub spare : new.spare ≡ old.spare
  pub room : old.room ≤ new.room
