-- What moves over stages and owners make of stages, pipes and the history, and a token that is got with
-- what was joined before.
use Rattle.std.specs.Prelude.{ℕ, ◌-◌, List, [], ◌∷◌, ◌++◌, set, Option, Some, None}
use Rattle.causal_context.specs.Seen.{Seen}
use Rattle.rss_model.specs.Cursor.{Cursor}
use Rattle.rss_model.specs.declared.history.Entry.TheVariants.{Begin, End, Get, Over}
use Rattle.rss_model.specs.declared.history.How.{How}
use Rattle.rss_model.specs.declared.history.Token.{Token}
use Rattle.rss_model.specs.declared.history.Token.TheVariants as token
use Rattle.rss_model.specs.declared.op.Op.{Op}
use Rattle.rss_model.specs.declared.op.Shown.{Shown}
use Rattle.rss_tables.specs.declared.endings.StubEnd.TheVariants.{Fenced, Unfenced}
use Rattle.rss_machine.specs.Effect.{with_status}
use Rattle.rss_machine.specs.State.{Stage}
use Rattle.rss_machine.specs.declared.ending.StageState.{StageState}
use Rattle.rss_machine.specs.declared.ending.StageState.TheVariants as standing
use Rattle.rss_machine.specs.declared.state.Life.TheVariants as life
use Rattle.world_parts.specs.Parts.{Staging, stage_in}

-- a stage in the place of what it was
abbrev pub staged : Staging → ℕ → Stage → Staging
staged g n stage = record g { stages = set g.stages (n - 1) stage }

-- a stage begins a call, as this owner
abbrev pub begun : Staging → ℕ → ℕ → Op → Staging
begun g n o op = record g {
  stages = set g.stages (n - 1) (record (stage_in g n) { owner = Some o });
  history = g.history ++ Begin o n op ∷ [];
}

-- a stage begins a fence statement, as this owner
abbrev pub fence_begun : Staging → ℕ → ℕ → Staging
fence_begun g n o = staged g n (record (stage_in g n) { owner = Some o })

-- the call of a stage, this owner, ends with a reply
abbrev pub ended : Staging → ℕ → ℕ → List Shown → Cursor → Seen → Staging
ended g n o shown cursor seen = record g {
  stages = set g.stages (n - 1) (record (stage_in g n) { cursor = cursor; context = seen; owner = None });
  history = g.history ++ End o shown ∷ [];
}

-- the fence statement of a stage ends
abbrev pub fence_ended : Staging → ℕ → Cursor → Seen → Staging
fence_ended g n cursor seen = staged g n (record (stage_in g n) { cursor = cursor; context = seen; owner = None })

-- a stage dies, and this owner is its stub
abbrev pub died : Staging → ℕ → How → ℕ → Staging
died g n how stub = record g {
  stages = set g.stages (n - 1) (record (stage_in g n) { life = life.Over how; owner = None; stub = Some stub });
  history = g.history ++ Over n how ∷ [];
}

-- a stage gets a token, and has this context from then on
abbrev pub got_with : Staging → ℕ → Token → Seen → Cursor → Staging
got_with g n t seen cursor = record g {
  stages = set g.stages (n - 1) (record (stage_in g n) { cursor = cursor; context = seen });
  history = g.history ++ Get n t ∷ [];
}

-- a stage waits for a child that stands so, and where it gets the child's exit has this context from then on
abbrev pub waited_with : Staging → ℕ → ℕ → Seen → StageState → Staging
waited_with g n child seen standing.Exited = got_with g n (token.Exit child) seen (with_status (stage_in g n).cursor 0)
waited_with g n child seen (standing.Ended how (Some Fenced)) = got_with g n (token.Exit child) seen (with_status (stage_in g n).cursor 1)
waited_with g n child seen (standing.Ended how (Some (Unfenced target))) = staged g n (record (stage_in g n) { cursor = with_status (stage_in g n).cursor 2 })
waited_with g n child seen (standing.Ended how None) = g
waited_with g n child seen standing.Unborn = g
waited_with g n child seen standing.Live = g
