-- What the words over stages and pipes alone say of the machine.
use Rattle.std.specs.Prelude.{◌≡◌, ℕ, ◌+◌, ◌≤◌, List, length, Option}
use Rattle.rss_names.specs.declared.service.Key.{Key}
use Rattle.causal_context.specs.Seen.{context_joined}
use Rattle.pipeline_lang.specs.Config.{ends_of}
use Rattle.pipeline_lang.specs.declared.config.Config.{Config}
use Rattle.pipeline_lang.specs.declared.script.Statement.{Statement}
use Rattle.rss_tables.specs.declared.endings.StubEnd.{StubEnd}
use Rattle.rss_machine.specs.Effect.{waits_over}
use Rattle.rss_machine.specs.Enabling.{can_make}
use Rattle.rss_machine.specs.Endings.{all_settled}
use Rattle.rss_machine.specs.Standing.{is_settled, stage_state, exit_context}
use Rattle.rss_machine.specs.State.{State, stage_at}
use Rattle.rss_machine.specs.declared.ending.StageState.{StageState}
use Rattle.world_parts.specs.Parts.{Clock, Staging, Traffic, Stores, assembled, staging_of}
use Rattle.world_stages.specs.Halves.{waited_with}
use Rattle.world_stages.specs.Settled.{AreEnds, parents_of, standing_in, settled_in, all_settled_in, can_make_in}

-- a wait, where what was joined is with the context of the child's exit
abbrev pub WaitsAsTheMachine : Type 0
WaitsAsTheMachine =
    (k : Clock) (g : Staging) (t : Traffic) (d : Stores) (n child : ℕ) (state : StageState) →
    waits_over (assembled k g t d) n child state ≡ assembled k (waited_with g n child (context_joined (stage_at (assembled k g t d) n).context (exit_context (assembled k g t d) child)) state) t d

-- stages stand, are settled and can make statements as the machine says, where no pipe has a taker that the file lacks
pub record StandsAsTheMachine (c : Config) (s : State) (ends : List (Option StubEnd)) : Type 0 where
  pub standing : (n : ℕ) → standing_in s.stages ends n ≡ stage_state s n
  pub settled : (n : ℕ) → n ≤ length c.bodies → settled_in (parents_of c) ends s.stages 16 n ≡ is_settled c s n
  pub all : (n left : ℕ) → n + left ≤ length c.bodies + 1 → all_settled_in (parents_of c) ends s.stages n left ≡ all_settled c s n left
  pub makes : (st : Statement ℕ Key ℕ ℕ) → ((p : ℕ) → (ends_of c p).taker ≤ length c.bodies) → can_make_in c (parents_of c) ends (staging_of s) st ≡ can_make c s st

abbrev pub AllStandAsTheMachine : Type 0
AllStandAsTheMachine = (c : Config) (s : State) (ends : List (Option StubEnd)) → AreEnds s ends → StandsAsTheMachine c s ends
