-- What is known of every state of a run, on which the laws of rounds stand: messages are sound and proper,
-- stores are of their own calls, the registers that are named are the file's, and currents are awaited.
use Rattle.std.proofs.Common.{◌≡◌, ℕ, List, None, Some}
use Rattle.truetime.specs.Reading.{Reading}
use Rattle.pipeline_lang.specs.declared.config.Config.{Config}
use Rattle.rss_machine.specs.Effect.{stepped}
use Rattle.rss_machine.specs.Moves.{ticks}
use Rattle.rss_machine.specs.Refusal.{refusal}
use Rattle.rss_machine.specs.Run.{run}
use Rattle.rss_machine.specs.State.{State, start}
use Rattle.rss_machine.specs.declared.step.Step.{Step}
use Rattle.world_laws.specs.Registers.{IsRegister, NamesRegisters}
use Rattle.world_laws.proofs.Named.{Named}
use Rattle.world_laws.proofs.NamedRuns.{named_keeps, named_ticks, named_start}
use Rattle.world_laws.proofs.OwnerMoves.{OwnerKeeps}
use Rattle.world_laws.proofs.OwnerWalk.{owner_walk}
use Rattle.world_laws.proofs.Replies.{Sound, sound_start}
use Rattle.world_laws.proofs.RequestsProper.{Fine, fine_keeps, fine_start}
use Rattle.world_laws.proofs.Runs.{passes, run_keeps}
use Rattle.world_laws.proofs.SessionWalk.{session_owner}
use Rattle.world_laws.proofs.Stacked.{OwnerKeepsUnder, stacked, side_by_side, under_more}
use Rattle.world_laws.proofs.StoresOwn.{Owned, owned_keeps, owned_start}
use Rattle.reg_laws.proofs.Awaiting.{Awaiting, AtRest}
use Rattle.reg_laws.proofs.Awaits.{awaited_under, awaited_start}

abbrev pub Messages : Config → State → Type 0
Messages c s = ((Sound s × Named (IsRegister c) s) × Fine s) × Owned s

abbrev pub Known : Config → State → Type 0
Known c s = Messages c s × Awaiting s

abbrev pub KnownAt : Config → State → ℕ → Type 0
KnownAt c s o = Messages c s × AtRest s o

pub sound_of : (c : Config) (s : State) → Known c s → Sound s
sound_of c s h = h.0.0.0.0

pub named_of : (c : Config) (s : State) → Known c s → Named (IsRegister c) s
named_of c s h = h.0.0.0.1

pub fine_of : (c : Config) (s : State) → Known c s → Fine s
fine_of c s h = h.0.0.1

pub owned_of : (c : Config) (s : State) → Known c s → Owned s
owned_of c s h = h.0.1

pub at_rest : (c : Config) (s : State) (o : ℕ) → KnownAt c s o → Known c s
at_rest c s o h = (h.0, h.1.0)

module _ (c : Config) (n : NamesRegisters c) where
  messages_keep : (at : Reading) → OwnerKeeps c at (Messages c) (λ s o. Messages c s)
  messages_keep at =
      stacked c at (λ s. (Sound s × Named (IsRegister c) s) × Fine s) (λ s o. (Sound s × Named (IsRegister c) s) × Fine s) Owned (λ s o. Owned s)
      (stacked c at (λ s. Sound s × Named (IsRegister c) s) (λ s o. Sound s × Named (IsRegister c) s) Fine (λ s o. Fine s) (named_keeps c (IsRegister c) n.statements at)
      (side_by_side c at (λ s. Sound s × Named (IsRegister c) s) (λ s o. Sound s × Named (IsRegister c) s) Fine (λ s o. Fine s) (session_owner c at Fine (fine_keeps c))))
      (side_by_side c at (λ s. (Sound s × Named (IsRegister c) s) × Fine s) (λ s o. (Sound s × Named (IsRegister c) s) × Fine s) Owned (λ s o. Owned s) (session_owner c at Owned (owned_keeps c)))

  pub known_keeps : (at : Reading) → OwnerKeeps c at (Known c) (KnownAt c)
  known_keeps at =
      stacked c at (Messages c) (λ s o. Messages c s) Awaiting AtRest (messages_keep at)
      (under_more c at Sound (Messages c) (λ s o. Sound s) (λ s o. Messages c s) Awaiting AtRest (λ s h. h.0.0.0) (λ s o h. h.0.0.0) (awaited_under c at))

  pub known_start : Known c (start c)
  known_start = ((((sound_start c, named_start c (IsRegister c) n.statements), fine_start c), owned_start c), awaited_start c)

  pub known_ticks : (s : State) (at : Reading) → Known c s → Known c (ticks s at)
  known_ticks s at h =
      let nn = named_ticks c (IsRegister c) n.statements s at h.0.0.0 in
      (((nn, record { sound = nn.0; sessions = h.0.0.1.sessions; messages = h.0.0.1.messages }), record { sound = nn.0; sessions = h.0.1.sessions; messages = h.0.1.messages }), record { each = h.1.each })

  -- what is kept under all this is kept by every run
  module _ (P : State → Type 0) (R : State → ℕ → Type 0) (k : (at : Reading) → OwnerKeepsUnder c at (Known c) (KnownAt c) P R) (ticked : (s : State) (at : Reading) → P s → P (ticks s at)) where
    pub known_step : (s : State) (step : Step) → refusal c s step ≡ None → Known c s × P s → Known c (stepped c s step) × P (stepped c s step)
    known_step s step r h =
        owner_walk c step.at (λ t. Known c t × P t) (λ t o. KnownAt c t o × R t o) (stacked c step.at (Known c) (KnownAt c) P R (known_keeps step.at) (k step.at))
        (ticks s step.at) step.kind (passes c s step r).kind (known_ticks s step.at h.0, ticked s step.at h.1)

    pub known_run : P (start c) → (steps : List Step) (s : State) → run c steps ≡ Some s → Known c s × P s
    known_run h steps s e = run_keeps c (λ t. Known c t × P t) known_step (known_start, h) steps s e
