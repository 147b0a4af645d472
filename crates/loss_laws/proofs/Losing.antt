-- What a lost message of an owner that runs does: one loss more is counted, and then the owner goes on, or
-- that loss ends it.
use Rattle.std.proofs.Common.{◌≡◌, ℕ, ◌-◌, ◌<◌, ◌⊎◌, inl, inr, Bool, true, false, List, length, Option, Some, None, refl, ap, sym, ◌∙◌, subst}
use Rattle.std.specs.Prelude.{nat_lt}
use Rattle.std.proofs.lemmas.Bool.{cond_both}
use Rattle.rss_names.specs.declared.service.Target.{Target}
use Rattle.rss_names.specs.declared.service.Target.TheVariants.{Shard, Replica}
use Rattle.pipeline_lang.specs.Config.{replicas_of}
use Rattle.pipeline_lang.specs.declared.config.Config.{Config}
use Rattle.rss_wire.specs.Messages.{message_at}
use Rattle.rss_wire.specs.declared.envelope.Envelope.{Envelope}
use Rattle.rss_wire.specs.declared.message.Body.{Body as MessageBody}
use Rattle.rss_wire.specs.declared.message.Body.TheVariants as body
use Rattle.rss_tables.specs.Losses.{target_count, losses_of, one_more_lost, reaches_tries, is_quorum_lost}
use Rattle.rss_machine.specs.Effect.{target_lost, is_cut_off, asks_again, replaces, loss_counts}
use Rattle.rss_machine.specs.Moves.{with_owner, counts_loss, cuts_off}
use Rattle.rss_machine.specs.Slots.{slot_in}
use Rattle.rss_machine.specs.State.{State, Owner, stage_at, owner_at}
use Rattle.rss_machine.specs.declared.state.OwnerFate.TheVariants.{CutOff}
use Rattle.world_laws.specs.Calls.{is_stub}
use Rattle.world_laws.proofs.OwnerMoves.{at_own, there_own}
use Rattle.world_laws.specs.Targets.{HasPlace}
use Rattle.loss_laws.proofs.Steady.{Steady, same, after}
use Rattle.loss_laws.proofs.Calls.{s_own, s_sends_one}
use Rattle.loss_laws.proofs.Dies.{CutsOne, EndsStage, LostTo, target_is_lost}
use Rattle.loss_laws.proofs.Cut.{IsCut, Spared, other_loss, spares_one, shard_cut}

-- nobody, and no stage
abbrev pub Nobody : ℕ → Target → Type 0
Nobody o target = ⊥

abbrev pub NoStage : ℕ → Type 0
NoStage i = ⊥

-- what is allowed may be more
pub steady_more : (X X' : ℕ → Target → Type 0) (Y Y' : ℕ → Type 0) (s t : State) → ((o : ℕ) (target : Target) → X o target → X' o target) → ((i : ℕ) → Y i → Y' i) → Steady X Y s t → Steady X' Y' s t
steady_more X X' Y Y' s t f g h = record {
  owners = record { losses = h.owners.losses; cut = λ o target e. cut o target (h.owners.cut o target e) };
  stages = record { over = λ i e. over i (h.stages.over i e) };
}
  where
    cut : (o : ℕ) (target : Target) → ((owner_at s o).fate ≡ CutOff target) ⊎ X o target → ((owner_at s o).fate ≡ CutOff target) ⊎ X' o target
    cut o target (inl e) = inl e
    cut o target (inr x) = inr (f o target x)

    over : {A : Type 0} (i : ℕ) → A ⊎ Y i → A ⊎ Y' i
    over i (inl e) = inl e
    over i (inr y) = inr (g i y)

-- an owner goes on behind a loss
pub record GoesOn (c : Config) (s t u : State) (o : ℕ) (target : Target) : Type 0 where
  pub steady : Steady Nobody NoStage t u
  pub spared : Spared c (owner_at s o).losses target

-- a loss ends its owner
pub record IsLost (c : Config) (s t u : State) (o : ℕ) (target : Target) : Type 0 where
  pub steady : Steady (CutsOne o target) (EndsStage s o) t u
  pub fate : (owner_at u o).fate ≡ CutOff target
  pub cut : IsCut c (one_more_lost (owner_at s o).losses target) target

abbrev pub Losing : Config → State → State → ℕ → Target → Type 0
Losing c s u o target = GoesOn c s (counts_loss s o target) u o target ⊎ IsLost c s (counts_loss s o target) u o target

-- what a stage has under way, where an owner changes
abbrev pub IsOwn : State → ℕ → Type 0
IsOwn s o = is_stub (owner_at s o).kind ≡ false → (stage_at s (owner_at s o).stage).owner ≡ Some o

own_stays : (s : State) (o : ℕ) (w : Owner) → o < length s.owners → w.kind ≡ (owner_at s o).kind → w.stage ≡ (owner_at s o).stage → IsOwn s o → IsOwn (with_owner s o w) o
own_stays s o w l k n own e =
    let q = at_own s o w l in
    ap (λ (m : ℕ). (stage_at s m).owner) (ap (λ (v : Owner). v.stage) q ∙ n) ∙ own (ap is_stub (sym (ap (λ (v : Owner). v.kind) q ∙ k)) ∙ e)

ends_stays : (s : State) (o : ℕ) (w : Owner) → o < length s.owners → w.kind ≡ (owner_at s o).kind → w.stage ≡ (owner_at s o).stage → (i : ℕ) → EndsStage (with_owner s o w) o i → EndsStage s o i
ends_stays s o w l k n i e =
    let q = at_own s o w l in
    (e.0 ∙ ap (λ (m : ℕ). m - 1) (ap (λ (v : Owner). v.stage) q ∙ n), ap is_stub (sym (ap (λ (v : Owner). v.kind) q ∙ k)) ∙ e.1)

s_asks_again : (s : State) (o slot : ℕ) (target : Target) (b : MessageBody) → Steady Nobody NoStage s (asks_again s o slot target b)
s_asks_again s o slot target (body.Request r) = s_sends_one Nobody NoStage s o (record { slot = Some slot; target = target; request = r })
s_asks_again s o slot target (body.Reply r) = same Nobody NoStage s s refl refl

s_replaces : (s : State) (o : ℕ) (target : Target) (exchange : ℕ) (slot : Option ℕ) → Steady Nobody NoStage s (replaces s o target exchange slot)
s_replaces s o target exchange None = same Nobody NoStage s s refl refl
s_replaces s o target exchange (Some slot) = s_asks_again s o slot target (message_at s.net exchange).body

module _ (c : Config) (s : State) (o : ℕ) (l : o < length s.owners) (own : IsOwn s o) (n : length (owner_at s o).losses ≡ target_count) where
  counted_losses : (target : Target) → (owner_at (counts_loss s o target) o).losses ≡ one_more_lost (owner_at s o).losses target
  counted_losses target = ap (λ (v : Owner). v.losses) (at_own s o _ l)

  cut_off : (target : Target) → HasPlace c target → reaches_tries c.tries (owner_at s o).losses target ≡ true → Losing c s (is_cut_off c (counts_loss s o target) o target) o target
  cut_off (Shard shard) p r =
      let t = counts_loss s o (Shard shard) in
      let d = target_is_lost c t o (Shard shard) (there_own s o _ l) (own_stays s o _ l refl refl own) (owner_at t o).kind refl in
      inr (record { steady = steady_more _ _ _ _ t _ (λ i x e. e) (ends_stays s o _ l refl refl) d.steady; fate = d.fate; cut = shard_cut c.tries (owner_at s o).losses shard p n r })
  cut_off (Replica service replica) p r =
      cond_both (is_quorum_lost c.tries (owner_at t o).losses service (replicas_of c service)) _ v (λ (u : State). Losing c s u o (Replica service replica))
      (λ q. inr (record { steady = after (CutsOne o (Replica service replica)) (EndsStage s o) t v _ (s_own _ _ t o _ refl refl) (steady_more _ _ _ _ v _ (λ i x e. e) ends d.steady); fate = d.fate; cut = quorum true q }))
      (λ q. inl (record { steady = s_own Nobody NoStage t o _ refl refl; spared = spares_one service replica (quorum false q) }))
    where
      t : State
      t = counts_loss s o (Replica service replica)

      v : State
      v = cuts_off t o (Replica service replica)

      lt : o < length t.owners
      lt = there_own s o _ l

      d : LostTo v (target_lost c v o (Replica service replica) (owner_at t o).kind) o (Replica service replica)
      d = target_is_lost c v o (Replica service replica) (there_own t o _ lt) (own_stays t o _ lt refl refl (own_stays s o _ l refl refl own)) (owner_at t o).kind (ap (λ (w : Owner). w.kind) (at_own t o _ lt))

      ends : (i : ℕ) → EndsStage v o i → EndsStage s o i
      ends i e = ends_stays s o _ l refl refl i (ends_stays t o _ lt refl refl i e)

      quorum : (b : Bool) → is_quorum_lost c.tries (owner_at t o).losses service (replicas_of c service) ≡ b → is_quorum_lost c.tries (one_more_lost (owner_at s o).losses (Replica service replica)) service (replicas_of c service) ≡ b
      quorum b q = subst (λ (xs : List ℕ). is_quorum_lost c.tries xs service (replicas_of c service) ≡ b) (counted_losses (Replica service replica)) q

  pub losing : (e : Envelope) → HasPlace c e.target → Losing c s (loss_counts c s o e) o e.target
  losing e p =
      let t = counts_loss s o e.target in
      cond_both (reaches_tries c.tries (owner_at s o).losses e.target) _ _ (λ (u : State). Losing c s u o e.target)
      (λ r. cut_off e.target p r)
      (λ f. cond_both (nat_lt (losses_of (owner_at t o).losses e.target) c.tries) _ t (λ (u : State). Losing c s u o e.target)
      (λ r. inl (record { steady = s_replaces t o e.target e.exchange (slot_in (owner_at t o).currents e.exchange); spared = other_loss e.target f }))
      (λ g. inl (record { steady = same Nobody NoStage t t refl refl; spared = other_loss e.target f })))
