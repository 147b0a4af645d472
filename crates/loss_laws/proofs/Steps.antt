-- What each kind of step does with losses: it loses nothing, or it is a loss.
use Rattle.std.proofs.Common.{◌≡◌, ℕ, suc, ◌+◌, ◌<◌, ◌≤◌, inl, inr, Bool, true, false, List, length, None, refl, ap, sym, ◌∙◌, subst, arith}
use Rattle.std.specs.Prelude.{◌==◌, ◌&&◌, if◌then◌else◌}
use Rattle.std.proofs.lemmas.Bool.{cond_both}
use Rattle.truetime.specs.Reading.{Reading}
use Rattle.rss_names.specs.declared.service.Target.{Target}
use Rattle.pipeline_lang.specs.declared.config.Config.{Config}
use Rattle.rss_model.specs.declared.history.How.TheVariants.{Killed, Unavailable}
use Rattle.rss_wire.specs.declared.envelope.Envelope.{Envelope}
use Rattle.rss_wire.specs.declared.message.Fate.TheVariants as fate
use Rattle.rss_wire.specs.Messages.{message_at, is_sent, same_target}
use Rattle.rss_tables.specs.Losses.{target_count, target_place, losses_of, one_more_lost}
use Rattle.rss_machine.specs.Effect.{effect, loss_counts}
use Rattle.rss_machine.specs.Moves.{marks_message, counts_loss}
use Rattle.rss_machine.specs.Refusal.{kind_refusal}
use Rattle.rss_machine.specs.Standing.{is_running}
use Rattle.rss_machine.specs.State.{State, Owner, stage_at, owner_at}
use Rattle.rss_machine.specs.Withheld.{is_between, loses_one}
use Rattle.rss_machine.specs.declared.state.OwnerFate.TheVariants.{Dropped, CutOff}
use Rattle.rss_machine.specs.declared.step.StepKind.{StepKind}
use Rattle.rss_machine.specs.declared.step.StepKind.TheVariants.{Act, Go, Lose, Again, Kill, Stub}
use Rattle.world_laws.specs.Calls.{StagesOwn, Onward}
use Rattle.world_laws.proofs.StagesOwned.{running_there}
use Rattle.world_laws.proofs.StoreMoves.{IsSent, by_sent}
use Rattle.world_laws.specs.Targets.{HasPlace}
use Rattle.loss_laws.proofs.Steady.{Steady, same}
use Rattle.loss_laws.proofs.Acts.{s_act, s_delivers, s_stub}
use Rattle.loss_laws.proofs.Cut.{elsewhere, at_place}
use Rattle.loss_laws.proofs.Dies.{s_dies}
use Rattle.loss_laws.proofs.Held.{Held, held_steady, held_losing, Counted, counted}
use Rattle.loss_laws.proofs.Losing.{Nobody, NoStage, Losing, losing}
use Rattle.loss_laws.proofs.Places.{apart, Apart, place_within, equal_is, other_is, IsWithin, IsTarget, AreTargets}

-- a step loses nothing of an owner that runs, or one message of one
pub data Made (c : Config) (s t : State) : StepKind → Type 0 where
  keeps : (x : StepKind) → Steady Nobody NoStage s t → ((o : ℕ) (target : Target) → loses_one s o target x ≡ false) → Made c s t x
  loses : (m : ℕ) → is_running (owner_at s (message_at s.net m).envelope.owner).fate ≡ true → IsTarget c (message_at s.net m).envelope.target → Losing c (marks_message s m fate.Lost) t (message_at s.net m).envelope.owner (message_at s.net m).envelope.target → Made c s t (Lose m)

module _ (c : Config) (s : State) (at : Reading) (own : StagesOwn s) (places : AreTargets c s) (long : (o : ℕ) → length (owner_at s o).losses ≡ target_count) where
  killed_not : Killed ≡ Unavailable → ⊥
  killed_not e = cc

  dropped_not : (target : Target) → Dropped ≡ CutOff target → ⊥
  dropped_not target e = cc

  not_between : (o : ℕ) (target : Target) (e : Envelope) → is_running (owner_at s e.owner).fate ≡ false → is_between s o target e ≡ false
  not_between o target e f = by_owner (e.owner == o) refl
    where
      equal : (a b : ℕ) → (a == b) ≡ true → a ≡ b
      equal a b q = grind (arith, q)

      and_last : (x y : Bool) → y ≡ false → (x && y) ≡ false
      and_last x y q = grind (arith, q)

      by_owner : (b : Bool) → (e.owner == o) ≡ b → is_between s o target e ≡ false
      by_owner true q = and_last ((e.owner == o) && same_target e.target target) (is_running (owner_at s o).fate) (ap (λ (n : ℕ). is_running (owner_at s n).fate) (sym (equal e.owner o q)) ∙ f)
      by_owner false q = ap (λ (b : Bool). (b && same_target e.target target) && is_running (owner_at s o).fate) q

  made_loss : (m : ℕ) → IsSent s m → Made c s (if is_running (owner_at s (message_at s.net m).envelope.owner).fate then loss_counts c (marks_message s m fate.Lost) (message_at s.net m).envelope.owner (message_at s.net m).envelope else marks_message s m fate.Lost) (Lose m)
  made_loss m d =
      let e = (message_at s.net m).envelope in
      let v = marks_message s m fate.Lost in
      cond_both (is_running (owner_at s e.owner).fate) _ v (λ (t : State). Made c s t (Lose m))
      (λ r. loses m r (places m d.numbered d.sent) (losing c v e.owner (running_there s e.owner r) (λ k. own.running e.owner r k) (long e.owner) e (places m d.numbered d.sent).place))
      (λ f. keeps (Lose m) (same Nobody NoStage s v refl refl) (λ o target. not_between o target e f))

  pub made : (x : StepKind) → kind_refusal c s at x ≡ None → Made c s (effect c s at x) x
  unfolding effect
  made (Act n) e = keeps (Act n) (s_act Nobody NoStage c s n at (stage_at s n).owner) (λ o target. refl)
  made (Go m) e = keeps (Go m) (s_delivers Nobody NoStage c s m fate.Delivered at (message_at s.net m).envelope (message_at s.net m).body) (λ o target. refl)
  made (Again m) e = keeps (Again m) (s_delivers Nobody NoStage c s m fate.Repeated at (message_at s.net m).envelope (message_at s.net m).body) (λ o target. refl)
  made (Kill n) e = keeps (Kill n) (s_dies Nobody NoStage s n Killed Dropped (λ o target f g. dropped_not target g) (λ f. killed_not f)) (λ o target. refl)
  made (Stub n) e = keeps (Stub n) (s_stub Nobody NoStage c s (stage_at s n).stub at) (λ o target. refl)
  made (Lose m) e = made_loss m (by_sent s m (is_sent s.net m) refl _ e)

-- what was held stays held
pub held_made : (c : Config) (s t : State) (x : StepKind) → 1 ≤ c.tries → Onward s t → Made c s t x → Held c s.owners s.stages → Held c t.owners t.stages
held_made c s t _ l d (keeps x a f) h = held_steady c s t l d h a
held_made c s t _ l d (loses m r p a) h = held_losing c (marks_message s m fate.Lost) t l (record { long = d.long; each = d.each }) h (message_at s.net m).envelope.owner (message_at s.net m).envelope.target r (running_there s (message_at s.net m).envelope.owner r) p.place a

-- and the count of a target is one more where the step lost such a message
abbrev pub counts : Bool → ℕ → ℕ
counts b n = if b then suc n else n

losing_losses : (c : Config) (s u : State) (o : ℕ) (target : Target) → Losing c s u o target → (i : ℕ) → (owner_at u i).losses ≡ (owner_at (counts_loss s o target) i).losses
losing_losses c s u o target (inl g) i = g.steady.owners.losses i
losing_losses c s u o target (inr g) i = g.steady.owners.losses i

pub counts_made : (c : Config) (s t : State) (x : StepKind) (o : ℕ) (target : Target) → HasPlace c target → ((i : ℕ) → length (owner_at s i).losses ≡ target_count) → Made c s t x → losses_of (owner_at t o).losses target ≡ counts (loses_one s o target x) (losses_of (owner_at s o).losses target)
counts_made c s t _ o target q long (keeps x a f) = ap (λ (xs : List ℕ). losses_of xs target) (a.owners.losses o) ∙ ap (λ (b : Bool). counts b (losses_of (owner_at s o).losses target)) (sym (f o target))
counts_made c s t _ o target q long (loses m r p a) = ap (λ (xs : List ℕ). losses_of xs target) (losing_losses c v t e.owner e.target a o) ∙ by_counted (counted_of o)
  where
    e : Envelope
    e = (message_at s.net m).envelope

    v : State
    v = marks_message s m fate.Lost

    all_true : (x y z : Bool) → x ≡ true → y ≡ true → z ≡ true → ((x && y) && z) ≡ true
    all_true x y z i j k = grind (arith, i, j, k)

    first_false : (x y z : Bool) → x ≡ false → ((x && y) && z) ≡ false
    first_false x y z i = grind (arith, i)

    second_false : (x y z : Bool) → y ≡ false → ((x && y) && z) ≡ false
    second_false x y z i = grind (arith, i)

    counted_of : (i : ℕ) → Counted v e.owner e.target i
    counted_of i = counted v e.owner e.target (running_there s e.owner r) i

    add_one : (n : ℕ) → n + 1 ≡ suc n
    add_one n = omega arith

    same_place : o ≡ e.owner → e.target ≡ target → losses_of (one_more_lost (owner_at s o).losses e.target) target ≡ suc (losses_of (owner_at s o).losses target)
    same_place i j =
        subst (λ (x : Target). losses_of (one_more_lost (owner_at s o).losses x) target ≡ suc (losses_of (owner_at s o).losses target)) (sym j)
        (at_place (owner_at s o).losses (target_place target) _ (subst (λ (n : ℕ). target_place target < n) (sym (long o)) (place_within c target q)) ∙ add_one (losses_of (owner_at s o).losses target))

    by_target : o ≡ e.owner → Apart e.target target → losses_of (one_more_lost (owner_at s o).losses e.target) target ≡ counts (is_between s o target e) (losses_of (owner_at s o).losses target)
    by_target i (inl j) =
        same_place i j.1 ∙ ap (λ (b : Bool). counts b (losses_of (owner_at s o).losses target)) (sym (all_true (e.owner == o) (same_target e.target target) (is_running (owner_at s o).fate) (equal_is e.owner o (sym i)) j.0 (ap (λ (n : ℕ). is_running (owner_at s n).fate) i ∙ r)))
    by_target i (inr j) =
        elsewhere (owner_at s o).losses (target_place e.target) (target_place target) _ j.1 ∙ ap (λ (b : Bool). counts b (losses_of (owner_at s o).losses target)) (sym (second_false (e.owner == o) (same_target e.target target) (is_running (owner_at s o).fate) j.0))

    by_counted : Counted v e.owner e.target o → losses_of (owner_at (counts_loss v e.owner e.target) o).losses target ≡ counts (is_between s o target e) (losses_of (owner_at s o).losses target)
    by_counted (inl i) = ap (λ (w : Owner). losses_of w.losses target) i.1 ∙ (ap (λ (n : ℕ). losses_of (one_more_lost (owner_at s n).losses e.target) target) (sym i.0) ∙ by_target i.0 (apart c e.target target p.place q))
    by_counted (inr i) = ap (λ (w : Owner). losses_of w.losses target) i.1 ∙ ap (λ (b : Bool). counts b (losses_of (owner_at s o).losses target)) (sym (first_false (e.owner == o) (same_target e.target target) (is_running (owner_at s o).fate) (other_is e.owner o (λ j. i.0 (sym j)))))

-- a target that no message goes to loses nothing
pub never_lost : (c : Config) (s t : State) (x : StepKind) (o : ℕ) (target : Target) → HasPlace c target → (IsWithin c target → ⊥) → Made c s t x → loses_one s o target x ≡ false
never_lost c s t _ o target q d (keeps x a f) = f o target
never_lost c s t _ o target q d (loses m r p a) = by_target (apart c e.target target p.place q)
  where
    e : Envelope
    e = (message_at s.net m).envelope

    second_false : (x y z : Bool) → y ≡ false → ((x && y) && z) ≡ false
    second_false x y z i = grind (arith, i)

    by_target : Apart e.target target → is_between s o target e ≡ false
    by_target (inl j) = absurd (d (subst (IsWithin c) j.1 p.within))
    by_target (inr j) = second_false (e.owner == o) (same_target e.target target) (is_running (owner_at s o).fate) j.0
