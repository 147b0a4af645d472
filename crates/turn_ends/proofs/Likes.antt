-- A loss leaves of each owner its stage, what it is, and what it would leave unsettled.
use Rattle.std.proofs.Common.{◌≡◌, ℕ, zero, suc, List, [], ◌∷◌, length, get_or, set, Option, Some, None, refl, ap, ◌∙◌, if◌then◌else◌}
use Rattle.std.specs.Prelude.{nat_lt}
use Rattle.std.proofs.lemmas.Bool.{cond_both}
use Rattle.pipeline_lang.specs.declared.config.Config.{Config}
use Rattle.rss_names.specs.declared.service.Target.{Target}
use Rattle.rss_names.specs.declared.service.Target.TheVariants.{Shard, Replica}
use Rattle.rss_wire.specs.declared.envelope.Envelope.{Envelope}
use Rattle.rss_wire.specs.declared.message.Body.{Body}
use Rattle.rss_wire.specs.declared.message.Body.TheVariants as body
use Rattle.rss_wire.specs.Messages.{message_at}
use Rattle.rss_tables.specs.Losses.{losses_of, reaches_tries}
use Rattle.rss_machine.specs.Effect.{replaces, asks_again}
use Rattle.rss_machine.specs.Moves.{counts_loss, session_without}
use Rattle.rss_machine.specs.Session.{Session, left_unsettled}
use Rattle.rss_machine.specs.Slots.{slot_in}
use Rattle.rss_machine.specs.Standing.{is_running}
use Rattle.rss_machine.specs.State.{State, Owner, owner_at, no_owner}
use Rattle.rss_machine.specs.declared.session.Session.TheVariants as session
use Rattle.turn_laws.specs.Losses.{cut_at, counts_one, counts_lost}
use Rattle.turn_ends.specs.Alike.{LikeOwners}

length_set : {X : Type 0} (xs : List X) (i : ℕ) (x : X) → length (set xs i x) ≡ length xs
length_set [] i x = refl
length_set (a ∷ xs) zero x = refl
length_set (a ∷ xs) (suc i) x = ap suc (length_set xs i x)

looks_same : {Y : Type 0} (view : Owner → Y) (owners : List Owner) (o : ℕ) (w : Owner) → view w ≡ view (get_or owners o no_owner) → (i : ℕ) → view (get_or (set owners o w) i no_owner) ≡ view (get_or owners i no_owner)
looks_same view [] o w e i = refl
looks_same view (a ∷ owners) zero w e zero = e
looks_same view (a ∷ owners) zero w e (suc i) = refl
looks_same view (a ∷ owners) (suc o) w e zero = refl
looks_same view (a ∷ owners) (suc o) w e (suc i) = looks_same view owners o w e i

same_like : (owners : List Owner) → LikeOwners owners owners
same_like owners = record { many = refl; stage = λ o. refl; kind = λ o. refl; unsettled = λ o. refl }

set_like : (owners : List Owner) (o : ℕ) (w : Owner) → w.stage ≡ (get_or owners o no_owner).stage → w.kind ≡ (get_or owners o no_owner).kind → left_unsettled w.session ≡ left_unsettled (get_or owners o no_owner).session → LikeOwners owners (set owners o w)
set_like owners o w a b c = record {
  many = length_set owners o w;
  stage = looks_same (λ (x : Owner). x.stage) owners o w a;
  kind = looks_same (λ (x : Owner). x.kind) owners o w b;
  unsettled = looks_same (λ (x : Owner). left_unsettled x.session) owners o w c;
}

like_twice : (a b c : List Owner) → LikeOwners a b → LikeOwners b c → LikeOwners a c
like_twice a b c p q = record {
  many = q.many ∙ p.many;
  stage = λ o. q.stage o ∙ p.stage o;
  kind = λ o. q.kind o ∙ p.kind o;
  unsettled = λ o. q.unsettled o ∙ p.unsettled o;
}

unsettled_without : (x : Session) (target : Target) → left_unsettled (session_without x target) ≡ left_unsettled x
unsettled_without (session.Fixing r) (Replica service replica) = refl
unsettled_without (session.Register r) (Replica service replica) = refl
unsettled_without (session.Fixing r) (Shard shard) = refl
unsettled_without (session.Register r) (Shard shard) = refl
unsettled_without session.Idle target = refl
unsettled_without (session.Transaction t) target = refl
unsettled_without (session.Snapshot t) target = refl
unsettled_without (session.Settling attempt shards) target = refl

cut_like : (s : State) (o : ℕ) (target : Target) → LikeOwners s.owners (cut_at s o target).owners
cut_like s o (Shard shard) = same_like s.owners
cut_like s o (Replica service replica) = set_like s.owners o _ refl refl (unsettled_without (owner_at s o).session (Replica service replica))

again_like : (s : State) (o slot : ℕ) (target : Target) (b : Body) → LikeOwners s.owners (asks_again s o slot target b).owners
again_like s o slot target (body.Request r) = set_like s.owners o _ refl refl refl
again_like s o slot target (body.Reply r) = same_like s.owners

replaces_like : (s : State) (o : ℕ) (target : Target) (exchange : ℕ) (slot : Option ℕ) → LikeOwners s.owners (replaces s o target exchange slot).owners
replaces_like s o target exchange None = same_like s.owners
replaces_like s o target exchange (Some slot) = again_like s o slot target (message_at s.net exchange).body

one_like : (c : Config) (s : State) (o : ℕ) (e : Envelope) → LikeOwners s.owners (counts_one c s o e).owners
one_like c s o e =
    let t : State = counts_loss s o e.target in
    let counted : LikeOwners s.owners t.owners = set_like s.owners o _ refl refl refl in
    let again : State = replaces t o e.target e.exchange (slot_in (owner_at t o).currents e.exchange) in
    cond_both (reaches_tries c.tries (owner_at s o).losses e.target) (cut_at t o e.target) (if nat_lt (losses_of (owner_at t o).losses e.target) c.tries then again else t) (λ (u : State). LikeOwners s.owners u.owners)
    (λ q. like_twice s.owners t.owners (cut_at t o e.target).owners counted (cut_like t o e.target))
    (λ q. cond_both (nat_lt (losses_of (owner_at t o).losses e.target) c.tries) again t (λ (u : State). LikeOwners s.owners u.owners)
    (λ k. like_twice s.owners t.owners again.owners counted (replaces_like t o e.target e.exchange (slot_in (owner_at t o).currents e.exchange)))
    (λ k. counted))

pub lost_like : (c : Config) (s : State) (e : Envelope) → LikeOwners s.owners (counts_lost c s e).owners
lost_like c s e = cond_both (is_running (owner_at s e.owner).fate) (counts_one c s e.owner e) s (λ (u : State). LikeOwners s.owners u.owners) (λ q. one_like c s e.owner e) (λ q. same_like s.owners)
