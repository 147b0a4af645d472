-- A loss is a move of owners and the net with its end.
use Rattle.std.proofs.Common.{◌≡◌, ℕ, ◌<◌, Bool, true, false, List, [], ◌∷◌, zero, suc, length, get_or, set, Option, Some, None, refl, sym, ap, ◌∙◌, arith}
use Rattle.std.specs.Prelude.{nat_lt, if◌then◌else◌}
use Rattle.pipeline_lang.specs.declared.config.Config.{Config}
use Rattle.pipeline_lang.specs.Config.{replicas_of}
use Rattle.rss_names.specs.declared.service.Target.{Target}
use Rattle.rss_names.specs.declared.service.Target.TheVariants.{Shard, Replica}
use Rattle.rss_wire.specs.declared.envelope.Envelope.{Envelope}
use Rattle.rss_wire.specs.declared.message.Body.{Body as MessageBody}
use Rattle.rss_wire.specs.declared.message.Body.TheVariants as body
use Rattle.rss_wire.specs.Messages.{message_at}
use Rattle.rss_tables.specs.Losses.{losses_of, reaches_tries, is_quorum_lost}
use Rattle.rss_machine.specs.Effect.{loses, loss_counts, is_cut_off, target_lost, replaces, asks_again}
use Rattle.rss_machine.specs.Moves.{counts_loss, cuts_off}
use Rattle.rss_machine.specs.Slots.{slot_in}
use Rattle.rss_machine.specs.Standing.{is_running}
use Rattle.rss_machine.specs.State.{State, Owner, owner_at, no_owner}
use Rattle.rss_machine.specs.declared.session.OwnerKind.{OwnerKind}
use Rattle.world_parts.specs.Parts.{Clock, Staging, Traffic, Stores, assembled, in_traffic, owner_in}
use Rattle.turn_laws.specs.Losses.{cut_at, lost_with, counts_one, one_lost, counts_lost, target_of_loss, ends_loss, LosingIsAMove, LossesMoveTraffic}

-- an owner that is put keeps its kind, also where none stands there
kind_stays : (xs : List Owner) (o : ℕ) (w : Owner) → w.kind ≡ (get_or xs o no_owner).kind → (get_or (set xs o w) o no_owner).kind ≡ (get_or xs o no_owner).kind
kind_stays [] o w e = refl
kind_stays (x ∷ xs) zero w e = e
kind_stays (x ∷ xs) (suc o) w e = kind_stays xs o w e

cut_kind : (s : State) (o : ℕ) (target : Target) → (owner_at (cuts_off s o target) o).kind ≡ (owner_at s o).kind
cut_kind s o target = kind_stays s.owners o _ refl

-- a target is cut off
cut_so : (c : Config) (s : State) (o : ℕ) (target : Target) → is_cut_off c s o target ≡ ends_loss c (cut_at s o target) o (lost_with c (owner_at s o) target)
cut_so c s o (Shard shard) = refl
cut_so c s o (Replica service replica) = spared (is_quorum_lost c.tries (owner_at s o).losses service (replicas_of c service))
  where
    spared : (b : Bool) → (if b then target_lost c (cuts_off s o (Replica service replica)) o (Replica service replica) (owner_at s o).kind else cuts_off s o (Replica service replica)) ≡ ends_loss c (cuts_off s o (Replica service replica)) o (if b then Some (Replica service replica) else None)
    spared true = ap (λ (k : OwnerKind). target_lost c (cuts_off s o (Replica service replica)) o (Replica service replica) k) (sym (cut_kind s o (Replica service replica)))
    spared false = refl

counts_so : (c : Config) (s : State) (o : ℕ) (e : Envelope) → loss_counts c s o e ≡ ends_loss c (counts_one c s o e) o (one_lost c s o e)
counts_so c s o e = reached (reaches_tries c.tries (owner_at s o).losses e.target)
  where
    again : State
    again = if nat_lt (losses_of (owner_at (counts_loss s o e.target) o).losses e.target) c.tries then replaces (counts_loss s o e.target) o e.target e.exchange (slot_in (owner_at (counts_loss s o e.target) o).currents e.exchange) else counts_loss s o e.target

    reached : (b : Bool) → (if b then is_cut_off c (counts_loss s o e.target) o e.target else again) ≡ ends_loss c (if b then cut_at (counts_loss s o e.target) o e.target else again) o (if b then lost_with c (owner_at (counts_loss s o e.target) o) e.target else None)
    reached true = cut_so c (counts_loss s o e.target) o e.target
    reached false = refl

pub losing_is_a_move : LosingIsAMove
losing_is_a_move c s e = runs (is_running (owner_at s e.owner).fate)
  where
    runs : (b : Bool) → (if b then loss_counts c s e.owner e else s) ≡ ends_loss c (if b then counts_one c s e.owner e else s) e.owner (if b then one_lost c s e.owner e else None)
    runs true = counts_so c s e.owner e
    runs false = refl

-- FRAMES

cut_moves : (step : ℕ) (k : Clock) (g : Staging) (t : Traffic) (d : Stores) (o : ℕ) (target : Target) → cut_at (assembled k g t d) o target ≡ assembled k g (in_traffic step (λ (s : State). cut_at s o target) t) d
cut_moves step k g t d o (Shard shard) = refl
cut_moves step k g t d o (Replica service replica) = refl

again_moves : (step : ℕ) (k : Clock) (g : Staging) (t : Traffic) (d : Stores) (o slot : ℕ) (target : Target) (b : MessageBody) → asks_again (assembled k g t d) o slot target b ≡ assembled k g (in_traffic step (λ (s : State). asks_again s o slot target b) t) d
again_moves step k g t d o slot target (body.Request r) = refl
again_moves step k g t d o slot target (body.Reply r) = refl

replaces_moves : (step : ℕ) (k : Clock) (g : Staging) (t : Traffic) (d : Stores) (o : ℕ) (target : Target) (exchange : ℕ) (slot : Option ℕ) → replaces (assembled k g t d) o target exchange slot ≡ assembled k g (in_traffic step (λ (s : State). replaces s o target exchange slot) t) d
replaces_moves step k g t d o target exchange None = refl
replaces_moves step k g t d o target exchange (Some slot) = again_moves step k g t d o slot target (message_at t.net exchange).body

-- a choice between two moves
chosen : (b : Bool) (step : ℕ) (k : Clock) (g : Staging) (t : Traffic) (d : Stores) (f h : State → State) → f (assembled k g t d) ≡ assembled k g (in_traffic step f t) d → h (assembled k g t d) ≡ assembled k g (in_traffic step h t) d → (if b then f (assembled k g t d) else h (assembled k g t d)) ≡ assembled k g (in_traffic step (λ (s : State). if b then f s else h s) t) d
chosen true step k g t d f h x y = x
chosen false step k g t d f h x y = y

one_moves : (c : Config) (e : Envelope) (o : ℕ) (step : ℕ) (k : Clock) (g : Staging) (t : Traffic) (d : Stores) → counts_one c (assembled k g t d) o e ≡ assembled k g (in_traffic step (λ (s : State). counts_one c s o e) t) d
one_moves c e o step k g t d =
    let u : Traffic = in_traffic step (λ (s : State). counts_loss s o e.target) t in
    chosen (reaches_tries c.tries (owner_in t o).losses e.target) step k g u d (λ (s : State). cut_at s o e.target)
    (λ (s : State). if nat_lt (losses_of (owner_in u o).losses e.target) c.tries then replaces s o e.target e.exchange (slot_in (owner_in u o).currents e.exchange) else s)
    (cut_moves step k g u d o e.target)
    (chosen (nat_lt (losses_of (owner_in u o).losses e.target) c.tries) step k g u d (λ (s : State). replaces s o e.target e.exchange (slot_in (owner_in u o).currents e.exchange)) (λ (s : State). s)
    (replaces_moves step k g u d o e.target e.exchange (slot_in (owner_in u o).currents e.exchange)) refl)

pub losses_move : LossesMoveTraffic
losses_move c e step k g t d = chosen (is_running (owner_in t e.owner).fate) step k g t d (λ (s : State). counts_one c s e.owner e) (λ (s : State). s) (one_moves c e e.owner step k g t d) refl
