-- What never changes back, from one state of a run to every later one.
use Rattle.std.proofs.Common.{◌≡◌, ℕ, ◌-◌, ◌≤◌, true, List, [], ◌∷◌, ◌++◌, get_or, Some, None, refl, subst, arith}
use Rattle.std.proofs.Math.ListN.{set}
use Rattle.std.proofs.lemmas.Bool.Decides.{nat_tests}
use Rattle.rss_names.specs.declared.attempt.Attempt.{Attempt}
use Rattle.rss_names.specs.declared.service.Key.{Key}
use Rattle.carstamps.specs.declared.carstamp.Carstamp.{Carstamp}
use Rattle.carstamps.specs.Stamp.{stamp_le, stamp_lt}
use Rattle.causal_context.specs.declared.dep.Dep.{Dep}
use Rattle.pipeline_lang.specs.declared.config.Config.{Config}
use Rattle.rss_wire.specs.declared.messages.Outcome.{Outcome}
use Rattle.rss_wire.specs.declared.messages.RegReply.{RegReply}
use Rattle.rss_wire.specs.declared.messages.Request.{Request}
use Rattle.rss_wire.specs.declared.messages.Request.TheVariants as request
use Rattle.rss_tables.specs.ReplicaRow.{held_at, accept, accept_all, dep_cell, replica_after}
use Rattle.rss_tables.specs.ShardRow.{decision_in}
use Rattle.rss_tables.proofs.ShardLaws.{first-decision, floor-rises}
use Rattle.rss_machine.specs.State.{State, shard_at, cells_at, service_index}
use Rattle.rss_machine.specs.Moves.{ticks, serves_shard, serves_replica}
use Rattle.rss_machine.specs.Effect.{stepped}
use Rattle.rss_machine.specs.Refusal.{refusal}
use Rattle.rss_machine.specs.Run.{run, run_from}
use Rattle.rss_machine.specs.declared.step.Step.{Step}
use Rattle.world_laws.specs.Later.{stamp_in, Later}
use Rattle.world_laws.proofs.Looks.{looks}
use Rattle.world_laws.proofs.Runs.{passes, run_rest, run_none, run_split}
use Rattle.world_laws.proofs.StoreMoves.{StoreKeeps}
use Rattle.world_laws.proofs.StoreWalk.{store_walk}

pub le_same : (a : Carstamp) → stamp_le a a ≡ true
le_same a = grind (arith, nat_tests)

pub le_trans : (a b c : Carstamp) → stamp_le a b ≡ true → stamp_le b c ≡ true → stamp_le a c ≡ true
le_trans a b c e f = grind (arith, nat_tests)

pub lt_le : (a b : Carstamp) → stamp_lt a b ≡ true → stamp_le a b ≡ true
lt_le a b e = grind (arith, nat_tests)

-- a value that is accepted has a greater stamp
pub accept-rises : (cells : List RegReply) (other key : Key) (cell : RegReply) → stamp_le (held_at cells key).stamp (held_at (accept cells other cell) key).stamp ≡ true
accept-rises cells other key cell =
    let a = le_same (held_at cells key).stamp in
    let b = lt_le (held_at cells other).stamp cell.stamp in
    grind (arith, looks, a, b)

pub accept-all-rises : (deps : List Dep) (cells : List RegReply) (key : Key) → stamp_le (held_at cells key).stamp (held_at (accept_all cells deps) key).stamp ≡ true
accept-all-rises [] cells key = le_same (held_at cells key).stamp
accept-all-rises (dep ∷ deps) cells key =
    le_trans (held_at cells key).stamp (held_at (accept cells dep.key (dep_cell dep)) key).stamp (held_at (accept_all (accept cells dep.key (dep_cell dep)) deps) key).stamp (accept-rises cells dep.key key (dep_cell dep)) (accept-all-rises deps (accept cells dep.key (dep_cell dep)) key)

-- whatever a replica serves, its stamps do not fall
pub after-rises : (cells : List RegReply) (r : Request) (key : Key) → stamp_le (held_at cells key).stamp (held_at (replica_after cells r) key).stamp ≡ true
unfolding replica_after
after-rises cells (request.Store other value stamp writer) key = accept-rises cells other key (record { value = value; stamp = stamp; writer = writer })
after-rises cells (request.Fix deps) key = accept-all-rises deps cells key
after-rises cells (request.Ask other) key = le_same (held_at cells key).stamp
after-rises cells (request.Stamp other) key = le_same (held_at cells key).stamp
after-rises cells (request.Lock attempt coordinator reads writes) key = le_same (held_at cells key).stamp
after-rises cells (request.Prepare attempt least earliest_end writes) key = le_same (held_at cells key).stamp
after-rises cells (request.Decide attempt commit time) key = le_same (held_at cells key).stamp
after-rises cells (request.Commit attempt commit_time) key = le_same (held_at cells key).stamp
after-rises cells (request.Abort attempt) key = le_same (held_at cells key).stamp
after-rises cells (request.Inquire attempt) key = le_same (held_at cells key).stamp
after-rises cells (request.Release attempt time last) key = le_same (held_at cells key).stamp
after-rises cells (request.Snapshot read_time least keys skip) key = le_same (held_at cells key).stamp

-- one replica of one service in the place of what it was
pub place-rises : (all : List (List (List RegReply))) (x i : ℕ) (cells : List RegReply) (y place : ℕ) (key : Key) → stamp_le (held_at (get_or (get_or all x []) i []) key).stamp (held_at cells key).stamp ≡ true → stamp_le (held_at (get_or (get_or all y []) place []) key).stamp (held_at (get_or (get_or (set all x (set (get_or all x []) i cells)) y []) place []) key).stamp ≡ true
place-rises all x i cells y place key e = let a = le_same (held_at (get_or (get_or all y []) place []) key).stamp in grind (arith, looks, a, e)

pub later_same : (u : State) → Later u u
later_same u = record {
  decisions = λ n a o e. e;
  floors = λ n. omega arith;
  net = omega arith;
  envelopes = λ m l. refl;
  bodies = λ m l. refl;
  stamps = λ service place key. le_same (stamp_in u service place key);
}

shard-decides : (s : State) (m shard latest : ℕ) (r : Request) (n : ℕ) (a : Attempt) (o : Outcome) → decision_in (shard_at s n).decisions a ≡ Some o → decision_in (shard_at (serves_shard s m shard latest r) n).decisions a ≡ Some o
shard-decides s m shard latest r n a o e = let d = first-decision (shard_at s shard) latest r a o in grind (arith, looks, d, e)

shard-rises : (s : State) (m shard latest : ℕ) (r : Request) (n : ℕ) → (shard_at s n).floor ≤ (shard_at (serves_shard s m shard latest r) n).floor
shard-rises s m shard latest r n = let d = floor-rises (shard_at s shard) latest r in grind (arith, looks, d)

pub later_keeps : (u : State) → StoreKeeps (Later u)
later_keeps u = record {
  fates = λ s m f h. record {
    decisions = h.decisions;
    floors = h.floors;
    net = grind (arith, looks, h.net);
    envelopes = λ k l. let a = h.envelopes k l in grind (arith, looks, a, h.net);
    bodies = λ k l. let a = h.bodies k l in grind (arith, looks, a, h.net);
    stamps = h.stamps;
  };
  sends = λ s o out h. record {
    decisions = h.decisions;
    floors = h.floors;
    net = grind (arith, looks, h.net);
    envelopes = λ k l. let a = h.envelopes k l in grind (arith, looks, a, h.net);
    bodies = λ k l. let a = h.bodies k l in grind (arith, looks, a, h.net);
    stamps = h.stamps;
  };
  shards = λ s m shard latest r d h. record {
    decisions = λ n a o e. shard-decides s m shard latest r n a o (h.decisions n a o e);
    floors = λ n. let a = h.floors n in let b = shard-rises s m shard latest r n in omega (arith, a, b);
    net = grind (arith, looks, h.net);
    envelopes = λ k l. let a = h.envelopes k l in grind (arith, looks, a, h.net);
    bodies = λ k l. let a = h.bodies k l in grind (arith, looks, a, h.net);
    stamps = h.stamps;
  };
  replicas = λ s m service replica r d h. record {
    decisions = h.decisions;
    floors = h.floors;
    net = grind (arith, looks, h.net);
    envelopes = λ k l. let a = h.envelopes k l in grind (arith, looks, a, h.net);
    bodies = λ k l. let a = h.bodies k l in grind (arith, looks, a, h.net);
    stamps = λ x place key. le_trans (stamp_in u x place key) (stamp_in s x place key) (stamp_in (serves_replica s m service replica r) x place key) (h.stamps x place key) (place-rises s.replicas (service_index service) (replica - 1) (replica_after (cells_at s service replica) r) (service_index x) place key (after-rises (cells_at s service replica) r key));
  };
  others = λ s t e h. record {
    decisions = λ n a o f. grind (arith, e.shards, h.decisions n a o f);
    floors = λ n. grind (arith, e.shards, h.floors n);
    net = grind (arith, e.net, h.net);
    envelopes = λ k l. let a = h.envelopes k l in grind (arith, e.net, a);
    bodies = λ k l. let a = h.bodies k l in grind (arith, e.net, a);
    stamps = λ x place key. let a = h.stamps x place key in grind (arith, e.replicas, a);
  };
}

-- a step that is not refused leads to a later state
pub later_step : (c : Config) (u s : State) (step : Step) → refusal c s step ≡ None → Later u s → Later u (stepped c s step)
later_step c u s step r h = store_walk c (Later u) (later_keeps u) (ticks s step.at) step.at step.kind (passes c s step r).kind (record { decisions = h.decisions; floors = h.floors; net = h.net; envelopes = h.envelopes; bodies = h.bodies; stamps = h.stamps })

later_steps : (c : Config) (u : State) (steps : List Step) (v s : State) → run_from c v steps ≡ Some s → Later u v → Later u s
later_steps c u [] v s e h = subst (Later u) (run_none c v s e) h
later_steps c u (step ∷ steps) v s e h = let t = run_rest c v step steps s e in later_steps c u steps (stepped c v step) s t.1 (later_step c u v step t.0 h)

-- from any state to one that steps lead to
pub later_from : (c : Config) (steps : List Step) (u s : State) → run_from c u steps ≡ Some s → Later u s
later_from c steps u s e = later_steps c u steps u s e (later_same u)

-- from one state of a run to a later one
pub later_run : (c : Config) (steps more : List Step) (s t : State) → run c steps ≡ Some s → run c (steps ++ more) ≡ Some t → Later s t
later_run c steps more s t e f = later_steps c s more s t (run_split c steps more s t e f) (later_same s)
