-- Each shard serves what was sent to it, from any state to a later one.
use Rattle.std.proofs.Common.{◌≡◌, ℕ, ◌+◌, ◌-◌, ◌<◌, ◌≤◌, ◌⊎◌, inl, inr, List, [], ◌∷◌, ◌++◌, length, get_or, Some, None, refl, sym, ap, ◌∙◌, subst, arith, zero, suc}
use Rattle.std.proofs.lemmas.Bool.{leb-true}
use Rattle.truetime.specs.Reading.{Reading}
use Rattle.rss_names.specs.declared.service.ServiceId.{ServiceId}
use Rattle.rss_names.specs.declared.service.Target.TheVariants.{Shard}
use Rattle.pipeline_lang.specs.declared.config.Config.{Config}
use Rattle.rss_wire.specs.declared.messages.Request.{Request}
use Rattle.rss_wire.specs.Messages.{message_at}
use Rattle.rss_tables.specs.ShardRow.{Shard as ShardState, opening_shard, shard_after}
use Rattle.rss_machine.specs.Effect.{stepped}
use Rattle.rss_machine.specs.Moves.{ticks, marks_message, sends_one, serves_shard, serves_replica, notes_served}
use Rattle.rss_machine.specs.Refusal.{refusal}
use Rattle.rss_machine.specs.Run.{run, run_from}
use Rattle.rss_machine.specs.State.{State, start, shard_at, shards_from}
use Rattle.rss_machine.specs.declared.step.Step.{Step}
use Rattle.world_laws.specs.Later.{Later}
use Rattle.world_laws.proofs.Later.{later_same, later_keeps}
use Rattle.world_laws.proofs.Looks.{get_or_set}
use Rattle.world_laws.proofs.Runs.{passes, run_split, steps_keep}
use Rattle.world_laws.proofs.StoreMoves.{Serves}
use Rattle.shard_laws.specs.Served.{IsReached}
use Rattle.shard_laws.proofs.Fits.{served_more, reached_later}
use Rattle.shard_laws.proofs.Rising.{each_more, each_append}
use Rattle.txn_laws.specs.Serving.{WasSentTo, ServesOn}
use Rattle.txn_laws.proofs.ShardWalk.{ShardKeeps, shard_walk}

-- what was sent once was sent in every later state
pub sent_later : (u t : State) (shard moment : ℕ) → Later u t → (r : ℕ × Request) → WasSentTo u shard moment r → WasSentTo t shard moment r
sent_later u t shard moment l r x = record {
  message = x.message;
  numbered = x.numbered;
  sent = (let n = l.net in let m = x.sent in omega (arith, n, m));
  asks = l.bodies x.message x.sent ∙ x.asks;
  number = x.number;
  target = ap (λ e. e.target) (l.envelopes x.message x.sent) ∙ x.target;
  place = x.place;
  not_before = x.not_before;
}

-- all shards of a state, and the moment, come of those of an earlier one
record Comes (s t : State) : Type 0 where
  moment : s.moment ≤ t.moment
  shards : (n : ℕ) → ServesOn s t n

comes_same : (s t u : State) → Later t u → u.moment ≡ t.moment → u.shards ≡ t.shards → Comes s t → Comes s u
comes_same s t u l m e h = record {
  moment = (let a = h.moment in omega (arith, a, m));
  shards = λ n. let x = h.shards n in record {
    requests = x.requests;
    by = x.by ∙ ap (λ (l : List ShardState). get_or l (n - 1) (opening_shard [])) (sym e);
    each = each_more (WasSentTo t n s.moment) (WasSentTo u n s.moment) (sent_later t u n s.moment l) x.requests x.each;
  };
}

comes_served : (s t : State) (m shard latest : ℕ) (r : Request) → s.moment ≤ latest → Serves t m r (Shard shard) → Later t (serves_shard t m shard latest r) → Comes s t → Comes s (serves_shard t m shard latest r)
comes_served s t m shard latest r i d l h = record { moment = h.moment; shards = λ n. one n (get_or_set t.shards (shard - 1) (shard_after (shard_at t shard) latest r) (n - 1) (opening_shard [])) }
  where
    u : State
    u = serves_shard t m shard latest r

    one : (n : ℕ) → ((shard_at (serves_shard t m shard latest r) n ≡ shard_after (shard_at t shard) latest r) × (n - 1 ≡ shard - 1) × (shard - 1 < length t.shards)) ⊎ ((shard_at (serves_shard t m shard latest r) n ≡ shard_at t n) × ((n - 1 ≡ shard - 1 → ⊥) ⊎ (length t.shards ≤ n - 1))) → ServesOn s (serves_shard t m shard latest r) n
    one n (inl e) =
        let x = h.shards n in
        let same : shard_at t n ≡ shard_at t shard = ap (λ (k : ℕ). get_or t.shards k (opening_shard [])) e.1 in
        record {
          requests = x.requests ++ (latest, r) ∷ [];
          by = served_more (shard_at s n) x.requests ((latest, r) ∷ []) ∙ ap (λ (w : ShardState). shard_after w latest r) (x.by ∙ same) ∙ sym e.0;
          each = each_append (WasSentTo (serves_shard t m shard latest r) n s.moment) x.requests ((latest, r) ∷ []) (each_more (WasSentTo t n s.moment) (WasSentTo (serves_shard t m shard latest r) n s.moment) (sent_later t (serves_shard t m shard latest r) n s.moment l) x.requests x.each)
              (sent_later t (serves_shard t m shard latest r) n s.moment l (latest, r) (record { message = m; numbered = d.numbered; sent = d.sent; asks = d.asks; number = shard; target = d.to; place = sym e.1; not_before = i }), tt);
        }
    one n (inr e) =
        let x = h.shards n in
        record {
          requests = x.requests;
          by = x.by ∙ sym e.0;
          each = each_more (WasSentTo t n s.moment) (WasSentTo (serves_shard t m shard latest r) n s.moment) (sent_later t (serves_shard t m shard latest r) n s.moment l) x.requests x.each;
        }

comes_keeps : (s : State) (at : Reading) → s.moment ≤ at.latest → ShardKeeps at (Comes s)
comes_keeps s at i = record {
  fates = λ t m f h. comes_same s t (marks_message t m f) ((later_keeps t).fates t m f (later_same t)) refl refl h;
  sends = λ t o out h. comes_same s t (sends_one t o out) ((later_keeps t).sends t o out (later_same t)) refl refl h;
  shards = λ t m shard r d h. comes_served s t m shard at.latest r i d ((later_keeps t).shards t m shard at.latest r d (later_same t)) h;
  replicas = λ t m service replica r d h. comes_same s t (notes_served (serves_replica t m service replica r) (message_at t.net m).envelope.owner service r) ((later_keeps t).replicas t m service replica r d (later_same t)) refl refl h;
  others = λ t u e h. comes_same s t u ((later_keeps t).others t u e (later_same t)) e.moment e.shards h;
}

comes_step : (c : Config) (s t : State) (step : Step) → refusal c t step ≡ None → Comes s t → Comes s (stepped c t step)
comes_step c s t step e h =
    let p = passes c t step e in
    let a = leb-true t.moment step.at.latest p.admitted in
    let b = h.moment in
    let mid : Comes s (ticks t step.at) = record { moment = omega (arith, b); shards = λ n. let x = h.shards n in record { requests = x.requests; by = x.by; each = each_more (WasSentTo t n s.moment) (WasSentTo (ticks t step.at) n s.moment) (λ r y. record { message = y.message; numbered = y.numbered; sent = y.sent; asks = y.asks; number = y.number; target = y.target; place = y.place; not_before = y.not_before }) x.requests x.each } } in
    shard_walk c (Comes s) (ticks t step.at) step.at step.kind (comes_keeps s step.at (omega (arith, a, b))) p.kind mid

comes_from : (c : Config) (steps : List Step) (s t : State) → run_from c s steps ≡ Some t → Comes s t
comes_from c steps s t e = steps_keep c (Comes s) (comes_step c s) steps s t e (record { moment = omega arith; shards = λ n. record { requests = []; by = refl; each = tt } })

pub serves_on : (c : Config) (steps more : List Step) (s t : State) → run c steps ≡ Some s → run c (steps ++ more) ≡ Some t → (shard : ℕ) → ServesOn s t shard
serves_on c steps more s t e f = (comes_from c more s t (run_split c steps more s t e f)).shards

-- the shards before the first step
opening_reached : (keys : List _) → IsReached (opening_shard keys)
opening_reached keys = record { keys = keys; requests = []; by = refl }

pub starts_reached : (c : Config) (n : ℕ) (services : List ServiceId) (i : ℕ) → IsReached (get_or (shards_from c n services) i (opening_shard []))
starts_reached c n [] i = opening_reached []
starts_reached c n (service ∷ services) zero = opening_reached _
starts_reached c n (service ∷ services) (suc i) = starts_reached c (n + 1) services i

pub reached_run : (c : Config) (steps : List Step) (s : State) → run c steps ≡ Some s → (shard : ℕ) → IsReached (shard_at s shard)
unfolding run
reached_run c steps s e shard =
    let x = (comes_from c steps (start c) s e).shards shard in
    subst IsReached x.by (reached_later (shard_at (start c) shard) (starts_reached c 1 c.shard_services (shard - 1)) x.requests)
