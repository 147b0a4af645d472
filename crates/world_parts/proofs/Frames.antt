-- A move of one part leaves the others as they are, and a move over two parts is its two halves.
use Rattle.std.proofs.Common.{◌≡◌, ℕ, ◌-◌, ◌+◌, Bool, true, false, List, [], ◌∷◌, length, Option, Some, None, refl, sym, ap, ◌∙◌}
use Rattle.std.specs.Prelude.{if◌then◌else◌, get_or, set, ◌++◌}
use Rattle.causal_context.specs.Seen.{Seen, fenced_outside}
use Rattle.pipeline_lang.specs.declared.config.Config.{Config}
use Rattle.pipeline_lang.specs.declared.config.PipeEnds.{PipeEnds}
use Rattle.rss_names.specs.declared.service.ServiceId.{ServiceId}
use Rattle.rss_names.specs.declared.service.Target.{Target}
use Rattle.rss_model.specs.declared.history.Entry.TheVariants.{Give, Over}
use Rattle.rss_model.specs.declared.history.How.{How}
use Rattle.rss_model.specs.declared.history.Token.TheVariants as token
use Rattle.rss_tables.specs.Outs.{Out}
use Rattle.rss_tables.specs.declared.fences.FenceWork.{FenceWork}
use Rattle.rss_machine.specs.Moves.{with_owner, sends, sends_one, counts_fences, closes, cuts_pipe, is_to_end, closes_from, cuts_from, gives_exit, dies, closes_owner, unsettled_by}
use Rattle.rss_machine.specs.State.{State, Owner, stage_at, opening_owner}
use Rattle.rss_machine.specs.declared.session.OwnerKind.TheVariants as kind
use Rattle.rss_machine.specs.declared.state.Life.TheVariants as life
use Rattle.rss_machine.specs.declared.state.OwnerFate.{OwnerFate}
use Rattle.rss_machine.specs.declared.state.OwnerFate.TheVariants.{CutOff}
use Rattle.rss_tables.specs.Works.{no_works}
use Rattle.world_parts.specs.Parts.{Clock, Staging, Traffic, Stores, assembled, in_staging, in_traffic, stage_in, owner_in, at_step, no_staging, no_traffic, no_stores}
use Rattle.world_parts.specs.Halves.{opens_stub, closes_left, unsettled_in, closes_stub_in, closes_in, leaves_stub}
use Rattle.world_parts.specs.Frames.{MovesTraffic, MovesStaging, TrafficMoves, StagingMoves, SplitMoves, MovesSplit}

-- requests that are sent
pub sends_moves : (o : ℕ) (outs : List Out) → MovesTraffic (λ (s : State). sends s o outs)
sends_moves o [] step k g t d = refl
sends_moves o (out ∷ outs) step k g t d = sends_moves o outs step k g (in_traffic step (λ (s : State). sends_one s o out) t) d

-- a turn without its end
pub turns_move : (o : ℕ) (w : Owner) (fences : List (ServiceId × FenceWork)) (outs : List Out) → MovesTraffic (λ (s : State). sends (record (with_owner s o w) { planned = counts_fences fences s.planned }) o outs)
turns_move o w fences outs step k g t d = sends_moves o outs step k g (in_traffic step (λ (s : State). record (with_owner s o w) { planned = counts_fences fences s.planned }) t) d

pub traffic_moves : TrafficMoves
traffic_moves = record {
  put = λ o w step k g t d. refl;
  counted = λ fences step k g t d. refl;
  sent = sends_moves;
  turned = turns_move;
  marked = λ m fate step k g t d. refl;
  lost = λ o target step k g t d. refl;
  cut = λ o target step k g t d. refl;
}

-- pipes that are closed, one after another
pub closes_move : (c : Config) (n : ℕ) (seen : Seen) (p : ℕ) (ends : List PipeEnds) → MovesStaging (λ (s : State). closes_from c s n seen p ends)
closes_move c n seen p [] k g t d = refl
closes_move c n seen p (x ∷ ends) k g t d = goes_on (is_to_end c (assembled k g t d) n p) (λ (h : Staging). closes_move c n seen (p + 1) ends k h t d)
  where
    goes_on : (b : Bool) → ((h : Staging) → closes_from c (assembled k h t d) n seen (p + 1) ends ≡ assembled k (in_staging (λ (s : State). closes_from c s n seen (p + 1) ends) h) t d) → closes_from c (if b then closes (assembled k g t d) n seen p else assembled k g t d) n seen (p + 1) ends ≡ assembled k (in_staging (λ (s : State). closes_from c (if b then closes s n seen p else s) n seen (p + 1) ends) g) t d
    goes_on true rest = rest (in_staging (λ (s : State). closes s n seen p) g)
    goes_on false rest = rest g

-- pipes that are cut off, one after another
pub cuts_move : (c : Config) (n p : ℕ) (ends : List PipeEnds) → MovesStaging (λ (s : State). cuts_from c s n p ends)
cuts_move c n p [] k g t d = refl
cuts_move c n p (x ∷ ends) k g t d = goes_on (is_to_end c (assembled k g t d) n p) (λ (h : Staging). cuts_move c n (p + 1) ends k h t d)
  where
    goes_on : (b : Bool) → ((h : Staging) → cuts_from c (assembled k h t d) n (p + 1) ends ≡ assembled k (in_staging (λ (s : State). cuts_from c s n (p + 1) ends) h) t d) → cuts_from c (if b then cuts_pipe (assembled k g t d) p else assembled k g t d) n (p + 1) ends ≡ assembled k (in_staging (λ (s : State). cuts_from c (if b then cuts_pipe s p else s) n (p + 1) ends) g) t d
    goes_on true rest = rest (in_staging (λ (s : State). cuts_pipe s p) g)
    goes_on false rest = rest g

-- all pipes of a stage end, and its exit is given
pub exit_moves : (c : Config) (n : ℕ) (seen : Seen) → MovesStaging (λ (s : State). gives_exit c s n seen)
exit_moves c n seen k g t d = ap (λ (s : State). record s { history = s.history ++ Give n (token.Exit n) ∷ [] }) (closes_move c n seen 1 c.pipe_ends k g t d)

pub staging_moves : StagingMoves
staging_moves = record { closed = closes_move; cut = cuts_move; exit = exit_moves }

-- what a stage that dies makes of its parts, where this is its owner
died : (k : Clock) (g : Staging) (t : Traffic) (d : Stores) (n : ℕ) (how : How) (f : OwnerFate) (x : Option ℕ) →
    record (closes_owner (assembled k g t d) x f) {
      owners = (closes_owner (assembled k g t d) x f).owners ++ opening_owner n (kind.Stubbing (unsettled_by (assembled k g t d) x)) false (no_works (stage_in g n).context) k.steps ∷ [];
      stages = set (closes_owner (assembled k g t d) x f).stages (n - 1) (record (stage_at (closes_owner (assembled k g t d) x f) n) { life = life.Over how; owner = None; stub = Some (length (closes_owner (assembled k g t d) x f).owners) });
      history = (closes_owner (assembled k g t d) x f).history ++ Over n how ∷ [];
    } ≡ assembled k (leaves_stub g n how (length (closes_left k.steps t x f).owners)) (opens_stub k.steps (closes_left k.steps t x f) n (unsettled_in t x) (stage_in g n).context) d
died k g t d n how f None = refl
died k g t d n how f (Some o) = refl

pub moves_split : MovesSplit
moves_split k g t d = record {
  opens-call = λ n op. refl;
  opens-fence = λ n. refl;
  ends-call = λ o shown cursor seen. refl;
  ends-fence = λ o cursor seen. refl;
  dies = λ n how f. died k g t d n how f (stage_in g n).owner;
  ends-stub = λ c o. exit_moves c (owner_in t o).stage (fenced_outside (owner_in t o).works.copy) k g (closes_stub_in k.steps t o) d;
  loses-stub = λ c o target. cuts_move c (owner_in t o).stage 1 c.pipe_ends k g (closes_in k.steps t o (CutOff target)) d;
  serves-shard = λ m shard latest r. refl;
  serves-replica = λ m service replica r. refl;
  notes-served = λ o service r. refl;
}
