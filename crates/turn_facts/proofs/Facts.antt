-- Every run of a sound file keeps what the turns of its owners need.
use Rattle.std.proofs.Common.{◌≡◌, ℕ, ◌<◌, ◌≤◌, ◌^◌, true, List, All, Some, None, refl, arith}
use Rattle.std.proofs.lemmas.List.Elements.{All-weaker}
use Rattle.truetime.specs.Reading.{IsReading}
use Rattle.rss_names.specs.declared.service.ServiceId.{ServiceId}
use Rattle.rss_names.specs.declared.service.ServiceId.TheVariants as service
use Rattle.pipeline_lang.specs.Config.{replicas_of}
use Rattle.pipeline_lang.specs.declared.config.Config.{Config}
use Rattle.rss_wire.specs.Messages.{message_at}
use Rattle.rss_machine.specs.Run.{run, readings_of}
use Rattle.rss_machine.specs.Session.{Session}
use Rattle.rss_machine.specs.State.{State, owner_at, stage_at}
use Rattle.rss_machine.specs.declared.session.OwnerKind.{OwnerKind}
use Rattle.rss_machine.specs.declared.session.OwnerKind.TheVariants as kind
use Rattle.rss_machine.specs.declared.session.Session.TheVariants as session
use Rattle.rss_machine.specs.declared.step.Step.{Step}
use Rattle.world_laws.specs.Laws.{IsOrdered}
use Rattle.world_laws.specs.Numbered.{are_numbered}
use Rattle.world_laws.specs.Shapes.{IsSoundFile}
use Rattle.world_laws.proofs.Sound.{operation_fits}
use Rattle.reg_laws.proofs.Agree.{agree_run}
use Rattle.reg_laws.proofs.Awaiting.{slot_current}
use Rattle.reg_laws.proofs.Awaits.{awaited_run}
use Rattle.txn_session_laws.specs.Standing.{UnderWay}
use Rattle.txn_line_laws.proofs.True.{true_run}
use Rattle.run_laws.specs.Facts.{RunKeeps}
use Rattle.run_laws.proofs.Facts.{keeps_run}
use Rattle.turn_sizes.proofs.Turned.{turns_are_few, beginnings_are_few}
use Rattle.owner_turns.specs.Going.{AttemptsFit, HomesFit}
use Rattle.owner_turns.specs.Whole.{KindFits, FewReplicas}
use Rattle.world_traffic.specs.Turned.{said_in}
use Rattle.turn_facts.specs.Facts.{TurnFacts}
use Rattle.turn_facts.proofs.Operations.{op_fits, op_homes, can_begin}
use Rattle.turn_facts.proofs.Slots.{slot_fits}
use Rattle.turn_facts.proofs.Small.{session_small, said_small}
use Rattle.turn_facts.proofs.Stubs.{settles_few, stub_starts}

replicas_few : (c : Config) → IsSoundFile c → FewReplicas c
replicas_few c f = record { few = by_kind }
  where
    by_kind : (x : ServiceId) → replicas_of c x ≤ 7
    by_kind (service.Reg number) = f.within.places.replicas number
    by_kind (service.Txn number) = let q = f.within.places.others number in omega (arith, q)

pub facts_run : (c : Config) (steps : List Step) (s : State) → IsSoundFile c → All IsReading (readings_of steps) → are_numbered steps ≡ true → run c steps ≡ Some s → TurnFacts c s
facts_run c steps s f a z e = record {
  turns = λ o step at. turns_are_few c steps s o step at f e (h.copies o).orders.last;
  beginnings = λ o step at w. beginnings_are_few c o step at w f;
  replicas = replicas_few c f;
  kinds = λ o. by_kind o (owner_at s o).kind refl;
  homes = λ o. of_kind o (owner_at s o).kind refl;
  operations = λ n x g. can_begin c x (operation_fits c n (stage_at s n).cursor.position (stage_at s n).cursor.variables x f g);
  slots = λ o slot exchange g. slot_fits c s f.within.shards h.few (awaited_run c steps s e) under.framed under.awaited o slot exchange (slot_current (owner_at s o).currents exchange slot g);
  small = λ o replica m. session_small s.steps (owner_at s o).session replica (said_in s.net m) small (h.ready.stamps.sessions o) (said_small s.steps (message_at s.net m).envelope.target (message_at s.net m).body (h.ready.stamps.told m));
  attempts = λ o. by_session o (owner_at s o).session refl;
  stubs = λ n o at allowed g. stub_starts (owner_at s o) (owner_at s o).works.wait (h.ready.stubs.stubs n o g) ((agree_run c steps s e).each o);
}
  where
    h : RunKeeps c s
    h = keeps_run c steps s f a z e

    under : UnderWay c s
    under = (true_run c steps s f.keys (All-weaker IsReading IsOrdered (λ at k. k.0) (readings_of steps) a) e).under

    small : s.steps < 2 ^ 63
    small = let made = h.ready.sizes.steps in let most = f.within.steps in omega (arith, made, most)

    by_kind : (o : ℕ) (k : OwnerKind) → (owner_at s o).kind ≡ k → KindFits k
    by_kind o (kind.Calling x) g = op_fits c x (h.ready.operations o x g)
    by_kind o kind.Fencing g = tt
    by_kind o (kind.Stubbing None) g = tt
    by_kind o (kind.Stubbing (Some (attempt, shards))) g = settles_few c s attempt shards under.framed h.few (under.framed.stub o attempt shards g)

    of_kind : (o : ℕ) (k : OwnerKind) → (owner_at s o).kind ≡ k → HomesFit c k
    of_kind o (kind.Calling x) g = op_homes c x (h.ready.operations o x g).keys
    of_kind o kind.Fencing g = (tt, tt, tt)
    of_kind o (kind.Stubbing unsettled) g = (tt, tt, tt)

    by_session : (o : ℕ) (x : Session) → (owner_at s o).session ≡ x → AttemptsFit x
    by_session o (session.Transaction t) g =
        let k = h.ready.sizes.attempts o t g in
        let made = h.ready.sizes.steps in
        let most = f.within.steps in
        omega (arith, k, made, most)
    by_session o (session.Fixing r) g = tt
    by_session o (session.Register r) g = tt
    by_session o (session.Snapshot t) g = tt
    by_session o session.Idle g = tt
    by_session o (session.Settling attempt shards) g = tt
