-- What every run gives of a machine, for the room of its steps.
use Rattle.std.proofs.Common.{◌≡◌, ℕ, zero, suc, ◌+◌, ◌<◌, ◌≤◌, ◌^◌, Bool, true, false, true≢false, List, [], ◌∷◌, length, get_or, Some, None, sym, ap, ◌∙◌, subst, arith, if◌then◌else◌}
use Rattle.rss_wire.specs.declared.envelope.Envelope.{Envelope}
use Rattle.rss_wire.specs.declared.message.Message.{Message}
use Rattle.rss_wire.specs.Messages.{message_at, is_sent, envelope_at}
use Rattle.rss_machine.specs.Standing.{is_running, is_live}
use Rattle.rss_machine.specs.State.{Stage, Owner, no_stage, no_owner}
use Rattle.rss_machine.specs.declared.session.OwnerKind.TheVariants as kind
use Rattle.pipeline_lang.specs.Config.{statement_at}
use Rattle.pipeline_lang.specs.declared.config.Config.{Config}
use Rattle.pipeline_lang.specs.declared.script.Statement.TheVariants as statement
use Rattle.pipeline_stage.specs.Statements.{HasFewReads}
use Rattle.rss_model.specs.Cursor.{NumberedStatement}
use Rattle.world_laws.specs.Shapes.{IsSoundFile, KeepsService}
use Rattle.owner_turns.specs.Going.{HomesFit}
use Rattle.parts_ready.specs.Few.{AreFew}
use Rattle.parts_ready.proofs.Few.{owner_from, owner_there, called, are_few}
use Rattle.parts_ready.proofs.There.{under_way}
use Rattle.world_laws.specs.Calls.{is_stub}
use Rattle.world_parts.specs.Parts.{Staging, Traffic, stage_in, owner_in}
use Rattle.world_stores.specs.StoresView.{IsThere}
use Rattle.world_traffic.specs.View.{IsBegun}
use Rattle.world_machine.specs.declared.machine.Machine.{Machine}
use Rattle.world_machine.specs.Ready.{IsReady, HasFacts}
use Rattle.machine_room.specs.Prepared.{LeavesFit}
use Rattle.world_machine.proofs.Coming.{sent_envelope}
use Rattle.world_machine.proofs.Sent.{there_so}

pub few_of : (m : Machine) → IsReady m → AreFew m.staging.staging m.traffic.traffic
few_of m h = are_few m.config m.staging.staging m.traffic.traffic m.stores.stores h

pub pipes_of : (m : Machine) → IsReady m → length m.config.pipe_ends ≤ 16
pipes_of m h = h.facts.file.within.pipes

pub leaves_of : (m : Machine) → HasFacts m → LeavesFit m.traffic.traffic
leaves_of m h = record { fits = h.left }

pub position_of : (m : Machine) (n : ℕ) → HasFacts m → (stage_in m.staging.staging n).cursor.position + 1 < 2 ^ 64
position_of m n h = h.positions n

pub homes_of : (m : Machine) (o : ℕ) → HasFacts m → HomesFit m.config (owner_in m.traffic.traffic o).kind
homes_of m o h = h.turn.homes o

-- who sent a message
pub sender_begun : (m : Machine) (number : ℕ) (e : Envelope) → IsReady m → is_sent m.traffic.traffic.net number ≡ true → envelope_at m.traffic.traffic.net number ≡ Some e → IsBegun m.traffic.traffic e.owner
sender_begun m number e h sent given =
    let env = sent_envelope m.traffic.traffic.net number e sent given in
    subst (λ (x : Envelope). IsBegun m.traffic.traffic x.owner) env (owner_from m.config m.staging.staging m.traffic.traffic m.stores.stores h number sent, owner_there m.config m.staging.staging m.traffic.traffic m.stores.stores h number sent)

pub target_there : (m : Machine) (number : ℕ) (e : Envelope) → IsReady m → is_sent m.traffic.traffic.net number ≡ true → envelope_at m.traffic.traffic.net number ≡ Some e → IsThere m.stores.stores.shards e.target
target_there m number e h sent given = subst (λ (x : Envelope). IsThere m.stores.stores.shards x.target) (sent_envelope m.traffic.traffic.net number e sent given) (there_so m.config m.staging.staging m.traffic.traffic m.stores.stores number h sent)

pub sent_is : (m : Machine) (number : ℕ) (e : Envelope) → is_sent m.traffic.traffic.net number ≡ true → envelope_at m.traffic.traffic.net number ≡ Some e → (message_at m.traffic.traffic.net number).envelope ≡ e
sent_is m number e sent given = sent_envelope m.traffic.traffic.net number e sent given

sent_none : (net : List Message) (number : ℕ) → is_sent net number ≡ true → envelope_at net number ≡ None → ⊥
sent_none net number sent none = by (is_sent net number) sent none
  where
    by : (b : Bool) → b ≡ true → (if b then Some (message_at net number).envelope else None) ≡ None → ⊥
    by true e h = absurd (cc)
    by false e h = absurd (cc)

pub sent_some : (m : Machine) (number : ℕ) → is_sent m.traffic.traffic.net number ≡ true → envelope_at m.traffic.traffic.net number ≡ None → ⊥
sent_some m number sent none = sent_none m.traffic.traffic.net number sent none

-- a stub that there is
stub_first : (t : Traffic) (o : ℕ) → (owner_in t 0).kind ≡ kind.Fencing → is_stub (owner_in t o).kind ≡ true → 1 ≤ o
stub_first t zero first h = absurd (true≢false (sym h ∙ ap is_stub first))
stub_first t (suc o) first h = omega arith

stub_there : (owners : List Owner) (o : ℕ) → is_stub (get_or owners o no_owner).kind ≡ true → o < length owners
stub_there [] o h = absurd (true≢false (sym h))
stub_there (w ∷ owners) zero h = omega arith
stub_there (w ∷ owners) (suc o) h = let r = stub_there owners o h in omega (arith, r)

pub stub_begun : (m : Machine) (n o : ℕ) → IsReady m → HasFacts m → (stage_in m.staging.staging n).stub ≡ Some o → IsBegun m.traffic.traffic o
stub_begun m n o h facts e =
    let k : is_stub (owner_in m.traffic.traffic o).kind ≡ true = h.facts.run.stubs.stubs n o e in
    (stub_first m.traffic.traffic o facts.first k, stub_there m.traffic.traffic.owners o k)

pub stub_real : (m : Machine) (n o : ℕ) → IsReady m → (stage_in m.staging.staging n).stub ≡ Some o → owner_in m.traffic.traffic o ≡ no_owner → ⊥
stub_real m n o h e q = true≢false (sym (h.facts.run.stubs.stubs n o e) ∙ ap (λ (w : Owner). is_stub w.kind) q)

-- what a stage has under way
pub owner_begun : (m : Machine) (n o : ℕ) → IsReady m → (stage_in m.staging.staging n).owner ≡ Some o → IsBegun m.traffic.traffic o
owner_begun m n o h e = (called m.config m.staging.staging m.traffic.traffic m.stores.stores h n o e, under_way m.config m.staging.staging m.traffic.traffic m.stores.stores n o h e)

pub owner_real : (m : Machine) (n o : ℕ) → IsReady m → (stage_in m.staging.staging n).owner ≡ Some o → owner_in m.traffic.traffic o ≡ no_owner → ⊥
owner_real m n o h e q = true≢false (sym (h.facts.run.links.own.owner n o e).running ∙ ap (λ (w : Owner). is_running w.fate) q)

pub ruleset known = (few_of, pipes_of, leaves_of, position_of, homes_of, sender_begun, target_there, sent_is, sent_some, stub_begun, stub_real, owner_begun, owner_real)

-- a transaction of a file reads few keys
few_kept : (st : NumberedStatement) → KeepsService st → HasFewReads st
few_kept (statement.Txn pairs guard writes) h = h.few_read
few_kept (statement.Let variable value) h = tt
few_kept (statement.Read variable key) h = tt
few_kept (statement.Write key value) h = tt
few_kept (statement.Snap pairs) h = tt
few_kept (statement.Spawn child) h = tt
few_kept (statement.Wait child) h = tt
few_kept (statement.Put p value) h = tt
few_kept (statement.Take variable p) h = tt
few_kept (statement.Close p) h = tt
few_kept statement.Fence h = tt
few_kept (statement.Repeat times) h = tt
few_kept (statement.When test) h = tt
few_kept statement.End h = tt
few_kept statement.Exit h = tt

pub reads_few : (c : Config) (n place : ℕ) (st : NumberedStatement) → IsSoundFile c → st ≡ statement_at c n place → HasFewReads st
reads_few c n place st h e = few_kept st (subst KeepsService (sym e) (h.services.statements n place))

pub lives_there : (g : Staging) (n : ℕ) → is_live (stage_in g n).life ≡ true → stage_in g n ≡ no_stage → ⊥
lives_there g n h e = true≢false (sym h ∙ ap (λ (x : Stage). is_live x.life) e)
