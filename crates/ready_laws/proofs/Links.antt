-- What messages, links and operations are, in every run.
use Rattle.std.proofs.Common.{◌≡◌, ℕ, ◌<◌, ◌≤◌, Bool, true, false, List, [], zero, suc, length, get_or, Option, Some, None, refl, ap, sym, ◌∙◌, arith}
use Rattle.std.specs.Prelude.{nat_lt, is_some, if◌then◌else◌, ◌&&◌}
use Rattle.std.proofs.lemmas.Bool.{true≢false, ltb-true, and_parts}
use Rattle.pipeline_lang.specs.declared.config.Config.{Config}
use Rattle.rss_model.specs.declared.op.Op.{Op}
use Rattle.rss_wire.specs.Messages.{message_at, request_at, body_request, is_sent}
use Rattle.rss_wire.specs.declared.message.Body.{Body}
use Rattle.rss_wire.specs.declared.message.Body.TheVariants as body
use Rattle.rss_machine.specs.Run.{run}
use Rattle.rss_machine.specs.Standing.{is_running}
use Rattle.rss_machine.specs.State.{State, start, owner_at, no_currents}
use Rattle.rss_machine.specs.declared.session.OwnerKind.TheVariants as kind
use Rattle.rss_machine.specs.declared.state.OwnerFate.TheVariants.{Ended}
use Rattle.rss_machine.specs.declared.step.Step.{Step}
use Rattle.world_laws.specs.Exchanges.{Exchanges, IsSound, is_request}
use Rattle.world_laws.specs.Shapes.{IsSoundFile}
use Rattle.world_laws.specs.Traffic.{MessagesFit, LinksFit, OperationFits}
use Rattle.world_laws.proofs.Looks.{get_or_repeat}
use Rattle.world_laws.proofs.Replies.{exchanges_run}
use Rattle.world_laws.proofs.Runs.{run_is, run_ends}
use Rattle.world_laws.proofs.Scripts.{scripted_run, go_on_run}
use Rattle.world_laws.proofs.Sound.{operation_fits}
use Rattle.world_laws.proofs.ToldLaws.{told_run}
use Rattle.ready_laws.proofs.Traffic.{traffic_run}

-- a message that was sent has a number from 1, below the count of all
pub record WasSent (s : State) (m : ℕ) : Type 0 where
  pub numbered : 0 < m
  pub there : m < length s.net

was_sent : (s : State) (m : ℕ) → is_sent s.net m ≡ true → WasSent s m
was_sent s m e = let p = and_parts (nat_lt 0 m) (nat_lt m (length s.net)) e in record { numbered = ltb-true 0 m p.0; there = ltb-true m (length s.net) p.1 }

-- and a number like that is of one
sent_there : (s : State) (m : ℕ) → 0 < m → m < length s.net → is_sent s.net m ≡ true
sent_there s m z l = both (nat_lt 0 m) (nat_lt m (length s.net)) (is_lt 0 m z) (is_lt m (length s.net) l)
  where
    both : (a b : Bool) → a ≡ true → b ≡ true → (a && b) ≡ true
    both true true e f = refl
    both true false e f = f
    both false b e f = e

    is_lt : (a b : ℕ) → a < b → nat_lt a b ≡ true
    is_lt a b l = grind (arith, l)

asks_some : (x : Body) → is_request x ≡ true → is_some (body_request x) ≡ true
asks_some (body.Request r) e = refl
asks_some (body.Reply r) e = absurd (true≢false (sym e))

-- the exchange of a message is a request that was sent
exchange_asked : (s : State) (m : ℕ) → Exchanges s.net → 0 < m → m < length s.net → is_some (request_at s.net (message_at s.net m).envelope.exchange) ≡ true
exchange_asked s m x z l =
    let e = (message_at s.net m).envelope.exchange in
    let h : IsSound m (message_at s.net m) (message_at s.net e) = x m z l in
    at e h.some (before (is_request (message_at s.net m).body) refl h) (asks_some (message_at s.net e).body h.request)
  where
    before : (b : Bool) → is_request (message_at s.net m).body ≡ b → IsSound m (message_at s.net m) (message_at s.net (message_at s.net m).envelope.exchange) → (message_at s.net m).envelope.exchange < length s.net
    before true e h = let k = h.itself e in omega (arith, k, l)
    before false e h = let k = h.earlier e in omega (arith, k, l)

    at : (n : ℕ) → 0 < n → n < length s.net → is_some (body_request (message_at s.net n).body) ≡ true → is_some (request_at s.net n) ≡ true
    at n z l a = by_test (is_sent s.net n) (sent_there s n z l)
      where
        by_test : (b : Bool) → b ≡ true → is_some (if b then body_request (message_at s.net n).body else None) ≡ true
        by_test true e = a
        by_test false e = absurd (true≢false (sym e))

pub messages_run : (c : Config) (steps : List Step) (s : State) → run c steps ≡ Some s → MessagesFit s
messages_run c steps s e =
    let h = traffic_run c steps s e in
    let x = exchanges_run c steps s e in
    record {
      first = h.nothing;
      owned = λ m g. (let k = was_sent s m g in (h.owned m k.numbered k.there).first);
      begun = λ m g. (let k = was_sent s m g in (h.owned m k.numbered k.there).begun);
      exchanges = λ m g. (let k = was_sent s m g in exchange_asked s m x k.numbered k.there);
    }

-- nothing is current of an owner that is over
none_current : (slot : ℕ) → get_or no_currents slot None ≡ None
none_current slot = let q = get_or_repeat {X = Option ℕ} 23 None slot None in grind (arith, q)

pub links_run : (c : Config) (steps : List Step) (s : State) → run c steps ≡ Some s → LinksFit s
links_run c steps s e =
    let h = traffic_run c steps s e in
    let told = (told_run c steps s e).told in
    record {
      own = told.stages;
      called = λ n o g. from_one o (λ z. runs_not o z (told.stages.owner n o g).running);
      currents = λ o slot exchange g. (let k = h.awaits o slot exchange g in record { sent = sent_there s exchange k.numbered k.sent; owner = k.owner; request = k.request });
      quiet = λ o slot g. ap (λ (xs : List (Option ℕ)). get_or xs slot None) ((told.fits o).currents g) ∙ none_current slot;
    }
  where
    from_one : (o : ℕ) → (o ≡ 0 → ⊥) → 1 ≤ o
    from_one zero n = absurd (n refl)
    from_one (suc o) n = omega arith

    runs_not : (o : ℕ) → o ≡ 0 → is_running (owner_at s o).fate ≡ true → ⊥
    runs_not o z r = true≢false (sym r ∙ (ap (λ (j : ℕ). is_running (owner_at s j).fate) z ∙ ap is_running nobody))
      where
        nobody : (owner_at s 0).fate ≡ Ended
        nobody = ((go_on_run c [] steps (start c) s (run_is c [] (start c) (run_ends c (start c))) e).each 0 (omega arith)).fate refl

pub operations_run : (c : Config) (steps : List Step) (s : State) → IsSoundFile c → run c steps ≡ Some s → (o : ℕ) (x : Op) → (owner_at s o).kind ≡ kind.Calling x → OperationFits c x
operations_run c steps s f e o x k = let h = (scripted_run c steps s e).calls o x k in operation_fits c (owner_at s o).stage h.place h.variables x f h.makes
