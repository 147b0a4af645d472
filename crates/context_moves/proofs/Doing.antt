-- What else owners do: they hear replies, count losses, lose replicas, and stubs are cut off or ask for an outcome. Their
-- copies stay.
use Rattle.std.proofs.Common.{◌≡◌, ℕ, ◌<◌, inl, true, false, List, length, get_or, refl, sym, ap, ◌∙◌, subst, arith}
use Rattle.std.proofs.Math.ListN.{set}
use Rattle.std.proofs.lemmas.Bool.{false≢true}
use Rattle.rss_names.specs.declared.attempt.Attempt.{Attempt}
use Rattle.rss_names.specs.declared.service.ServiceId.{ServiceId}
use Rattle.rss_names.specs.declared.service.Target.TheVariants.{Replica}
use Rattle.causal_context.specs.declared.dep.Dep.{Dep}
use Rattle.pipeline_lang.specs.declared.config.Config.{Config}
use Rattle.rss_model.specs.declared.op.Op.{Op}
use Rattle.rss_wire.specs.declared.messages.Outcome.{Outcome}
use Rattle.rss_tables.specs.Lines.{tells_decision}
use Rattle.rss_tables.specs.Outs.{Out}
use Rattle.rss_tables.specs.Works.{Works}
use Rattle.causal_context.specs.Seen.{Seen}
use Rattle.rss_machine.specs.Moves.{sends, listens, plans_stub, session_without}
use Rattle.rss_machine.specs.Session.{Session, service_of}
use Rattle.rss_machine.specs.declared.session.Session.TheVariants as session
use Rattle.rss_machine.specs.declared.session.OwnerKind.TheVariants as kind
use Rattle.rss_machine.specs.Standing.{is_running}
use Rattle.rss_machine.specs.State.{State, Stage, Owner, no_owner, owner_at}
use Rattle.world_laws.specs.Calls.{is_stub}
use Rattle.world_laws.proofs.Doings.{Doing, listens_one, fix_hears, fix_reached, register_hears, register_stores, register_reached, read_ends, write_ends, txn_ends, snap_ends, counts_one, cuts_one, is_closed, forgets_all, turns, stub_asks, listened}
use Rattle.world_laws.proofs.Looks.{looks}
use Rattle.world_laws.proofs.OwnerMoves.{at_own, sends_kept}
use Rattle.world_laws.proofs.PlannedOwners.{is_fixing}
use Rattle.world_laws.proofs.SessionMoves.{session_at}
use Rattle.world_laws.proofs.StageMoves.{Quiet, DoingNotes}
use Rattle.world_laws.proofs.StagesOwned.{running_there}
use Rattle.world_laws.proofs.TurnMoves.{IsNoTurn}
use Rattle.order_laws.specs.CallsBehind.{CallsBehind}
use Rattle.coupling_laws.specs.Calls.{View, Grows}
use Rattle.coupling_laws.specs.Covers.{Covers, IsAt}
use Rattle.context_moves.specs.Views.{view_of}
use Rattle.context_moves.specs.Covering.{OwnerCovers, Covering}
use Rattle.context_moves.proofs.Later.{SameClock, covers_later}
use Rattle.context_moves.proofs.Own.{own_later, changed, new_owner, same_owner, sends_covering}

-- an owner that keeps its copy and its dates, and has no round of dependencies under way
pub calm_owner : (v v' : View) (b : CallsBehind) (stages : List Stage) (x w : Owner) → Grows v v' → w.stage ≡ x.stage → w.kind ≡ x.kind → is_running x.fate ≡ true → w.works.copy ≡ x.works.copy → w.dates.launched ≡ x.dates.launched → is_fixing w.session ≡ false → OwnerCovers v b stages x → OwnerCovers v' b stages w
calm_owner v v' b stages x w g e y r z d f k =
    new_owner v' b stages x w e y r (λ n m. subst (Covers v' (b.stage n)) (sym z) (covers_later v v' (b.stage n) (b.stage n) x.works.copy g (λ a i. i) (k.copy n (inl r) m)))
    (λ op m p. let a = k.own op m r (subst (λ (j : ℕ). 0 < j) d p) in record { at = subst (λ (seen : Seen). IsAt seen (service_of op)) (sym z) a.at; none = ap (λ (seen : Seen). seen.deps) z ∙ a.none })
    (λ m. absurd (false≢true (sym f ∙ m))) v k

without_fixing : (x : Session) (id : ServiceId) (replica : ℕ) → is_fixing (session_without x (Replica id replica)) ≡ is_fixing x
without_fixing (session.Register r) id replica = refl
without_fixing (session.Fixing r) id replica = refl
without_fixing session.Idle id replica = refl
without_fixing (session.Transaction t) id replica = refl
without_fixing (session.Snapshot t) id replica = refl
without_fixing (session.Settling attempt shards) id replica = refl

module _ (c : Config) (b : CallsBehind) (s : State) (o : ℕ) (r : is_running (owner_at s o).fate ≡ true) (k : Covering c (view_of c s) b s) where
  abbrev v : View
  v = view_of c s

  there : o < length s.owners
  there = running_there s o r

  module _ (t : State) (e : SameClock s t) where
    runs_on : (w : Owner) → t.owners ≡ set s.owners o w → w.fate ≡ (owner_at s o).fate → is_running (owner_at t o).fate ≡ true
    runs_on w d f = ap (λ (owners : List Owner). is_running (get_or owners o no_owner).fate) d ∙ (ap (λ (z : Owner). is_running z.fate) (at_own s o w there) ∙ (ap is_running f ∙ r))

    goes : Quiet s t → (w : Owner) → t.owners ≡ set s.owners o w → w.stage ≡ (owner_at s o).stage → w.kind ≡ (owner_at s o).kind → OwnerCovers (view_of c t) b s.stages w → Covering c (view_of c t) b t
    goes q w d f g new = changed c b s t o w e d r q f g new k

    same : Quiet s t → (w : Owner) → t.owners ≡ set s.owners o w → w.stage ≡ (owner_at s o).stage → w.kind ≡ (owner_at s o).kind → w.works ≡ (owner_at s o).works → w.dates.launched ≡ (owner_at s o).dates.launched → (is_fixing w.session ≡ true → is_fixing (session_at s o) ≡ true) → Covering c (view_of c t) b t
    same q w d f g i l m = goes q w d f g (same_owner v (view_of c t) b s.stages (owner_at s o) w (own_later c b s t o w e d r) f g r (ap (λ (z : Works). z.copy) i) (ap (λ (z : Works). z.left) i) l m (k.owners o))

    calm : Quiet s t → (w : Owner) → t.owners ≡ set s.owners o w → w.stage ≡ (owner_at s o).stage → w.kind ≡ (owner_at s o).kind → w.works.copy ≡ (owner_at s o).works.copy → w.dates.launched ≡ (owner_at s o).dates.launched → is_fixing w.session ≡ false → Covering c (view_of c t) b t
    calm q w d f g i l m = goes q w d f g (calm_owner v (view_of c t) b s.stages (owner_at s o) w (own_later c b s t o w e d r) f g r i l m (k.owners o))

    pub does_cover : (w : Owner) (outs : List Out) (new : List Dep) (y : Doing s o w outs new) → IsNoTurn s o w outs new y → DoingNotes c s o w outs new y t → t.owners ≡ set s.owners o w → Covering c (view_of c (sends t o outs)) b (sends t o outs)
    does_cover _ _ _ (listens_one slot x d) n q e = same q _ e refl refl refl refl (λ m. m)
    does_cover _ _ _ (fix_hears f slot x z d g) n q e = same q _ e refl refl refl refl (λ m. ap is_fixing z)
    does_cover _ _ _ (fix_reached f slot x y z d g) n q e = same q _ e refl refl refl refl (λ m. ap is_fixing z)
    does_cover _ _ _ (register_hears f slot x z d a g) n q e = calm q _ e refl refl refl refl refl
    does_cover _ outs _ (register_stores f slot x z d a g) n q e = sends_covering c b o outs t (runs_on _ e refl) (calm q _ e refl refl refl refl refl)
    does_cover _ _ _ (register_reached f slot x y z d g) n q e = absurd q
    does_cover _ _ _ (read_ends f key cell dep x a g) n q e = absurd q
    does_cover _ _ _ (write_ends f key value g x a z) n q e = absurd q
    does_cover _ _ _ (txn_ends x y time a g d) n q e = absurd n
    does_cover _ _ _ (snap_ends x y time a g d) n q e = absurd n
    does_cover _ _ _ (counts_one target) n q e = same q _ e refl refl refl refl (λ m. m)
    does_cover _ _ _ (cuts_one id replica) n q e = same q _ e refl refl refl refl (λ m. sym (without_fixing (session_at s o) id replica) ∙ m)
    does_cover w _ _ (is_closed f) n q d = goes q.1 w d refl refl record {
      copy = λ j m p. covers_later v (view_of c t) (b.stage j) (b.stage j) (owner_at s o).works.copy (own_later c b s t o w e d r) (λ a z. z) ((k.owners o).copy j (inl r) p);
      dead = (k.owners o).dead;
      own = λ x m p. absurd (stub_not_call x m);
      fixing = λ m. absurd (cut_not_running m);
    }
      where
        stub_not_call : (x : Op) → (owner_at s o).kind ≡ kind.Calling x → ⊥
        stub_not_call x m = false≢true (sym (ap is_stub m) ∙ q.0.stub)

        cut_not_running : is_running f ≡ true → ⊥
        cut_not_running m = false≢true (sym (ap is_running q.0.cut) ∙ m)
    does_cover _ _ _ forgets_all n q e = absurd n
    does_cover _ _ _ (turns x outs y) n q e = absurd n
    does_cover _ outs _ (stub_asks attempt shards f g) n q e = sends_covering c b o outs t (runs_on _ e refl) (calm q _ e refl refl refl refl refl)

    pub reaches_cover : (w : Owner) → w.stage ≡ (owner_at s o).stage → w.kind ≡ (owner_at s o).kind → w.works.copy ≡ (owner_at s o).works.copy → w.dates.launched ≡ (owner_at s o).dates.launched → is_fixing w.session ≡ false → Quiet s t → t.owners ≡ set s.owners o w → Covering c (view_of c t) b t
    reaches_cover w f g i l m q d = calm q w d f g i l m

-- a stub plans its works once its stage's attempt is settled
pub settles_cover : (c : Config) (b : CallsBehind) (s : State) (o slot : ℕ) (attempt : Attempt) (shards : List ℕ) (outcome : Outcome) → is_running (owner_at s o).fate ≡ true → Covering c (view_of c s) b s
    → Covering c (view_of c (plans_stub (sends (listens s o slot) o (tells_decision attempt outcome shards)) o)) b (plans_stub (sends (listens s o slot) o (tells_decision attempt outcome shards)) o)
settles_cover c b s o slot attempt shards outcome r k = calm c b y o ry ky (plans_stub y o) (record { steps = refl; moments = refl; marks = refl }) (record { stages = refl; pipes = refl; history = refl }) _ refl refl refl refl refl refl
  where
    x : State
    x = listens s o slot

    y : State
    y = sends x o (tells_decision attempt outcome shards)

    kx : Covering c (view_of c x) b x
    kx = same c b s o r k x (record { steps = refl; moments = refl; marks = refl }) (record { stages = refl; pipes = refl; history = refl }) (listened s o slot) refl refl refl refl refl (λ m. m)

    rx : is_running (owner_at x o).fate ≡ true
    rx = grind (arith, looks, r)

    ky : Covering c (view_of c y) b y
    ky = sends_covering c b o (tells_decision attempt outcome shards) x rx kx

    ry : is_running (owner_at y o).fate ≡ true
    ry = ap (λ (w : Owner). is_running w.fate) (sends_kept x o (tells_decision attempt outcome shards) o) ∙ rx
