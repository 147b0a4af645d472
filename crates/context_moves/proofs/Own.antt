-- An owner that runs changes, and nothing else; and requests are sent.
use Rattle.std.proofs.Common.{◌≡◌, ℕ, ◌-◌, ◌<◌, inl, true, List, [], ◌∷◌, length, get_or, refl, sym, ap, ◌∙◌, subst, arith}
use Rattle.std.proofs.Math.ListN.{set}
use Rattle.pipeline_lang.specs.declared.config.Config.{Config}
use Rattle.rss_model.specs.declared.history.Entry.{Entry}
use Rattle.rss_tables.specs.Outs.{Out}
use Rattle.rss_tables.specs.Pipes.{Pipe}
use Rattle.rss_machine.specs.Moves.{sends, sends_one}
use Rattle.rss_machine.specs.Standing.{is_running, is_over}
use Rattle.rss_machine.specs.State.{State, Owner, Stage, no_stage, no_owner, owner_at}
use Rattle.world_laws.specs.Calls.{is_call, is_stub}
use Rattle.world_laws.proofs.Looks.{looks}
use Rattle.world_laws.proofs.Told.{each_set}
use Rattle.world_laws.proofs.StageMoves.{Quiet}
use Rattle.order_laws.specs.CallsBehind.{CallsBehind}
use Rattle.causal_context.specs.Seen.{Seen}
use Rattle.rss_model.specs.declared.op.Op.{Op}
use Rattle.rss_machine.specs.Session.{service_of}
use Rattle.rss_machine.specs.Slots.{with_current}
use Rattle.rss_machine.specs.declared.session.OwnerKind.TheVariants as kind
use Rattle.world_laws.proofs.PlannedOwners.{is_fixing}
use Rattle.coupling_laws.specs.Calls.{View, Grows}
use Rattle.coupling_laws.specs.Covers.{Covers, IsAt}
use Rattle.context_moves.specs.Views.{view_of}
use Rattle.context_moves.specs.Covering.{IsOwn, IsCallAt, OwnerCovers, StageCovers, IsStubOf, Parts, Covering}
use Rattle.context_moves.proofs.Later.{SameClock, view_kept, is_ended, running_not_ended, owner_later, pipe_later, covers_later}
use Rattle.context_moves.proofs.Tables.{both_of}

-- parts that are the same
pub parts_to : (c : Config) (v : View) (b : CallsBehind) (s t : State) (owners : List Owner) → Quiet s t → t.owners ≡ owners → Parts c v b owners s.stages s.pipes s.history → Covering c v b t
parts_to c v b s t owners q e k =
    subst (λ (x : List Owner). Parts c v b x t.stages t.pipes t.history) (sym e)
    (subst (λ (x : List Stage). Parts c v b owners x t.pipes t.history) (sym q.stages)
    (subst (λ (x : List Pipe). Parts c v b owners s.stages x t.history) (sym q.pipes)
    (subst (λ (x : List Entry). Parts c v b owners s.stages s.pipes x) (sym q.history) k)))

-- a stage, where the view grows, and stubs stay
pub stage_later : (c : Config) (v v' : View) (b : CallsBehind) (h : List Entry) (all all' : List Owner) (n : ℕ) (x : Stage) → Grows v v' → ((o : ℕ) → IsStubOf all n o → IsStubOf all' n o) → StageCovers c v b h all n x → StageCovers c v' b h all' n x
stage_later c v v' b h all all' n x g f k = record {
  context = covers_later v v' (b.stage n) (b.stage n) x.context g (λ a e. e) k.context;
  unborn = k.unborn;
  born = k.born;
  stub_of = λ o e. f o (k.stub_of o e);
  exit = k.exit;
}

module _ (c : Config) (b : CallsBehind) (s t : State) (o : ℕ) (w : Owner) (e : SameClock s t) (d : t.owners ≡ set s.owners o w) (r : is_running (owner_at s o).fate ≡ true) where
  each : (Q : ℕ → Owner → Type 0) → Q o w → ((i : ℕ) → Q i (owner_at s i)) → (i : ℕ) → Q i (owner_at t i)
  each Q f g = subst (λ (owners : List Owner). (i : ℕ) → Q i (get_or owners i no_owner)) (sym d) (each_set Q s.owners o w f g)

  ended_same : (a : ℕ) → is_ended (owner_at s a) ≡ true → owner_at t a ≡ owner_at s a
  ended_same = each (λ i v. is_ended (owner_at s i) ≡ true → v ≡ owner_at s i) (λ g. absurd (running_not_ended (owner_at s o).fate r (both_of (is_call (owner_at s o).kind) _ g).1)) (λ i g. refl)

  pub own_later : Grows (view_of c s) (view_of c t)
  own_later = view_kept c s t e ended_same

  pub changed : Quiet s t → w.stage ≡ (owner_at s o).stage → w.kind ≡ (owner_at s o).kind → OwnerCovers (view_of c t) b s.stages w → Covering c (view_of c s) b s → Covering c (view_of c t) b t
  changed q x y new k = parts_to c (view_of c t) b s t (set s.owners o w) q d record {
    owners = each_set (λ i v. OwnerCovers (view_of c t) b s.stages v) s.owners o w new (λ i. owner_later (view_of c s) (view_of c t) b b s.stages s.stages (owner_at s i) own_later (λ n a h m f. f) (λ f. f) (k.owners i));
    stages = λ n. stage_later c (view_of c s) (view_of c t) b s.history s.owners (set s.owners o w) n (get_or s.stages (n - 1) no_stage) own_later (still n) (k.stages n);
    pipes = λ p. pipe_later (view_of c s) (view_of c t) b b p _ own_later (λ number a f. f) (k.pipes p);
    unused = k.unused;
    long = k.long;
  }
    where
      still : (n i : ℕ) → IsStubOf s.owners n i → IsStubOf (set s.owners o w) n i
      still n i h = record {
        stub = ap is_stub (same i).0 ∙ h.stub;
        of_stage = ap (λ (z : ℕ). z - 1) (same i).1 ∙ h.of_stage;
      }
        where
          same : (i : ℕ) → ((get_or (set s.owners o w) i no_owner).kind ≡ (owner_at s i).kind) × ((get_or (set s.owners o w) i no_owner).stage ≡ (owner_at s i).stage)
          same = each_set (λ j v. (v.kind ≡ (owner_at s j).kind) × (v.stage ≡ (owner_at s j).stage)) s.owners o w (y, x) (λ j. (refl, refl))

-- where the copy covers what it should, and what is said of a launched call and of a round of dependencies holds
pub new_owner : (v : View) (b : CallsBehind) (stages : List Stage) (x w : Owner) → w.stage ≡ x.stage → w.kind ≡ x.kind → is_running x.fate ≡ true → ((n : ℕ) → n - 1 ≡ x.stage - 1 → Covers v (b.stage n) w.works.copy)
    → ((op : Op) → x.kind ≡ kind.Calling op → 0 < w.dates.launched → IsOwn w op) → (is_fixing w.session ≡ true → w.works.left ≡ [] → IsCallAt w) → (v' : View) → OwnerCovers v' b stages x → OwnerCovers v b stages w
new_owner v b stages x w e y r z own fix v' k = record {
  copy = λ n g m. z n (m ∙ ap (λ (j : ℕ). j - 1) e);
  dead = λ g. ap (λ (j : ℕ). is_over (get_or stages (j - 1) no_stage).life) e ∙ k.dead (sym (ap is_stub y) ∙ g);
  own = λ op g m l. own op (sym y ∙ g) l;
  fixing = λ g m l. fix m l;
}

-- an owner that keeps its copy, its dates and its works, and begins no round of dependencies
pub same_owner : (v v' : View) (b : CallsBehind) (stages : List Stage) (x w : Owner) → Grows v v' → w.stage ≡ x.stage → w.kind ≡ x.kind → is_running x.fate ≡ true → w.works.copy ≡ x.works.copy → w.works.left ≡ x.works.left → w.dates.launched ≡ x.dates.launched
    → (is_fixing w.session ≡ true → is_fixing x.session ≡ true) → OwnerCovers v b stages x → OwnerCovers v' b stages w
same_owner v v' b stages x w g e y r z l d f k =
    new_owner v' b stages x w e y r (λ n m. subst (Covers v' (b.stage n)) (sym z) (covers_later v v' (b.stage n) (b.stage n) x.works.copy g (λ a i. i) (k.copy n (inl r) m)))
    (λ op m p. let a = k.own op m r (subst (λ (j : ℕ). 0 < j) d p) in record { at = subst (λ (seen : Seen). IsAt seen (service_of op)) (sym z) a.at; none = ap (λ (seen : Seen). seen.deps) z ∙ a.none })
    (λ m p. let a = k.fixing r (f m) (sym l ∙ p) in record { op = a.op; number = a.number; is = a.is; of_kind = y ∙ a.of_kind; at = subst (λ (seen : Seen). IsAt seen (service_of a.op)) (sym z) a.at }) v k

-- requests are sent
pub sends_covering : (c : Config) (b : CallsBehind) (o : ℕ) (outs : List Out) (s : State) → is_running (owner_at s o).fate ≡ true → Covering c (view_of c s) b s → Covering c (view_of c (sends s o outs)) b (sends s o outs)
sends_covering c b o [] s r k = k
sends_covering c b o (out ∷ outs) s r k = sends_covering c b o outs t (runs s o out r) (changed c b s t o _ clock refl r (record { stages = refl; pipes = refl; history = refl }) refl refl new k)
  where
    t : State
    t = sends_one s o out

    clock : SameClock s t
    clock = record { steps = refl; moments = refl; marks = refl }

    runs : (s : State) (o : ℕ) (out : Out) → is_running (owner_at s o).fate ≡ true → is_running (owner_at (sends_one s o out) o).fate ≡ true
    runs s o out r = grind (arith, looks, r)

    new : OwnerCovers (view_of c t) b s.stages (record (owner_at s o) { currents = with_current (owner_at s o).currents out.slot (length s.net) })
    new = same_owner (view_of c s) (view_of c t) b s.stages (owner_at s o) _ (own_later c b s t o _ clock refl r) refl refl r refl refl refl (λ f. f) (k.owners o)
