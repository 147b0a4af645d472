-- What contexts tell of the reads that left a dependency: the context of a stage, and the copy of the call that it
-- has under way, cover each read of the stage that has ended, until a majority holds what it read.
use Rattle.std.proofs.Common.{◌≡◌, ℕ, ◌-◌, ◌<◌, ◌⊎◌, inl, inr, Bool, true, false, List, [], ◌∷◌, get_or, All, Some, refl, sym, ap, ◌∙◌, subst, arith}
use Rattle.std.proofs.lemmas.Bool.{true≢false}
use Rattle.std.proofs.lemmas.Bool.Decides.{nat_tests}
use Rattle.std.proofs.lemmas.List.Elements.{All-head, All-tail}
use Rattle.std.specs.Prelude.{if◌then◌else◌}
use Rattle.rss_names.specs.declared.service.Key.{Key}
use Rattle.rss_names.specs.declared.service.ServiceId.{ServiceId}
use Rattle.rss_names.specs.declared.service.ServiceId.TheVariants.{Txn, Reg}
use Rattle.rss_names.specs.Services.{same_service}
use Rattle.carstamps.specs.declared.carstamp.Carstamp.{Carstamp}
use Rattle.carstamps.specs.Stamp.{stamp_le}
use Rattle.causal_context.specs.declared.dep.Dep.{Dep}
use Rattle.causal_context.specs.Deps.{deps_of}
use Rattle.causal_context.specs.Seen.{Seen}
use Rattle.rss_model.specs.declared.op.Op.{Op}
use Rattle.rss_model.specs.declared.op.Op.TheVariants as op
use Rattle.rss_wire.specs.declared.messages.RegReply.{RegReply}
use Rattle.rss_tables.specs.RegisterSession.{RegSession}
use Rattle.rss_tables.specs.Works.{others_than}
use Rattle.rss_tables.specs.declared.register_session.RegEnd.TheVariants as ends
use Rattle.rss_tables.specs.declared.register_session.RegPhase.TheVariants as phase
use Rattle.rss_tables.specs.declared.register_session.RegWork.TheVariants as work
use Rattle.rss_machine.specs.Marks.{is_held}
use Rattle.rss_machine.specs.Standing.{is_running}
use Rattle.rss_machine.specs.State.{State, Owner, no_stage, owner_at, service_index, replicas_at}
use Rattle.rss_machine.specs.declared.session.OwnerKind.TheVariants as kind
use Rattle.rss_machine.specs.declared.session.Session.TheVariants as session
use Rattle.rss_machine.specs.declared.state.OwnerFate.{OwnerFate}
use Rattle.rss_machine.specs.declared.state.OwnerFate.TheVariants.{Ended}
use Rattle.world_laws.proofs.Holders.{held_less}
use Rattle.place_laws.proofs.Placed.{IsRegisterOp}

-- where an owner's stage stands; the stages of numbers 0 and 1 stand in one place
abbrev pub place_of : Owner → ℕ
place_of w = w.stage - 1

-- the context of the stage at a place
abbrev pub context_at : State → ℕ → Seen
context_at s place = (get_or s.stages place no_stage).context

-- a majority holds a stamp of a register
abbrev pub IsHeld : State → Key → Carstamp → Type 0
IsHeld s key z = is_held (replicas_at s key.service) key z ≡ true

-- a dependency is on a register, with no smaller stamp; and one of some is
pub record IsOn (key : Key) (z : Carstamp) (dep : Dep) : Type 0 where
  pub on : dep.key ≡ key
  pub above : stamp_le z dep.stamp ≡ true

abbrev pub HasDep : Key → Carstamp → List Dep → Type 0
HasDep key z [] = ⊥
HasDep key z (dep ∷ deps) = IsOn key z dep ⊎ HasDep key z deps

-- a stamp is covered by dependencies: a majority holds it, or one of them is on it
abbrev pub Covered : State → Key → Carstamp → List Dep → Type 0
Covered s key z deps = IsHeld s key z ⊎ HasDep key z deps

pub itself : (id : ServiceId) → same_service id id ≡ true
itself (Txn n) = grind (arith, nat_tests)
itself (Reg n) = grind (arith, nat_tests)

-- where there are none, a majority holds it
pub covered_none : (s : State) (key : Key) (z : Carstamp) → Covered s key z [] → IsHeld s key z
covered_none s key z (inl h) = h
covered_none s key z (inr h) = absurd h

pub covered_empty : (s : State) (key : Key) (z : Carstamp) (deps : List Dep) → deps ≡ [] → Covered s key z deps → IsHeld s key z
covered_empty s key z deps e h = covered_none s key z (subst (Covered s key z) e h)

-- where a majority holds those on the registers of a service, it holds what they cover
pub covered_held : (s : State) (id : ServiceId) (key : Key) (z : Carstamp) → key.service ≡ id → (deps : List Dep) → All (λ (dep : Dep). is_held (replicas_at s id) dep.key dep.stamp ≡ true) (deps_of id deps) → Covered s key z deps → IsHeld s key z
covered_held s id key z e deps h (inl d) = d
covered_held s id key z e [] h (inr d) = absurd d
covered_held s id key z e (dep ∷ deps) h (inr d) = by_service (same_service id dep.key.service) refl h d (λ g x. covered_held s id key z e deps g x)
  where
    Q : Dep → Type 0
    Q x = is_held (replicas_at s id) x.key x.stamp ≡ true

    same : IsOn key z dep → same_service id dep.key.service ≡ true
    same i = subst (λ (x : ServiceId). same_service id x ≡ true) (sym (ap (λ (k : Key). k.service) i.on ∙ e)) (itself id)

    here : IsOn key z dep → is_held (replicas_at s id) dep.key dep.stamp ≡ true → IsHeld s key z
    here i g =
        held_less key z dep.stamp (replicas_at s key.service) i.above
        (subst (λ (x : ServiceId). is_held (replicas_at s x) key dep.stamp ≡ true) (sym e) (subst (λ (k : Key). is_held (replicas_at s id) k dep.stamp ≡ true) i.on g))

    by_service : (b : Bool) → same_service id dep.key.service ≡ b → All Q (if b then dep ∷ deps_of id deps else deps_of id deps) → IsOn key z dep ⊎ HasDep key z deps → (All Q (deps_of id deps) → Covered s key z deps → IsHeld s key z) → IsHeld s key z
    by_service true f g (inl i) ih = here i (All-head Q dep (deps_of id deps) g)
    by_service true f g (inr x) ih = ih (All-tail Q dep (deps_of id deps) g) (inr x)
    by_service false f g (inl i) ih = absurd (true≢false (sym (same i) ∙ f))
    by_service false f g (inr x) ih = ih g (inr x)

-- a read of a register that has ended and left what it read as a dependency; each place has a service
pub record IsLeft (id : ℕ → ServiceId) (w : Owner) (key : Key) (z : Carstamp) : Type 0 where
  pub of_kind : w.kind ≡ kind.Calling (op.Read key)
  pub ended : w.fate ≡ Ended
  pub at_home : key.service ≡ id (place_of w)
  pub round : RegSession
  pub under_way : w.session ≡ session.Register round
  pub of_work : round.work ≡ work.Read key
  pub cell : RegReply
  pub dep : Dep
  pub in_phase : round.phase ≡ phase.Done (ends.Read cell (Some dep))
  pub stamp : cell.stamp ≡ z

-- a running owner has left nothing
running_not_ended : (f : OwnerFate) → is_running f ≡ true → f ≡ Ended → ⊥
running_not_ended f r e = true≢false (sym r ∙ ap is_running e)

pub not_left : (id : ℕ → ServiceId) (w : Owner) (key : Key) (z : Carstamp) → is_running w.fate ≡ true → IsLeft id w key z → ⊥
not_left id w key z r h = running_not_ended w.fate r h.ended

-- of the services used last none is another than this one
abbrev pub OnlyLast : ServiceId → Seen → Type 0
OnlyLast id seen = others_than id seen.last.services ≡ []

-- what contexts tell; and calls are on registers of the service of their place, without a plan, and no fence
-- statement is under way
pub record Coupled (id : ℕ → ServiceId) (Was : Key → Carstamp → ℕ → Type 0) (s : State) : Type 0 where
  pub ops : (o : ℕ) (x : Op) → (owner_at s o).kind ≡ kind.Calling x → IsRegisterOp (id (place_of (owner_at s o))) x
  pub fences : (o : ℕ) → (owner_at s o).kind ≡ kind.Fencing → is_running (owner_at s o).fate ≡ true → ⊥
  pub contexts : (place : ℕ) → OnlyLast (id place) (context_at s place)
  pub works : (o : ℕ) (x : Op) → (owner_at s o).kind ≡ kind.Calling x → (owner_at s o).works.left ≡ []
  pub stage : (a : ℕ) (key : Key) (z : Carstamp) → IsLeft id (owner_at s a) key z → Covered s key z (context_at s (place_of (owner_at s a))).deps
  pub copy : (a b : ℕ) (key : Key) (z : Carstamp) (x : Op) → IsLeft id (owner_at s a) key z → place_of (owner_at s a) ≡ place_of (owner_at s b) → (owner_at s b).kind ≡ kind.Calling x → is_running (owner_at s b).fate ≡ true → Covered s key z (owner_at s b).works.copy.deps
  pub launched : (a b : ℕ) (key : Key) (z : Carstamp) (x : Op) → IsLeft id (owner_at s a) key z → place_of (owner_at s a) ≡ place_of (owner_at s b) → (owner_at s b).kind ≡ kind.Calling x → a < b → 0 < (owner_at s b).dates.launched → Was key z (owner_at s b).dates.launched

-- how an owner may change where contexts stay
pub record OwnerChange (id : ℕ → ServiceId) (Was : Key → Carstamp → ℕ → Type 0) (s : State) (v w : Owner) : Type 0 where
  pub stage : w.stage ≡ v.stage
  pub of_kind : w.kind ≡ v.kind
  pub works : (x : Op) → v.kind ≡ kind.Calling x → v.works.left ≡ [] → w.works.left ≡ []
  pub left : (key : Key) (z : Carstamp) → IsLeft id w key z → IsLeft id v key z
  pub runs : is_running w.fate ≡ true → is_running v.fate ≡ true
  pub copy : (key : Key) (z : Carstamp) (x : Op) → key.service ≡ id (place_of v) → v.kind ≡ kind.Calling x → is_running w.fate ≡ true → Covered s key z v.works.copy.deps → Covered s key z w.works.copy.deps
  pub launched : (w.dates.launched ≡ v.dates.launched) ⊎ (((key : Key) (z : Carstamp) → Covered s key z v.works.copy.deps → Was key z w.dates.launched) × (is_running v.fate ≡ true))

-- a call that begins takes its stage's context along
pub record NewCall (id : ℕ → ServiceId) (s : State) (w : Owner) : Type 0 where
  pub op : Op
  pub of_kind : w.kind ≡ kind.Calling op
  pub at_home : IsRegisterOp (id (place_of w)) op
  pub works : w.works.left ≡ []
  pub running : is_running w.fate ≡ true
  pub copy : w.works.copy.deps ≡ (context_at s (place_of w)).deps
  pub launched : w.dates.launched ≡ 0

-- an owner changes, is no call, or begins
pub data OwnerStep (id : ℕ → ServiceId) (Was : Key → Carstamp → ℕ → Type 0) (s : State) (v w : Owner) : Type 0 where
  changes : OwnerChange id Was s v w → OwnerStep id Was s v w
  no_call : ((x : Op) → w.kind ≡ kind.Calling x → ⊥) → (w.kind ≡ kind.Fencing → is_running w.fate ≡ true → ⊥) → OwnerStep id Was s v w
  new_call : NewCall id s w → OwnerStep id Was s v w

-- replicas that stay, or hold more
abbrev pub HoldsOn : State → State → Type 0
HoldsOn s t = (key : Key) (z : Carstamp) → IsHeld s key z → IsHeld t key z

pub holds_same : (s t : State) → t.replicas ≡ s.replicas → HoldsOn s t
holds_same s t e key z h = subst (λ (all : List (List (List RegReply))). is_held (get_or all (service_index key.service) []) key z ≡ true) (sym e) h

pub covered_on : (s t : State) (key : Key) (z : Carstamp) (deps : List Dep) → HoldsOn s t → Covered s key z deps → Covered t key z deps
covered_on s t key z deps f (inl h) = inl (f key z h)
covered_on s t key z deps f (inr h) = inr h

module _ (id : ℕ → ServiceId) (Was : Key → Carstamp → ℕ → Type 0) where
  -- what had ended before
  record WasLeft (v w : Owner) (key : Key) (z : Carstamp) : Type 0 where
    left : IsLeft id v key z
    place : place_of w ≡ place_of v

  was_left : (s : State) (v w : Owner) (key : Key) (z : Carstamp) → OwnerStep id Was s v w → IsLeft id w key z → WasLeft v w key z
  was_left s v w key z (changes k) l = record { left = k.left key z l; place = ap (λ (n : ℕ). n - 1) k.stage }
  was_left s v w key z (no_call f g) l = absurd (f (op.Read key) l.of_kind)
  was_left s v w key z (new_call f) l = absurd (not_left id w key z f.running l)

  same_op : (x y : Op) → kind.Calling x ≡ kind.Calling y → x ≡ y
  same_op x y e = grind (arith, e)

  fence_no_call : (x : Op) → kind.Calling x ≡ kind.Fencing → ⊥
  fence_no_call x e = cc

  ops_step : (s : State) (v w : Owner) (x : Op) → OwnerStep id Was s v w → w.kind ≡ kind.Calling x → ((y : Op) → v.kind ≡ kind.Calling y → IsRegisterOp (id (place_of v)) y) → IsRegisterOp (id (place_of w)) x
  ops_step s v w x (changes k) e h = subst (λ (n : ℕ). IsRegisterOp (id (n - 1)) x) (sym k.stage) (h x (sym k.of_kind ∙ e))
  ops_step s v w x (no_call f g) e h = absurd (f x e)
  ops_step s v w x (new_call f) e h = subst (IsRegisterOp (id (place_of w))) (same_op f.op x (sym f.of_kind ∙ e)) f.at_home

  fences_step : (s : State) (v w : Owner) → OwnerStep id Was s v w → w.kind ≡ kind.Fencing → is_running w.fate ≡ true → (v.kind ≡ kind.Fencing → is_running v.fate ≡ true → ⊥) → ⊥
  fences_step s v w (changes k) e r h = h (sym k.of_kind ∙ e) (k.runs r)
  fences_step s v w (no_call f g) e r h = g e r
  fences_step s v w (new_call f) e r h = fence_no_call f.op (sym f.of_kind ∙ e)

  works_step : (s : State) (o : ℕ) (v w : Owner) (x : Op) → OwnerStep id Was s v w → w.kind ≡ kind.Calling x → ((y : Op) → v.kind ≡ kind.Calling y → v.works.left ≡ []) → w.works.left ≡ []
  works_step s o v w x (changes k) e h = k.works x (sym k.of_kind ∙ e) (h x (sym k.of_kind ∙ e))
  works_step s o v w x (no_call f g) e h = absurd (f x e)
  works_step s o v w x (new_call f) e h = f.works

  module _ (s : State) (h : Coupled id Was s) (a b : ℕ) (key : Key) (z : Carstamp) (x : Op) (l : IsLeft id (owner_at s a) key z) (w : Owner) (e : w.kind ≡ kind.Calling x) where
    copy_step : OwnerStep id Was s (owner_at s b) w → place_of (owner_at s a) ≡ place_of w → is_running w.fate ≡ true → Covered s key z w.works.copy.deps
    copy_step (changes k) p r =
        let same : place_of w ≡ place_of (owner_at s b) = ap (λ (n : ℕ). n - 1) k.stage in
        k.copy key z x (l.at_home ∙ ap id (p ∙ same)) (sym k.of_kind ∙ e) r (h.copy a b key z x l (p ∙ same) (sym k.of_kind ∙ e) (k.runs r))
    copy_step (no_call f g) p r = absurd (f x e)
    copy_step (new_call f) p r = subst (Covered s key z) (sym f.copy) (subst (λ (i : ℕ). Covered s key z (context_at s i).deps) p (h.stage a key z l))

    launched_step : OwnerStep id Was s (owner_at s b) w → place_of (owner_at s a) ≡ place_of w → a < b → 0 < w.dates.launched → Was key z w.dates.launched
    launched_step (no_call f g) p m q = absurd (f x e)
    launched_step (new_call f) p m q = absurd (let g = f.launched in omega (arith, g, q))
    launched_step (changes k) p m q = by_launch k.launched
      where
        same : place_of w ≡ place_of (owner_at s b)
        same = ap (λ (n : ℕ). n - 1) k.stage

        by_launch : (w.dates.launched ≡ (owner_at s b).dates.launched) ⊎ (((y : Key) (u : Carstamp) → Covered s y u (owner_at s b).works.copy.deps → Was y u w.dates.launched) × (is_running (owner_at s b).fate ≡ true)) → Was key z w.dates.launched
        by_launch (inl g) = subst (Was key z) (sym g) (h.launched a b key z x l (p ∙ same) (sym k.of_kind ∙ e) m (subst (λ (n : ℕ). 0 < n) g q))
        by_launch (inr g) = g.0 key z (h.copy a b key z x l (p ∙ same) (sym k.of_kind ∙ e) g.1)

  pub each_coupled : (s t : State) → HoldsOn s t → ((place : ℕ) → context_at t place ≡ context_at s place) → ((i : ℕ) → OwnerStep id Was s (owner_at s i) (owner_at t i)) → Coupled id Was s → Coupled id Was t
  each_coupled s t f g k h = record {
    ops = λ o x e. ops_step s (owner_at s o) (owner_at t o) x (k o) e (λ y. h.ops o y);
    fences = λ o e r. fences_step s (owner_at s o) (owner_at t o) (k o) e r (h.fences o);
    contexts = λ place. subst (OnlyLast (id place)) (sym (g place)) (h.contexts place);
    works = λ o x e. works_step s o (owner_at s o) (owner_at t o) x (k o) e (λ y. h.works o y);
    stage = λ a key z l. covered_on s t key z (context_at t (place_of (owner_at t a))).deps f (at_stage a key z (was_left s (owner_at s a) (owner_at t a) key z (k a) l));
    copy = λ a b key z x l e d r. covered_on s t key z (owner_at t b).works.copy.deps f (at_copy a b key z x (was_left s (owner_at s a) (owner_at t a) key z (k a) l) e d r);
    launched = λ a b key z x l e d m p. (at_launch a b key z x (was_left s (owner_at s a) (owner_at t a) key z (k a) l) e d m p);
  }
    where
      at_stage : (a : ℕ) (key : Key) (z : Carstamp) → WasLeft (owner_at s a) (owner_at t a) key z → Covered s key z (context_at t (place_of (owner_at t a))).deps
      at_stage a key z l = subst (λ (seen : Seen). Covered s key z seen.deps) (sym (g (place_of (owner_at t a)) ∙ ap (context_at s) l.place)) (h.stage a key z l.left)

      at_copy : (a b : ℕ) (key : Key) (z : Carstamp) (x : Op) → WasLeft (owner_at s a) (owner_at t a) key z → place_of (owner_at t a) ≡ place_of (owner_at t b) → (owner_at t b).kind ≡ kind.Calling x → is_running (owner_at t b).fate ≡ true → Covered s key z (owner_at t b).works.copy.deps
      at_copy a b key z x l e d r = copy_step s h a b key z x l.left (owner_at t b) d (k b) (sym l.place ∙ e) r

      at_launch : (a b : ℕ) (key : Key) (z : Carstamp) (x : Op) → WasLeft (owner_at s a) (owner_at t a) key z → place_of (owner_at t a) ≡ place_of (owner_at t b) → (owner_at t b).kind ≡ kind.Calling x → a < b → 0 < (owner_at t b).dates.launched → Was key z (owner_at t b).dates.launched
      at_launch a b key z x l e d m p = launched_step s h a b key z x l.left (owner_at t b) d (k b) (sym l.place ∙ e) m p

  -- an owner that keeps what it has of all this
  pub same_change : (s : State) (v w : Owner) → w.stage ≡ v.stage → w.kind ≡ v.kind → w.fate ≡ v.fate → w.session ≡ v.session → w.works.left ≡ v.works.left → w.works.copy.deps ≡ v.works.copy.deps → w.dates.launched ≡ v.dates.launched → OwnerChange id Was s v w
  same_change s v w a b d e l m p = record {
    stage = a;
    of_kind = b;
    works = λ x f g. l ∙ g;
    left = λ key z h. record { of_kind = sym b ∙ h.of_kind; ended = sym d ∙ h.ended; at_home = h.at_home ∙ ap (λ (n : ℕ). id (n - 1)) a; round = h.round; under_way = sym e ∙ h.under_way; of_work = h.of_work; cell = h.cell; dep = h.dep; in_phase = h.in_phase; stamp = h.stamp };
    runs = λ r. subst (λ (f : OwnerFate). is_running f ≡ true) d r;
    copy = λ key z x i f r h. subst (Covered s key z) (sym m) h;
    launched = inl p;
  }

  -- a running owner that keeps its works, and has something else under way
  pub turn_change : (s : State) (v w : Owner) → is_running v.fate ≡ true → w.stage ≡ v.stage → w.kind ≡ v.kind → w.fate ≡ v.fate → w.works.left ≡ v.works.left → w.works.copy.deps ≡ v.works.copy.deps → w.dates.launched ≡ v.dates.launched → OwnerChange id Was s v w
  turn_change s v w r a b d l m p = record {
    stage = a;
    of_kind = b;
    works = λ x f g. l ∙ g;
    left = λ key z h. absurd (not_left id w key z (subst (λ (f : OwnerFate). is_running f ≡ true) (sym d) r) h);
    runs = λ q. r;
    copy = λ key z x i f q h. subst (Covered s key z) (sym m) h;
    launched = inl p;
  }

  -- an owner that is over, and is no call or had other things under way
  pub over_change : (s : State) (v w : Owner) → w.stage ≡ v.stage → w.kind ≡ v.kind → is_running w.fate ≡ false → ((key : Key) (z : Carstamp) → IsLeft id w key z → ⊥) → w.works.left ≡ v.works.left → w.dates.launched ≡ v.dates.launched → OwnerChange id Was s v w
  over_change s v w a b d e l p = record {
    stage = a;
    of_kind = b;
    works = λ x f g. l ∙ g;
    left = λ key z h. absurd (e key z h);
    runs = λ q. absurd (true≢false (sym q ∙ d));
    copy = λ key z x i f q h. absurd (true≢false (sym q ∙ d));
    launched = inl p;
  }
