-- Views grow as steps are counted and requests are served: the step of a call that has come stays.
use Rattle.std.proofs.Common.{◌≡◌, ℕ, zero, suc, ◌+◌, ◌-◌, ◌<◌, ◌≤◌, ◌⊎◌, inl, inr, Bool, true, false, List, [], ◌∷◌, ◌++◌, length, get_or, Option, Some, None, refl, sym, ap, ◌∙◌, subst, arith}
use Rattle.std.specs.Prelude.{◌&&◌, nat_le, if◌then◌else◌}
use Rattle.std.specs.Option.{unwrap_or}
use Rattle.std.proofs.Math.ListN.{set}
use Rattle.std.proofs.lemmas.Bool.Decides.{nat_tests}
use Rattle.truetime.specs.Reading.{Reading}
use Rattle.truetime.specs.TrueMoment.{moment_after}
use Rattle.rss_names.specs.declared.service.Key.{Key}
use Rattle.rss_names.specs.declared.service.ServiceId.{ServiceId}
use Rattle.carstamps.specs.declared.carstamp.Carstamp.{Carstamp}
use Rattle.carstamps.specs.Stamp.{stamp_le, opening_stamp}
use Rattle.pipeline_lang.specs.declared.config.Config.{Config}
use Rattle.rss_model.specs.declared.history.Entry.{Entry}
use Rattle.rss_wire.specs.declared.messages.RegReply.{RegReply}
use Rattle.rss_wire.specs.declared.messages.Request.{Request}
use Rattle.rss_machine.specs.Marks.{first_mark, noted, notes_keys, is_noted, majority_stamp, is_store, raised_by}
use Rattle.rss_machine.specs.Moves.{ticks, serves_replica, notes_served}
use Rattle.rss_machine.specs.Places.{effect_step, is_read_work}
use Rattle.rss_machine.specs.Session.{Session}
use Rattle.rss_machine.specs.declared.session.Session.TheVariants as session
use Rattle.rss_machine.specs.State.{State, Owner, Stage, no_stage, no_owner, owner_at, stage_at, replicas_at}
use Rattle.rss_machine.specs.Times.{first_above, marked_step, step_of_time}
use Rattle.rss_machine.specs.declared.state.Mark.{Mark}
use Rattle.shard_event_laws.specs.Known.{moment_at}
use Rattle.world_laws.specs.Calls.{is_stub}
use Rattle.world_laws.proofs.Looks.{looks, get_or_set}
use Rattle.world_laws.proofs.StepsOfTimes.{above_later}
use Rattle.world_laws.proofs.Told.{each_set}
use Rattle.order_laws.specs.CallsBehind.{CallsBehind}
use Rattle.coupling_laws.specs.Calls.{View, Grows}
use Rattle.context_moves.specs.Views.{view_of, told_time, told_stamp, work_key, call_of, step_of, told_step}
use Rattle.context_moves.specs.Covering.{OwnerCovers, IsStubOf, Parts, Covering}
use Rattle.context_moves.proofs.Later.{is_ended, owner_later, pipe_later}
use Rattle.context_moves.proofs.Own.{stage_later}

-- a step that has come stays
pub record Stays (s t : State) : Type 0 where
  pub steps : s.steps ≤ t.steps
  pub times : (time : ℕ) → step_of_time s time ≤ s.steps → step_of_time t time ≡ step_of_time s time
  pub marks : (key : Key) (z : Carstamp) → marked_step s key z ≤ s.steps → marked_step t key z ≡ marked_step s key z
  pub moments : (i : ℕ) → i ≤ s.steps → moment_at t i ≡ moment_at s i

effect_marked : (b : Bool) (m l k : ℕ) → effect_step b m l ≤ k → m ≤ k
effect_marked true m l k e = grind (arith, e)
effect_marked false m l k e = e

pub told_stays : (s t : State) → Stays s t → (w : Owner) (x : Session) → told_step s w x ≤ s.steps → told_step t w x ≡ told_step s w x
told_stays s t h w session.Idle l = refl
told_stays s t h w (session.Fixing r) l = refl
told_stays s t h w (session.Register r) l = ap (λ (n : ℕ). effect_step (is_read_work r.work) n w.dates.launched) (h.marks (work_key r.work) (told_stamp (session.Register r)) (effect_marked (is_read_work r.work) _ w.dates.launched s.steps l))
told_stays s t h w (session.Transaction x) l = h.times (told_time (session.Transaction x)) l
told_stays s t h w (session.Snapshot x) l = h.times (told_time (session.Snapshot x)) l
told_stays s t h w (session.Settling attempt shards) l = refl

-- owners are the same to the view
pub record SameCalls (s t : State) : Type 0 where
  pub call : (a : ℕ) → call_of (owner_at t a) ≡ call_of (owner_at s a)
  pub ended : (a : ℕ) → is_ended (owner_at t a) ≡ is_ended (owner_at s a)
  pub step : (a : ℕ) → told_step t (owner_at t a) (owner_at t a).session ≡ told_step t (owner_at s a) (owner_at s a).session

pub stays_grows : (c : Config) (s t : State) → Stays s t → SameCalls s t → Grows (view_of c s) (view_of c t)
stays_grows c s t h e = record {
  ended = λ a g. e.ended a ∙ g;
  call = λ a g. e.call a;
  come = λ a g m. come_on (step_of s a) (step_of t a) s.steps t.steps m h.steps (same a);
  before = λ a y g m. before_on (step_of s a) (step_of t a) y m (same a) (h.moments (step_of s a));
  home = λ i. refl;
  sound = λ i g. refl;
}
  where
    same : (a : ℕ) → step_of s a ≤ s.steps → step_of t a ≡ step_of s a
    same a l = e.step a ∙ told_stays s t h (owner_at s a) (owner_at s a).session l

    come_on : (i j k l : ℕ) → nat_le i k ≡ true → k ≤ l → (i ≤ k → j ≡ i) → nat_le j l ≡ true
    come_on i j k l m p q = let z = q (grind (arith, nat_tests, m)) in grind (arith, nat_tests, m, p, z)

    before_on : (i j y : ℕ) → (nat_le i s.steps && nat_le (moment_at s i) y) ≡ true → (i ≤ s.steps → j ≡ i) → (i ≤ s.steps → moment_at t i ≡ moment_at s i) → (nat_le j t.steps && nat_le (moment_at t j) y) ≡ true
    before_on i j y m q p =
        let l : i ≤ s.steps = grind (arith, nat_tests, m) in
        let w : moment_at s i ≤ y = grind (arith, nat_tests, m) in
        let z = p l in
        let st = h.steps in
        subst (λ (x : ℕ). (nat_le x t.steps && nat_le (moment_at t x) y) ≡ true) (sym (q l)) (grind (arith, nat_tests, l, st, w, z))

-- the parts, over a view that grows, where owners keep their copies
pub view_parts : (c : Config) (v v' : View) (b : CallsBehind) (all : List Owner) (born : List Stage) (s : State) (h : List Entry) → Grows v v' → Parts c v b all born s.pipes h → Parts c v' b all born s.pipes h
view_parts c v v' b all born s h g k = record {
  owners = λ i. owner_later v v' b b born born (get_or all i no_owner) g (λ j a m p z. z) (λ m. m) (k.owners i);
  stages = λ j. stage_later c v v' b h all all j (get_or born (j - 1) no_stage) g (λ o m. m) (k.stages j);
  pipes = λ p. pipe_later v v' b b p _ g (λ number a e. e) (k.pipes p);
  unused = k.unused;
  long = k.long;
}

-- a step is counted
module _ (s : State) (at : Reading) (long : length s.moments ≡ s.steps) where
  time_stays : (time : ℕ) → step_of_time s time ≤ s.steps → step_of_time (ticks s at) time ≡ step_of_time s time
  time_stays time l = by_case (above_later 1 time s.moments (moment_after s.moment at ∷ []))
    where
      by_case : ((step_of_time (ticks s at) time ≡ step_of_time s time) × (step_of_time s time < 1 + length s.moments)) ⊎ ((step_of_time s time ≡ 1 + length s.moments) × (step_of_time (ticks s at) time ≡ first_above (1 + length s.moments) time (moment_after s.moment at ∷ []))) → step_of_time (ticks s at) time ≡ step_of_time s time
      by_case (inl e) = e.0
      by_case (inr e) = let z = e.0 in absurd (omega (arith, l, z, long))

  pub unwrap_stays : (m : Option ℕ) (k l : ℕ) → k < l → unwrap_or m l ≤ k → (j : ℕ) → unwrap_or m j ≡ unwrap_or m l
  unwrap_stays None k l e f j = absurd (omega (arith, e, f))
  unwrap_stays (Some i) k l e f j = refl

  mark_stays : (key : Key) (z : Carstamp) → marked_step s key z ≤ s.steps → marked_step (ticks s at) key z ≡ marked_step s key z
  mark_stays key z = by_test (stamp_le z opening_stamp)
    where
      by_test : (t : Bool) → (if t then 0 else unwrap_or (first_mark (get_or s.marks key.index []) z) (s.steps + 1)) ≤ s.steps → (if t then 0 else unwrap_or (first_mark (get_or s.marks key.index []) z) (s.steps + 1 + 1)) ≡ (if t then 0 else unwrap_or (first_mark (get_or s.marks key.index []) z) (s.steps + 1))
      by_test true l = refl
      by_test false l = unwrap_stays (first_mark (get_or s.marks key.index []) z) s.steps (s.steps + 1) (omega arith) l (s.steps + 1 + 1)

  moment_stays : (i : ℕ) → i ≤ s.steps → moment_at (ticks s at) i ≡ moment_at s i
  moment_stays i l = old s.moments _ i (omega (arith, l, long))
    where
      old : (ms : List ℕ) (x i : ℕ) → i ≤ length ms → get_or (0 ∷ ms ++ x ∷ []) i 0 ≡ get_or (0 ∷ ms) i 0
      old ms x zero l = refl
      old ms x (suc i) l = grind (arith, looks, l)

  pub ticks_stay : Stays s (ticks s at)
  ticks_stay = record { steps = omega arith; times = time_stays; marks = mark_stays; moments = moment_stays }

pub ticks_covering : (c : Config) (b : CallsBehind) (s : State) (at : Reading) → length s.moments ≡ s.steps → Covering c (view_of c s) b s → Covering c (view_of c (ticks s at)) b (ticks s at)
ticks_covering c b s at l k = view_parts c (view_of c s) (view_of c (ticks s at)) b s.owners s.stages s s.history (stays_grows c s (ticks s at) (ticks_stay s at l) (record { call = λ a. refl; ended = λ a. refl; step = λ a. refl })) k

-- marks only get more
first_more : (xs ys : List Mark) (z : Carstamp) (k : ℕ) → first_mark xs z ≡ Some k → first_mark (xs ++ ys) z ≡ Some k
first_more [] ys z k e = absurd (none_some k e)
  where
    none_some : (k : ℕ) → None ≡ Some k → ⊥
    none_some k e = cc
first_more (x ∷ xs) ys z k e = by_test (stamp_le z x.stamp) e (first_more xs ys z k)
  where
    by_test : (t : Bool) → (if t then Some x.step else first_mark xs z) ≡ Some k → (first_mark xs z ≡ Some k → first_mark (xs ++ ys) z ≡ Some k) → (if t then Some x.step else first_mark (xs ++ ys) z) ≡ Some k
    by_test true e f = e
    by_test false e f = f e

noted_more : (rs : List (List RegReply)) (key : Key) (n : ℕ) (marks : List Mark) → (z : Carstamp) (k : ℕ) → first_mark marks z ≡ Some k → first_mark (noted rs key n marks) z ≡ Some k
noted_more rs key n marks z k e = by_test (is_noted marks (majority_stamp rs key))
  where
    by_test : (t : Bool) → first_mark (if t then marks else marks ++ record { stamp = majority_stamp rs key; step = n } ∷ []) z ≡ Some k
    by_test true = e
    by_test false = first_more marks _ z k e

keys_more : (rs : List (List RegReply)) (n : ℕ) (keys : List Key) (ml : List (List Mark)) (i : ℕ) (z : Carstamp) (k : ℕ) → first_mark (get_or ml i []) z ≡ Some k → first_mark (get_or (notes_keys rs n keys ml) i []) z ≡ Some k
keys_more rs n [] ml i z k e = e
keys_more rs n (key ∷ keys) ml i z k e = keys_more rs n keys (set ml key.index x) i z k (by_place (get_or_set ml key.index x i []))
  where
    x : List Mark
    x = noted rs key n (get_or ml key.index [])

    by_place : ((get_or (set ml key.index x) i [] ≡ x) × (i ≡ key.index) × (key.index < length ml)) ⊎ ((get_or (set ml key.index x) i [] ≡ get_or ml i []) × ((i ≡ key.index → ⊥) ⊎ (length ml ≤ i))) → first_mark (get_or (set ml key.index x) i []) z ≡ Some k
    by_place (inl p) = ap (λ (m : List Mark). first_mark m z) p.0 ∙ noted_more rs key n (get_or ml key.index []) z k (ap (λ (j : ℕ). first_mark (get_or ml j []) z) (sym p.1) ∙ e)
    by_place (inr p) = ap (λ (m : List Mark). first_mark m z) p.0 ∙ e

-- a replica serves a request, or a shard does
pub marks_more_stay : (s t : State) → t.steps ≡ s.steps → ((i : ℕ) (z : Carstamp) (k : ℕ) → first_mark (get_or s.marks i []) z ≡ Some k → first_mark (get_or t.marks i []) z ≡ Some k) → (key : Key) (z : Carstamp) → marked_step s key z ≤ s.steps → marked_step t key z ≡ marked_step s key z
marks_more_stay s t e f key z = by_test (stamp_le z opening_stamp)
  where
    by_mark : (m m' : Option ℕ) → ((k : ℕ) → m ≡ Some k → m' ≡ Some k) → unwrap_or m (s.steps + 1) ≤ s.steps → unwrap_or m' (t.steps + 1) ≡ unwrap_or m (s.steps + 1)
    by_mark None m' g l = absurd (omega (arith, l))
    by_mark (Some k) m' g l = ap (λ (x : Option ℕ). unwrap_or x (t.steps + 1)) (g k refl)

    by_test : (b : Bool) → (if b then 0 else unwrap_or (first_mark (get_or s.marks key.index []) z) (s.steps + 1)) ≤ s.steps → (if b then 0 else unwrap_or (first_mark (get_or t.marks key.index []) z) (t.steps + 1)) ≡ (if b then 0 else unwrap_or (first_mark (get_or s.marks key.index []) z) (s.steps + 1))
    by_test true l = refl
    by_test false l = by_mark (first_mark (get_or s.marks key.index []) z) (first_mark (get_or t.marks key.index []) z) (f key.index z) l

module _ (c : Config) (b : CallsBehind) (s : State) (m : ℕ) (service : ServiceId) (replica : ℕ) (r : Request) (o : ℕ) (k : Covering c (view_of c s) b s) where
  abbrev t : State
  t = notes_served (serves_replica s m service replica r) o service r

  abbrev w : Owner
  w = record (owner_at s o) { stored = if is_store r then true else (owner_at s o).stored }

  pub stays : Stays s t
  stays = record { steps = omega arith; times = λ time l. refl; marks = marks_more_stay s t refl (λ i z k e. keys_more (replicas_at (serves_replica s m service replica r) service) s.steps (raised_by r) s.marks i z k e); moments = λ i l. refl }

  pub alike : SameCalls s t
  alike = record {
    call = each_set (λ a v. call_of v ≡ call_of (owner_at s a)) s.owners o w refl (λ a. refl);
    ended = each_set (λ a v. is_ended v ≡ is_ended (owner_at s a)) s.owners o w refl (λ a. refl);
    step = each_set (λ a v. told_step t v v.session ≡ told_step t (owner_at s a) (owner_at s a).session) s.owners o w (stored_same (owner_at s o).session) (λ a. refl);
  }
    where
      stored_same : (x : Session) → told_step t w x ≡ told_step t (owner_at s o) x
      stored_same session.Idle = refl
      stored_same (session.Fixing r) = refl
      stored_same (session.Register r) = refl
      stored_same (session.Transaction x) = refl
      stored_same (session.Snapshot x) = refl
      stored_same (session.Settling attempt shards) = refl

  pub later : Grows (view_of c s) (view_of c t)
  later = stays_grows c s t stays alike

  pub replica_covering : Covering c (view_of c t) b t
  replica_covering = record {
    owners = each_set (λ i v. OwnerCovers (view_of c t) b s.stages v) s.owners o w (let q = old o in record { copy = q.copy; dead = q.dead; own = λ x e f g. let a = q.own x e f g in record { at = a.at; none = a.none }; fixing = λ e f g. let a = q.fixing e f g in record { op = a.op; number = a.number; of_kind = a.of_kind; is = a.is; at = a.at } }) old;
    stages = λ j. stage_later c (view_of c s) (view_of c t) b s.history s.owners t.owners j (stage_at s j) later (stub j) (k.stages j);
    pipes = λ p. pipe_later (view_of c s) (view_of c t) b b p _ later (λ number a e. e) (k.pipes p);
    unused = k.unused;
    long = k.long;
  }
    where
      old : (i : ℕ) → OwnerCovers (view_of c t) b s.stages (owner_at s i)
      old i = owner_later (view_of c s) (view_of c t) b b s.stages s.stages (owner_at s i) later (λ j a m p z. z) (λ m. m) (k.owners i)

      stub : (j i : ℕ) → IsStubOf s.owners j i → IsStubOf t.owners j i
      stub j i h = record { stub = ap is_stub (kinds i).0 ∙ h.stub; of_stage = ap (λ (z : ℕ). z - 1) (kinds i).1 ∙ h.of_stage }
        where
          kinds : (i : ℕ) → ((owner_at t i).kind ≡ (owner_at s i).kind) × ((owner_at t i).stage ≡ (owner_at s i).stage)
          kinds = each_set (λ a v. (v.kind ≡ (owner_at s a).kind) × (v.stage ≡ (owner_at s a).stage)) s.owners o w (refl, refl) (λ a. (refl, refl))
