-- What calls have found when they sent their own first rounds stays so.
use Rattle.std.proofs.Common.{◌≡◌, ℕ, zero, suc, ◌-◌, ◌<◌, ◌≤◌, ◌⊎◌, inl, inr, true, false, List, [], ◌∷◌, ◌++◌, length, get_or, refl, sym, ap, ◌∙◌, subst, arith}
use Rattle.std.proofs.Math.ListN.{set}
use Rattle.std.proofs.lemmas.Bool.{true≢false, false≢true, cases_lt}
use Rattle.rss_names.specs.declared.service.ServiceId.{ServiceId}
use Rattle.rss_names.specs.declared.service.ServiceId.TheVariants.{Txn}
use Rattle.rss_model.specs.declared.history.How.TheVariants.{Exited}
use Rattle.rss_names.specs.Services.{same_service}
use Rattle.causal_context.specs.LeastTimes.{least_of}
use Rattle.pipeline_lang.specs.declared.config.Config.{Config}
use Rattle.rss_model.specs.declared.history.Entry.{Entry}
use Rattle.rss_model.specs.declared.history.Entry.TheVariants.{Begin, End, Give, Get, Over}
use Rattle.rss_model.specs.declared.op.Op.{Op}
use Rattle.rss_model.specs.History.{entry_at, begins}
use Rattle.rss_model.specs.Stages.{stage_at, entry_stage}
use Rattle.rss_model.proofs.HistoryLemmas.{entry_at-append}
use Rattle.rss_tables.specs.Outs.{Out}
use Rattle.rss_machine.specs.Moves.{sends, sends_one}
use Rattle.rss_machine.specs.Standing.{is_running}
use Rattle.rss_machine.specs.State.{State, Owner, no_owner, owner_at}
use Rattle.world_laws.specs.Calls.{is_call}
use Rattle.world_laws.proofs.Looks.{looks, get_or_past}
use Rattle.world_laws.proofs.Told.{each_set}
use Rattle.order_laws.specs.CallsBehind.{CallsBehind, calls_behind, behind_after}
use Rattle.order_laws.proofs.PassGoesOn.{same_pass}
use Rattle.coupling_laws.specs.Calls.{Grows, EndedCall}
use Rattle.context_moves.specs.Views.{view_of, step_of, told_step}
use Rattle.context_moves.specs.Launched.{BegunBehind, Finds, LaunchesBehind}
use Rattle.context_moves.proofs.Later.{SameClock, is_ended, told_same, running_not_ended}
use Rattle.context_moves.proofs.Own.{own_later}
use Rattle.context_moves.proofs.Tables.{Begun, both_of, or_first}

-- what is behind a stage stays behind it
stage_keeps : (h : List Entry) (b : CallsBehind) (e : Entry) (n a : ℕ) → b.stage n a ≡ true → (behind_after h b e).stage n a ≡ true
stage_keeps h b (Begin call stage op) n a k = k
stage_keeps h b (End call reply) n a k = or_first (b.stage n a) _ k
stage_keeps h b (Give giver token) n a k = k
stage_keeps h b (Get getter token) n a k = or_first (b.stage n a) _ k
stage_keeps h b (Over stage how) n a k = k

pub rises : (h : List Entry) (n a m i : ℕ) → i ≤ m → (calls_behind h i).stage n a ≡ true → (calls_behind h m).stage n a ≡ true
unfolding calls_behind
rises h n a zero i l k = let e : i ≡ 0 = omega (arith, l) in subst (λ (j : ℕ). (calls_behind h j).stage n a ≡ true) e k
rises h n a (suc m) i l k = by_place (cases_lt m i) (rises h n a m i)
  where
    by_place : (m < i) ⊎ (i ≤ m) → (i ≤ m → (calls_behind h i).stage n a ≡ true → (calls_behind h m).stage n a ≡ true) → (calls_behind h (suc m)).stage n a ≡ true
    by_place (inl g) f = let e : i ≡ suc m = omega (arith, l, g) in subst (λ (j : ℕ). (calls_behind h j).stage n a ≡ true) e k
    by_place (inr g) f = stage_keeps h (calls_behind h m) (entry_at h m) n a (f g k)

-- a place at which a call begins is within the history
pub begun_inside : (h : List Entry) (b i : ℕ) → begins b (entry_at h i) ≡ true → i < length h
begun_inside h b i e = by_place (get_or_past h i (Over 0 Exited))
  where
    by_place : (i < length h) ⊎ (entry_at h i ≡ Over 0 Exited) → i < length h
    by_place (inl l) = l
    by_place (inr g) = absurd (false≢true (ap (begins b) (sym g) ∙ e))

-- one more entry, that does not begin the call
pub begun_before : (h : List Entry) (e : Entry) (b a : ℕ) → Begun h → begins b e ≡ false → BegunBehind (h ++ e ∷ []) b a → BegunBehind h b a
begun_before h e b a f g k = by_place (entry_at-append h (e ∷ []) k.place)
  where
    one : (j : ℕ) → (entry_at (e ∷ []) j ≡ e) ⊎ (begins b (entry_at (e ∷ []) j) ≡ false)
    one zero = inl refl
    one (suc j) = inr refl

    new : (j : ℕ) → begins b (entry_at (e ∷ []) j) ≡ true → ⊥
    new j m = by_one (one j)
      where
        by_one : (entry_at (e ∷ []) j ≡ e) ⊎ (begins b (entry_at (e ∷ []) j) ≡ false) → ⊥
        by_one (inl p) = true≢false (sym m ∙ (ap (begins b) p ∙ g))
        by_one (inr p) = true≢false (sym m ∙ p)

    stage_same : (x : Entry) → begins b x ≡ true → entry_stage (h ++ e ∷ []) x ≡ entry_stage h x
    stage_same (Begin call stage op) m = refl
    stage_same (End call reply) m = absurd (false≢true m)
    stage_same (Give stage token) m = refl
    stage_same (Get stage token) m = refl
    stage_same (Over stage how) m = refl

    by_place : ((entry_at (h ++ e ∷ []) k.place ≡ entry_at h k.place) × (k.place < length h)) ⊎ ((entry_at (h ++ e ∷ []) k.place ≡ entry_at (e ∷ []) (k.place - length h)) × (length h ≤ k.place)) → BegunBehind h b a
    by_place (inr p) = absurd (new (k.place - length h) (ap (begins b) (sym p.0) ∙ k.begun))
    by_place (inl p) =
        let m = ap (begins b) (sym p.0) ∙ k.begun in
        let l = p.1 in
        let q : stage_at (h ++ e ∷ []) k.place ≡ stage_at h k.place = ap (entry_stage (h ++ e ∷ [])) p.0 ∙ stage_same (entry_at h k.place) m in
        let w : calls_behind (h ++ e ∷ []) k.place ≡ calls_behind h k.place = same_pass h e f k.place (omega (arith, l)) in
        record { place = k.place; begun = m; behind = ap (λ (x : CallsBehind). x.stage (stage_at h k.place) a) (sym w) ∙ (ap (λ (i : ℕ). (calls_behind (h ++ e ∷ []) k.place).stage i a) (sym q) ∙ k.behind) }

-- what was found stays so
pub finds_later : (c : Config) (s t : State) (b a : ℕ) (y : Op) → Grows (view_of c s) (view_of c t) → ((view_of c s).ended a ≡ true → step_of s a ≤ s.steps → step_of t a ≡ step_of s a)
    → (owner_at t b).dates.launched ≡ (owner_at s b).dates.launched → (owner_at t b).works.copy.least ≡ (owner_at s b).works.copy.least → (owner_at s b).dates.launched ≤ s.steps → Finds c s b y a → Finds c t b y a
finds_later c s t b a y g step l least made k = record {
  ended = g.ended a k.ended;
  same = λ m e f. subst (λ (z : EndedCall). z.time ≤ least_of (owner_at t b).works.copy.least (Txn m)) (sym call) (subst (λ (z : List (ServiceId × ℕ)). ((view_of c s).call a).time ≤ least_of z (Txn m)) (sym least) (k.same m (ap (λ (z : EndedCall). z.service) (sym call) ∙ e) f));
  other = λ m e f. g.before a (least_of (owner_at t b).works.copy.least (Txn m)) k.ended (subst (λ (z : List (ServiceId × ℕ)). (view_of c s).before a (least_of z (Txn m)) ≡ true) (sym least) (k.other m (ap (λ (z : EndedCall). same_service z.service (Txn m)) (sym call) ∙ e) f));
  txn_round = λ m n e f. let q = k.txn_round m n (ap (λ (z : EndedCall). z.service) (sym call) ∙ e) f in let w = step k.ended (omega (arith, q, made)) in omega (arith, q, w, l);
  round = λ m n e f. let q = k.round m n (ap (λ (z : EndedCall). z.service) (sym call) ∙ e) f in let w = step k.ended (omega (arith, q, made)) in omega (arith, q, w, l);
}
  where
    call : (view_of c t).call a ≡ (view_of c s).call a
    call = g.call a k.ended

-- a call that has sent its own first round is the same
pub record SameLaunch (v w : Owner) : Type 0 where
  pub kind : w.kind ≡ v.kind
  pub launched : w.dates.launched ≡ v.dates.launched
  pub least : w.works.copy.least ≡ v.works.copy.least

pub launches_later : (c : Config) (s t : State) → Grows (view_of c s) (view_of c t) → ((a : ℕ) → (view_of c s).ended a ≡ true → step_of s a ≤ s.steps → step_of t a ≡ step_of s a) → ((b : ℕ) → 0 < (owner_at t b).dates.launched → SameLaunch (owner_at s b) (owner_at t b))
    → ((b a : ℕ) → is_call (owner_at s b).kind ≡ true → BegunBehind t.history b a → BegunBehind s.history b a) → ((b : ℕ) → (owner_at s b).dates.launched ≤ s.steps) → LaunchesBehind c s → LaunchesBehind c t
launches_later c s t g step same before made k = record {
  finds = λ b a y e l h.
      let q = same b l in
      let f = sym q.kind ∙ e in
      finds_later c s t b a y g (step a) q.launched q.least (made b) (k.finds b a y f (subst (λ (m : ℕ). 0 < m) q.launched l) (before b a (ap is_call f) h));
}

-- the history stays, or has one more entry that begins no call of before
pub before_same : (s t : State) → t.history ≡ s.history → (i a : ℕ) → is_call (owner_at s i).kind ≡ true → BegunBehind t.history i a → BegunBehind s.history i a
before_same s t h i a q z = subst (λ (x : List Entry). BegunBehind x i a) h z

pub before_one : (s t : State) (e : Entry) → Begun s.history → t.history ≡ s.history ++ e ∷ [] → ((i : ℕ) → is_call (owner_at s i).kind ≡ true → begins i e ≡ false) → (i a : ℕ) → is_call (owner_at s i).kind ≡ true → BegunBehind t.history i a → BegunBehind s.history i a
before_one s t e f h g i a q z = begun_before s.history e i a f (g i q) (subst (λ (x : List Entry). BegunBehind x i a) h z)

-- an owner that runs changes
module _ (c : Config) (b : CallsBehind) (s t : State) (o : ℕ) (w : Owner) (e : SameClock s t) (d : t.owners ≡ set s.owners o w) (r : is_running (owner_at s o).fate ≡ true) (before : (i a : ℕ) → is_call (owner_at s i).kind ≡ true → BegunBehind t.history i a → BegunBehind s.history i a) (made : (i : ℕ) → (owner_at s i).dates.launched ≤ s.steps) where
  each : (Q : ℕ → Owner → Type 0) → Q o w → ((i : ℕ) → Q i (owner_at s i)) → (i : ℕ) → Q i (owner_at t i)
  each Q f g = subst (λ (owners : List Owner). (i : ℕ) → Q i (get_or owners i no_owner)) (sym d) (each_set Q s.owners o w f g)

  pub step_same : (a : ℕ) → (view_of c s).ended a ≡ true → step_of s a ≤ s.steps → step_of t a ≡ step_of s a
  step_same a g l = let q = same a g in ap (λ (v : Owner). told_step t v v.session) q ∙ told_same s t e (owner_at s a) (owner_at s a).session
    where
      same : (a : ℕ) → is_ended (owner_at s a) ≡ true → owner_at t a ≡ owner_at s a
      same = each (λ i v. is_ended (owner_at s i) ≡ true → v ≡ owner_at s i) (λ g. absurd (running_not_ended (owner_at s o).fate r (both_of (is_call (owner_at s o).kind) _ g).1)) (λ i g. refl)

  pub own_launches : (0 < w.dates.launched → SameLaunch (owner_at s o) w) → LaunchesBehind c s → LaunchesBehind c t
  own_launches f k =
      launches_later c s t (own_later c b s t o w e d r) step_same (each (λ i v. 0 < v.dates.launched → SameLaunch (owner_at s i) v) f (λ i l. record { kind = refl; launched = refl; least = refl }))
      before made k

-- requests are sent
pub sends_launches : (c : Config) (b : CallsBehind) (o : ℕ) (outs : List Out) (s : State) → is_running (owner_at s o).fate ≡ true → ((i : ℕ) → (owner_at s i).dates.launched ≤ s.steps) → LaunchesBehind c s → LaunchesBehind c (sends s o outs)
sends_launches c b o [] s r made k = k
sends_launches c b o (out ∷ outs) s r made k =
    sends_launches c b o outs (sends_one s o out) (runs s o out r) (each_set (λ i v. v.dates.launched ≤ s.steps) s.owners o _ (made o) made)
    (own_launches c b s (sends_one s o out) o _ (record { steps = refl; moments = refl; marks = refl }) refl r (before_same s (sends_one s o out) refl) made (λ l. record { kind = refl; launched = refl; least = refl }) k)
  where
    runs : (s : State) (o : ℕ) (out : Out) → is_running (owner_at s o).fate ≡ true → is_running (owner_at (sends_one s o out) o).fate ≡ true
    runs s o out r = grind (arith, looks, r)
