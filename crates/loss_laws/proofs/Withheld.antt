-- What was withheld from an owner is what its losses cut off.
use Rattle.std.proofs.Common.{◌≡◌, ℕ, zero, suc, ◌+◌, ◌-◌, ◌<◌, ◌≤◌, ◌⊎◌, inl, inr, ◌++◌, Bool, true, false, List, [], ◌∷◌, Option, Some, None, refl, ap, sym, ◌∙◌, subst, arith}
use Rattle.std.specs.Prelude.{nat_le, nat_lt, if◌then◌else◌}
use Rattle.std.proofs.lemmas.Bool.{true≢false}
use Rattle.rss_names.specs.declared.service.ServiceId.{ServiceId}
use Rattle.rss_names.specs.declared.service.ServiceId.TheVariants.{Txn, Reg}
use Rattle.rss_names.specs.declared.service.Target.{Target}
use Rattle.rss_names.specs.declared.service.Target.TheVariants.{Shard, Replica}
use Rattle.pipeline_lang.specs.Config.{replicas_of}
use Rattle.pipeline_lang.specs.declared.config.Config.{Config}
use Rattle.rss_model.specs.declared.history.How.TheVariants.{Unavailable}
use Rattle.rss_wire.specs.declared.envelope.Envelope.{Envelope}
use Rattle.world_laws.specs.Calls.{is_stub}
use Rattle.world_laws.proofs.Later.{later_run}
use Rattle.rss_tables.specs.Losses.{is_cut, cut_from, cut_replicas, is_quorum_lost}
use Rattle.rss_tables.specs.Round.{count_cut, spare}
use Rattle.rss_tables.specs.declared.endings.StubEnd.TheVariants.{Fenced, Unfenced}
use Rattle.rss_machine.specs.Run.{run}
use Rattle.rss_machine.specs.Standing.{is_running, stub_end, stub_end_of}
use Rattle.rss_machine.specs.State.{State, stage_at, owner_at}
use Rattle.rss_machine.specs.Withheld.{is_target_withheld, withheld_from, is_quorum_withheld, IsWithheld, is_statement, HurtBy}
use Rattle.rss_machine.specs.declared.session.OwnerKind.{OwnerKind}
use Rattle.rss_machine.specs.declared.session.OwnerKind.TheVariants.{Calling, Fencing, Stubbing}
use Rattle.rss_machine.specs.declared.state.Life.TheVariants.{Over}
use Rattle.rss_machine.specs.declared.state.OwnerFate.{OwnerFate}
use Rattle.rss_machine.specs.declared.state.OwnerFate.TheVariants.{Running, Ended, Dropped, CutOff}
use Rattle.rss_machine.specs.declared.step.Step.{Step}
use Rattle.loss_laws.specs.Laws.{IsCutOff, NothingWithheld, EndsFirst, UnfencedBy, StagesTell}
use Rattle.loss_laws.proofs.Places.{IsTarget, AreTargets}
use Rattle.world_laws.specs.Targets.{IsService, IsReplica, HasPlace}
use Rattle.loss_laws.proofs.Cut.{CutBy, NoneCut, le_none}
use Rattle.loss_laws.proofs.Held.{WasCut, runs_uncut}
use Rattle.loss_laws.proofs.Runs.{counting_run, losses_counted}

-- the cut replicas of a service, counted in two parts
count_split : (tries : ℕ) (losses : List ℕ) (service : ServiceId) (left more replica : ℕ) → count_cut (cut_from tries losses service replica (left + more)) ≡ count_cut (cut_from tries losses service replica left) + count_cut (cut_from tries losses service (replica + left) more)
count_split tries losses service zero more replica =
    ap (λ (n : ℕ). count_cut (cut_from tries losses service replica n)) (sym (none_first more)) ∙ (ap (λ (n : ℕ). count_cut (cut_from tries losses service n more)) (add_none replica) ∙ none_first _)
  where
    add_none : (n : ℕ) → n ≡ n + 0
    add_none n = omega arith

    none_first : (n : ℕ) → n ≡ 0 + n
    none_first n = omega arith
count_split tries losses service (suc left) more replica =
    subst (λ (n : ℕ). count_cut (cut_from tries losses service replica n) ≡ count_cut (cut_from tries losses service replica (suc left)) + count_cut (cut_from tries losses service (replica + suc left) more)) (suc_add left more)
    (by_cut (is_cut tries losses (Replica service replica)) _ _ _ _ (count_split tries losses service left more (replica + 1)) (ap (λ (n : ℕ). count_cut (cut_from tries losses service n more)) (add_suc replica left)))
  where
    suc_add : (a b : ℕ) → suc (a + b) ≡ suc a + b
    suc_add a b = omega arith

    add_suc : (a b : ℕ) → a + 1 + b ≡ a + suc b
    add_suc a b = omega arith

    by_cut : (b : Bool) (all first : List Bool) (x y : ℕ) → count_cut all ≡ count_cut first + x → x ≡ y → count_cut (b ∷ all) ≡ count_cut (b ∷ first) + y
    by_cut true all first x y e f = omega (arith, e, f)
    by_cut false all first x y e f = omega (arith, e, f)

-- none of these replicas is cut off
none_from : (tries : ℕ) (losses : List ℕ) (service : ServiceId) (left replica : ℕ) → ((r : ℕ) → replica ≤ r → r < replica + left → is_cut tries losses (Replica service r) ≡ false) → count_cut (cut_from tries losses service replica left) ≡ 0
none_from tries losses service zero replica f = refl
none_from tries losses service (suc left) replica f =
    ap (λ (b : Bool). count_cut (b ∷ cut_from tries losses service (replica + 1) left)) (f replica (omega arith) (omega arith)) ∙ none_from tries losses service left (replica + 1) (λ r a b. f r (omega (arith, a)) (omega (arith, b)))

module _ (c : Config) (steps : List Step) (s : State) (e : run c steps ≡ Some s) (l : 1 ≤ c.tries) (p : AreTargets c s) (o : ℕ) where
  cut_same : (target : Target) → HasPlace c target → is_cut c.tries (owner_at s o).losses target ≡ is_target_withheld c steps o target
  cut_same target q = ap (λ (n : ℕ). nat_le c.tries n) (losses_counted c steps s o target e l p q)

  counted_from : (number left replica : ℕ) → ((r : ℕ) → replica ≤ r → r < replica + left → IsReplica c number r) → withheld_from c steps o (Reg number) replica left ≡ count_cut (cut_from c.tries (owner_at s o).losses (Reg number) replica left)
  counted_from number zero replica f = refl
  counted_from number (suc left) replica f =
      by_cut (is_cut c.tries (owner_at s o).losses (Replica (Reg number) replica)) _ _ _ (cut_same (Replica (Reg number) replica) (f replica (omega arith) (omega arith))) (counted_from number left (replica + 1) (λ r a b. f r (omega (arith, a)) (omega (arith, b))))
    where
      by_cut : (b d : Bool) (n : ℕ) (bs : List Bool) → b ≡ d → n ≡ count_cut bs → (if d then suc n else n) ≡ count_cut (b ∷ bs)
      by_cut true true n bs q f = ap (λ (m : ℕ). suc m) f
      by_cut false false n bs q f = f
      by_cut true false n bs q f = absurd (true≢false q)
      by_cut false true n bs q f = absurd (true≢false (sym q))

  beyond : (number r : ℕ) → IsReplica c number r → replicas_of c (Reg number) < r → is_cut c.tries (owner_at s o).losses (Replica (Reg number) r) ≡ false
  beyond number r d m =
      ap (λ (n : ℕ). nat_le c.tries n) (losses_counted c steps s o (Replica (Reg number) r) e l p d ∙ (counting_run c steps s e l p).never o (Replica (Reg number) r) d (λ w. omega (arith, m, w))) ∙ le_none c.tries l

  pub quorum_same : (number : ℕ) → IsService c number → is_quorum_withheld c steps o (Reg number) ≡ is_quorum_lost c.tries (owner_at s o).losses (Reg number) (replicas_of c (Reg number))
  quorum_same number d = ap (λ (n : ℕ). nat_lt (spare (replicas_of c (Reg number))) n) (first ∙ sym whole)
    where
      n : ℕ
      n = replicas_of c (Reg number)

      first : withheld_from c steps o (Reg number) 1 n ≡ count_cut (cut_from c.tries (owner_at s o).losses (Reg number) 1 n)
      first = counted_from number n 1 (λ r a b. record { service = d; from_one = a; few = let k = d.replicas in omega (arith, k, b) })

      rest : count_cut (cut_from c.tries (owner_at s o).losses (Reg number) (1 + n) (7 - n)) ≡ 0
      rest = none_from c.tries (owner_at s o).losses (Reg number) (7 - n) (1 + n) (λ r a b. beyond number r (record { service = d; from_one = omega (arith, a); few = let k = d.replicas in omega (arith, k, b) }) (omega (arith, a)))

      seven : n + (7 - n) ≡ 7
      seven = let k = d.replicas in omega (arith, k)

      add : (x y z : ℕ) → x ≡ y + z → z ≡ 0 → x ≡ y
      add x y z f g = omega (arith, f, g)

      whole : count_cut (cut_replicas c.tries (owner_at s o).losses (Reg number)) ≡ count_cut (cut_from c.tries (owner_at s o).losses (Reg number) 1 n)
      whole = ap (λ (m : ℕ). count_cut (cut_from c.tries (owner_at s o).losses (Reg number) 1 m)) (sym seven) ∙ add _ _ _ (count_split c.tries (owner_at s o).losses (Reg number) n (7 - n) 1) rest

  cut_withheld : (target : Target) → CutBy c (owner_at s o).losses target → IsWithheld c steps o target
  cut_withheld (Shard shard) q = sym (cut_same (Shard shard) q.0) ∙ q.1
  cut_withheld (Replica (Reg number) replica) q = quorum_same number q.0.service ∙ q.1
  cut_withheld (Replica (Txn number) replica) q = absurd q.0

  -- an owner that was cut off
  pub was_withheld : (target : Target) → (owner_at s o).fate ≡ CutOff target → IsWithheld c steps o target
  was_withheld target q = cut_withheld target ((counting_run c steps s e l p).held.cut o target q)

  -- an owner by whose losses no target is cut off
  none_withheld : ((number : ℕ) → 1 ≤ replicas_of c (Reg number) → IsService c number) → NoneCut c (owner_at s o).losses → NothingWithheld c steps o
  none_withheld g h = record {
    shards = λ shard d. sym (cut_same (Shard shard) d) ∙ h.shards shard d;
    quorums = λ number d. quorum_same number (g number d) ∙ h.services number (g number d);
  }

  -- an owner that runs
  pub nothing_withheld : ((number : ℕ) → 1 ≤ replicas_of c (Reg number) → IsService c number) → is_running (owner_at s o).fate ≡ true → NothingWithheld c steps o
  nothing_withheld g r = none_withheld g (runs_uncut c s (counting_run c steps s e l p).held o r)

  -- and any owner
  pub cut_or_nothing : ((number : ℕ) → 1 ≤ replicas_of c (Reg number) → IsService c number) → IsCutOff s o ⊎ NothingWithheld c steps o
  cut_or_nothing g = by_cut ((counting_run c steps s e l p).held.fine o)
    where
      by_cut : WasCut (owner_at s o) ⊎ NoneCut c (owner_at s o).losses → IsCutOff s o ⊎ NothingWithheld c steps o
      by_cut (inl q) = inl (record { target = q.0; cut = q.1 })
      by_cut (inr n) = inr (none_withheld g n)

-- an owner that runs before a step, and behind it
pub ends_first : (c : Config) (steps : List Step) (step : Step) (s t : State) (o : ℕ) → run c steps ≡ Some s → run c (steps ++ step ∷ []) ≡ Some t → 1 ≤ c.tries → AreTargets c t → ((number : ℕ) → 1 ≤ replicas_of c (Reg number) → IsService c number) → is_running (owner_at s o).fate ≡ true → EndsFirst c steps step t o
ends_first c steps step s t o e f l p g r = record {
  before = nothing_withheld c steps s e l places o g r;
  cut = λ target q. was_withheld c (steps ++ step ∷ []) t f l p o target q;
  uncut = λ d. by_cut d (cut_or_nothing c (steps ++ step ∷ []) t f l p o g);
}
  where
    places : AreTargets c s
    places m z i =
        let d = later_run c steps (step ∷ []) s t e f in
        let g = d.net in
        subst (λ (x : Envelope). IsTarget c x.target) (d.envelopes m i) (p m z (omega (arith, i, g)))

    by_cut : ((target : Target) → (owner_at t o).fate ≡ CutOff target → ⊥) → IsCutOff t o ⊎ NothingWithheld c (steps ++ step ∷ []) o → NothingWithheld c (steps ++ step ∷ []) o
    by_cut d (inl q) = absurd (d q.target q.cut)
    by_cut d (inr n) = n

-- what the lines of stages tell
unfenced_cut : (f : OwnerFate) (target : Target) → stub_end f ≡ Some (Unfenced target) → f ≡ CutOff target
unfenced_cut Running target e = absurd (none e)
  where
    none : None ≡ Some (Unfenced target) → ⊥
    none e = cc
unfenced_cut Ended target e = absurd (fenced e)
  where
    fenced : Some Fenced ≡ Some (Unfenced target) → ⊥
    fenced e = cc
unfenced_cut Dropped target e = absurd (none e)
  where
    none : None ≡ Some (Unfenced target) → ⊥
    none e = cc
unfenced_cut (CutOff other) target e = same e
  where
    same : Some (Unfenced other) ≡ Some (Unfenced target) → CutOff other ≡ CutOff target
    same e = cc

-- who is no stub is a statement
statement_is : (k : OwnerKind) → is_stub k ≡ false → is_statement k ≡ true
statement_is (Calling x) e = refl
statement_is Fencing e = refl
statement_is (Stubbing u) e = absurd (true≢false e)

pub stages_tell : (c : Config) (steps : List Step) (s : State) → run c steps ≡ Some s → 1 ≤ c.tries → AreTargets c s → StagesTell c steps s
stages_tell c steps s e l p = record { unavailable = unavailable; unfenced = λ n target q. unfenced n target (stage_at s n).stub refl q }
  where
    unavailable : (n : ℕ) → (stage_at s n).life ≡ Over Unavailable → HurtBy c steps s n
    unavailable n q =
        let h = (counting_run c steps s e l p).held.hurt (n - 1) q in
        record { owner = h.owner; target = h.target; of_stage = h.of_stage; of_kind = statement_is _ h.of_kind; cut = h.cut; withheld = was_withheld c steps s e l p h.owner h.target h.cut }

    none : (target : Target) → None ≡ Some (Unfenced target) → ⊥
    none target e = cc

    unfenced : (n : ℕ) (target : Target) (stub : Option ℕ) → (stage_at s n).stub ≡ stub → stub_end_of s stub ≡ Some (Unfenced target) → UnfencedBy c steps s n target
    unfenced n target None f q = absurd (none target q)
    unfenced n target (Some stub) f q =
        let k = unfenced_cut (owner_at s stub).fate target q in
        record { stub = stub; of_stage = f; cut = k; withheld = was_withheld c steps s e l p stub target k }
