-- Who has released is done with.
use Rattle.std.proofs.Common.{◌≡◌, ◌⊎◌, inl, inr, ℕ, Bool, true, false, ◌||◌, List, [], ◌∷◌, ◌++◌, is_some, sym, ap, ◌∙◌}
use Rattle.std.proofs.lemmas.Bool.{cond_both, true≢false, or_cases}
use Rattle.std.proofs.lemmas.List.Folds.{list_any-append}
use Rattle.rss_names.specs.declared.attempt.Attempt.{Attempt}
use Rattle.rss_names.specs.declared.service.Key.{Key}
use Rattle.rss_wire.specs.declared.messages.Outcome.{Outcome}
use Rattle.rss_wire.specs.declared.messages.Outcome.TheVariants.{Aborted}
use Rattle.rss_wire.specs.declared.messages.Request.{Request}
use Rattle.rss_tables.specs.Attempts.{same_attempt, has_attempt, with_attempt}
use Rattle.rss_tables.specs.Locks.{Locks}
use Rattle.rss_tables.specs.Prepared.{PreparedWriter}
use Rattle.rss_tables.specs.ShardRow.{Shard, opening_shard, decision_in, keeps_decision, can_release, releases, releases_last, shard_after}
use Rattle.shard_laws.specs.Served.{IsReached}
use Rattle.shard_laws.specs.Entries.{entry_of, prepared_by}
use Rattle.shard_laws.specs.Locked.{IsGone}
use Rattle.shard_laws.proofs.Cases.{cases}
use Rattle.shard_laws.proofs.Entries.{same_is, same_itself}
use Rattle.shard_laws.proofs.Served.{reached_keeps}
use Rattle.shard_laws.proofs.Holding.{Holding, holding_opening, holding_after, released_is}
use Rattle.shard_laws.proofs.Gone.{Done, done_gone, gone_after}
use Rattle.shard_laws.proofs.Fates.{left_done}

-- one who is in a list that another joined is that one, or was there
pub joined_cases : (ts : List Attempt) (b a : Attempt) → has_attempt (with_attempt ts b) a ≡ true → (has_attempt ts a ≡ true) ⊎ (a ≡ b)
joined_cases ts b a = cond_both (has_attempt ts b) ts (ts ++ b ∷ []) (λ (l : List Attempt). has_attempt l a ≡ true → (has_attempt ts a ≡ true) ⊎ (a ≡ b)) (λ e h. inl h)
    (λ e h. by_part (or_cases (has_attempt ts a) (same_attempt a b || false) (sym (list_any-append (same_attempt a) ts (b ∷ [])) ∙ h)))
  where
    by_last : (same_attempt a b ≡ true) ⊎ (false ≡ true) → (has_attempt ts a ≡ true) ⊎ (a ≡ b)
    by_last (inl f) = inr (same_is a b f)
    by_last (inr f) = absurd (true≢false (sym f))

    by_part : (has_attempt ts a ≡ true) ⊎ ((same_attempt a b || false) ≡ true) → (has_attempt ts a ≡ true) ⊎ (a ≡ b)
    by_part (inl f) = inl f
    by_part (inr f) = by_last (or_cases (same_attempt a b) false f)

-- decisions leave who has released
decides_released : (P : List Attempt → Locks → List PreparedWriter → Type 0) (sh : Shard) (attempt : Attempt) (outcome : Outcome) → P sh.released sh.locks sh.prepared → P (keeps_decision sh attempt outcome).released (keeps_decision sh attempt outcome).locks (keeps_decision sh attempt outcome).prepared
decides_released P sh attempt outcome h = cond_both (is_some (decision_in sh.decisions attempt)) sh (record sh { decisions = sh.decisions ++ (attempt, outcome) ∷ [] }) (λ (s : Shard). P s.released s.locks s.prepared) (λ e. h) (λ e. h)

-- who has released after a request had before, or is done with now
released_from : (sh : Shard) (latest : ℕ) (r : Request) → Holding sh → (a : Attempt) → has_attempt (shard_after sh latest r).released a ≡ true → (has_attempt sh.released a ≡ true) ⊎ Done a (shard_after sh latest r).locks (shard_after sh latest r).prepared
released_from sh latest r k a = cases sh latest r (λ (w : Shard). has_attempt w.released a ≡ true → (has_attempt sh.released a ≡ true) ⊎ Done a w.locks w.prepared) record {
  rest = λ e. inl e;
  locks = λ new i t n e. inl e;
  prepares = λ b l w ws c i n g e. inl e;
  decides = λ b c t i. decides_released (λ (ts : List Attempt) (l : Locks) (ps : List PreparedWriter). has_attempt ts a ≡ true → (has_attempt sh.released a ≡ true) ⊎ Done a l ps) sh b _ (λ e. inl e);
  commits = λ b t p i f e. inl e;
  buries = λ b t i f e. inl e;
  aborts = λ b i e. inl e;
  releases = λ b t last i f. released b t last f;
  reads = λ t l ks s i f e. inl e;
}
  where
    done : (b : Attempt) (t : ℕ) → can_release sh b ≡ true → (has_attempt sh.released a ≡ true) ⊎ (a ≡ b) → (has_attempt sh.released a ≡ true) ⊎ Done a (releases sh b t).locks (releases sh b t).prepared
    done b t f (inl e) = inl e
    done b t f (inr e) = inr (left_done sh.locks.holders sh.locks.tombs sh.prepared a b k.locks.apart (ap (λ (z : Attempt). same_attempt b z) e ∙ same_itself b) (ap (entry_of prepared_by sh.prepared) e ∙ (released_is sh b f).1))

    released : (b : Attempt) (t : ℕ) (last : Bool) → can_release sh b ≡ true → has_attempt (releases_last (releases sh b t) b last).released a ≡ true → (has_attempt sh.released a ≡ true) ⊎ Done a (releases_last (releases sh b t) b last).locks (releases_last (releases sh b t) b last).prepared
    released b t true f = decides_released (λ (ts : List Attempt) (l : Locks) (ps : List PreparedWriter). has_attempt ts a ≡ true → (has_attempt sh.released a ≡ true) ⊎ Done a l ps) (releases sh b t) b Aborted (λ e. done b t f (joined_cases sh.released b a e))
    released b t false f = λ e. done b t f (joined_cases sh.released b a e)

record GoneWhereReleased (w : Shard) : Type 0 where
  state : Holding w
  each : (a : Attempt) → has_attempt w.released a ≡ true → IsGone w a

gone_step : (sh : Shard) (latest : ℕ) (r : Request) → GoneWhereReleased sh → GoneWhereReleased (shard_after sh latest r)
gone_step sh latest r k = record { state = holding_after sh latest r k.state; each = λ a e. by_case a (released_from sh latest r k.state a e) }
  where
    by_case : (a : Attempt) → (has_attempt sh.released a ≡ true) ⊎ Done a (shard_after sh latest r).locks (shard_after sh latest r).prepared → IsGone (shard_after sh latest r) a
    by_case a (inl e) = gone_after sh latest r a (k.each a e)
    by_case a (inr d) = done_gone (shard_after sh latest r) a d

gone_opening : (keys : List Key) → GoneWhereReleased (opening_shard keys)
gone_opening keys = record { state = holding_opening keys; each = λ a e. absurd (true≢false (sym e)) }

pub released_gone : (sh : Shard) → IsReached sh → (a : Attempt) → has_attempt sh.released a ≡ true → IsGone sh a
released_gone sh x = (reached_keeps GoneWhereReleased gone_opening gone_step sh x).each
