-- The notes of when a majority first held which stamp of a register, where one replica has served a request.
use Rattle.std.proofs.Common.{◌≡◌, ℕ, ◌<◌, ◌⊎◌, inl, inr, Bool, true, false, List, [], ◌∷◌, ◌++◌, map, length, get_or, Option, Some, None, refl, ap, ◌∙◌, sym, subst, arith}
use Rattle.std.specs.Prelude.{is_some, if◌then◌else◌}
use Rattle.std.proofs.Math.ListN.{set, length-set}
use Rattle.std.proofs.lemmas.Bool.{true≢false}
use Rattle.std.proofs.lemmas.List.{set-get_or}
use Rattle.rss_names.specs.declared.service.Key.{Key}
use Rattle.carstamps.specs.declared.carstamp.Carstamp.{Carstamp}
use Rattle.carstamps.specs.Stamp.{stamp_le, opening_stamp}
use Rattle.causal_context.specs.declared.dep.Dep.{Dep}
use Rattle.rss_wire.specs.declared.messages.RegReply.{RegReply}
use Rattle.rss_wire.specs.declared.messages.Request.{Request}
use Rattle.rss_wire.specs.declared.messages.Request.TheVariants as request
use Rattle.rss_tables.specs.ReplicaRow.{held_at, accept, accept_all, dep_cell, replica_after}
use Rattle.rss_machine.specs.Marks.{is_held, majority_stamp, first_mark, noted, notes_keys, raised_by}
use Rattle.rss_machine.specs.declared.state.Mark.{Mark}
use Rattle.world_laws.proofs.Looks.{looks}
use Rattle.world_laws.proofs.Later.{le_same, le_trans, after-rises}
use Rattle.world_laws.proofs.Holders.{both_ways, held_is, accept_other, set_rises, set_same}

-- none of these registers has this one's number
abbrev pub NoKey : Key → List Key → Type 0
NoKey key [] = Unit {0}
NoKey key (k ∷ ks) = (k.index ≡ key.index → ⊥) × NoKey key ks

-- those that have its number are this one
abbrev pub OnlyKey : Key → List Key → Type 0
OnlyKey key [] = Unit {0}
OnlyKey key (k ∷ ks) = ((k.index ≡ key.index → ⊥) ⊎ (k ≡ key)) × OnlyKey key ks

-- where a note says so of a stamp, one says so of each smaller stamp
mark_less : (marks : List Mark) (y z : Carstamp) → stamp_le y z ≡ true → is_some (first_mark marks z) ≡ true → is_some (first_mark marks y) ≡ true
mark_less [] y z l e = e
mark_less (m ∷ marks) y z l e = by_tests (stamp_le z m.stamp) (stamp_le y m.stamp) refl refl e (mark_less marks y z l)
  where
    by_tests : (a b : Bool) → stamp_le z m.stamp ≡ a → stamp_le y m.stamp ≡ b → is_some (if a then Some m.step else first_mark marks z) ≡ true → (is_some (first_mark marks z) ≡ true → is_some (first_mark marks y) ≡ true) → is_some (if b then Some m.step else first_mark marks y) ≡ true
    by_tests a true f g h ih = refl
    by_tests true false f g h ih = absurd (true≢false (sym (le_trans y z m.stamp l f) ∙ g))
    by_tests false false f g h ih = ih h

-- what was told, or else is told now
abbrev told_by : ℕ → Option ℕ → Bool → Option ℕ
told_by step None t = if t then Some step else None
told_by step (Some before) t = Some before

-- one more note says so of what no other one did
mark_more : (marks : List Mark) (m : Mark) (z : Carstamp) → first_mark (marks ++ m ∷ []) z ≡ told_by m.step (first_mark marks z) (stamp_le z m.stamp)
mark_more [] m z = refl
mark_more (n ∷ marks) m z = by_test (stamp_le z n.stamp) (mark_more marks m z)
  where
    by_test : (t : Bool) → first_mark (marks ++ m ∷ []) z ≡ told_by m.step (first_mark marks z) (stamp_le z m.stamp) → (if t then Some n.step else first_mark (marks ++ m ∷ []) z) ≡ told_by m.step (if t then Some n.step else first_mark marks z) (stamp_le z m.stamp)
    by_test true e = refl
    by_test false e = e

-- the notes say of exactly the stamps that a majority holds when it first did
abbrev pub AreNoted : Key → List (List RegReply) → List Mark → Type 0
AreNoted key rs marks =
    (z : Carstamp) → stamp_le z opening_stamp ≡ false → is_some (first_mark marks z) ≡ is_held rs key z

-- what was noted stays so, and what is noted anew is noted at this step
abbrev pub IsNotedAt : ℕ → Option ℕ → Option ℕ → Type 0
IsNotedAt step before after = (after ≡ before) ⊎ ((before ≡ None) × (after ≡ Some step))

pub record Notes (key : Key) (step : ℕ) (ts : List (List RegReply)) (marks notes : List Mark) (z : Carstamp) : Type 0 where
  pub told : is_some (first_mark notes z) ≡ is_held ts key z
  pub first : IsNotedAt step (first_mark marks z) (first_mark notes z)

told_right : (step : ℕ) (x : Option ℕ) (t held : Bool) → held ≡ t → (is_some x ≡ true → held ≡ true) → (is_some (told_by step x t) ≡ held) × IsNotedAt step x (told_by step x t)
told_right step None true held e up = (sym e, inr (refl, refl))
told_right step None false held e up = (sym e, inl refl)
told_right step (Some before) t held e up = (sym (up refl), inl refl)

-- the notes of a register once a majority may hold more of it
noted_own : (ts : List (List RegReply)) (key : Key) (step : ℕ) (marks : List Mark) (z : Carstamp) → stamp_le z opening_stamp ≡ false → (is_some (first_mark marks z) ≡ true → is_held ts key z ≡ true) → Notes key step ts marks (noted ts key step marks) z
noted_own ts key step marks z f up = by_tests (stamp_le big opening_stamp) (is_some (first_mark marks big)) refl refl
  where
    big : Carstamp
    big = majority_stamp ts key

    m : Mark
    m = record { stamp = big; step = step }

    held : is_held ts key z ≡ stamp_le z big
    held = held_is ts key z f

    -- where nothing is noted anew, what is held was noted
    stays : (stamp_le z big ≡ true → is_some (first_mark marks z) ≡ true) → Notes key step ts marks marks z
    stays down = record { told = both_ways (is_some (first_mark marks z)) (is_held ts key z) up (λ e. down (sym held ∙ e)); first = inl refl }

    told : first_mark (marks ++ m ∷ []) z ≡ told_by step (first_mark marks z) (stamp_le z big)
    told = mark_more marks m z

    more : Notes key step ts marks (marks ++ m ∷ []) z
    more =
        let p = told_right step (first_mark marks z) (stamp_le z big) (is_held ts key z) held up in
        record { told = ap (λ (x : Option ℕ). is_some x) told ∙ p.0; first = subst (λ (x : Option ℕ). IsNotedAt step (first_mark marks z) x) (sym told) p.1 }

    by_tests : (a b : Bool) → stamp_le big opening_stamp ≡ a → is_some (first_mark marks big) ≡ b → Notes key step ts marks (if (if a then true else b) then marks else marks ++ m ∷ []) z
    by_tests true b e g = stays (λ l. absurd (true≢false (sym (le_trans z big opening_stamp l e) ∙ f)))
    by_tests false true e g = stays (λ l. mark_less marks z big l g)
    by_tests false false e g = more

-- where the notes say all, no more is noted
noted_all : (ts : List (List RegReply)) (key : Key) (step : ℕ) (marks : List Mark) → AreNoted key ts marks → noted ts key step marks ≡ marks
noted_all ts key step marks h = by_test (stamp_le big opening_stamp) refl
  where
    big : Carstamp
    big = majority_stamp ts key

    by_test : (a : Bool) → stamp_le big opening_stamp ≡ a → (if (if a then true else is_some (first_mark marks big)) then marks else marks ++ record { stamp = big; step = step } ∷ []) ≡ marks
    by_test true e = refl
    by_test false e =
        let t : is_some (first_mark marks big) ≡ true = h big e ∙ held_is ts key big e ∙ le_same big in
        ap (λ (b : Bool). if b then marks else marks ++ record { stamp = big; step = step } ∷ []) t

-- notes by registers: of one register in its place
set_own : (ml : List (List Mark)) (i : ℕ) (x : List Mark) → i < length ml → get_or (set ml i x) i [] ≡ x
set_own ml i x l = grind (arith, looks, l)

set_other : (ml : List (List Mark)) (i j : ℕ) (x : List Mark) → (j ≡ i → ⊥) → get_or (set ml j x) i [] ≡ get_or ml i []
set_other ml i j x n = grind (arith, looks, n)

pub notes_long : (ts : List (List RegReply)) (step : ℕ) (keys : List Key) (ml : List (List Mark)) → length (notes_keys ts step keys ml) ≡ length ml
notes_long ts step [] ml = refl
notes_long ts step (k ∷ ks) ml = notes_long ts step ks (set ml k.index (noted ts k step (get_or ml k.index []))) ∙ length-set ml k.index (noted ts k step (get_or ml k.index []))

-- notes of other registers
pub notes_none : (ts : List (List RegReply)) (step : ℕ) (keys : List Key) (ml : List (List Mark)) (key : Key) → NoKey key keys → get_or (notes_keys ts step keys ml) key.index [] ≡ get_or ml key.index []
notes_none ts step [] ml key n = refl
notes_none ts step (k ∷ ks) ml key n =
    let x = noted ts k step (get_or ml k.index []) in
    notes_none ts step ks (set ml k.index x) key n.1 ∙ set_other ml key.index k.index x n.0

-- notes of registers where those of this one say all
notes_same : (ts : List (List RegReply)) (step : ℕ) (keys : List Key) (ml : List (List Mark)) (key : Key) → OnlyKey key keys → AreNoted key ts (get_or ml key.index []) → get_or (notes_keys ts step keys ml) key.index [] ≡ get_or ml key.index []
notes_same ts step [] ml key o h = refl
notes_same ts step (k ∷ ks) ml key o h = by_key o.0 (λ l g. notes_same ts step ks l key o.1 g)
  where
    by_key : ((k.index ≡ key.index → ⊥) ⊎ (k ≡ key)) → ((l : List (List Mark)) → AreNoted key ts (get_or l key.index []) → get_or (notes_keys ts step ks l) key.index [] ≡ get_or l key.index []) → get_or (notes_keys ts step ks (set ml k.index (noted ts k step (get_or ml k.index [])))) key.index [] ≡ get_or ml key.index []
    by_key (inl n) ih =
        let x = noted ts k step (get_or ml k.index []) in
        let e = set_other ml key.index k.index x n in
        ih (set ml k.index x) (subst (AreNoted key ts) (sym e) h) ∙ e
    by_key (inr q) ih =
        let e : set ml k.index (noted ts k step (get_or ml k.index [])) ≡ ml = subst (λ (j : Key). set ml j.index (noted ts j step (get_or ml j.index [])) ≡ ml) (sym q) (ap (λ (x : List Mark). set ml key.index x) (noted_all ts key step (get_or ml key.index []) h) ∙ set-get_or ml key.index []) in
        subst (λ (l : List (List Mark)). get_or (notes_keys ts step ks l) key.index [] ≡ get_or ml key.index []) (sym e) (ih ml h)

-- notes of registers: of this one too, or not
pub notes_each : (ts : List (List RegReply)) (step : ℕ) (keys : List Key) (ml : List (List Mark)) (key : Key) → key.index < length ml → OnlyKey key keys → ((z : Carstamp) → stamp_le z opening_stamp ≡ false → is_some (first_mark (get_or ml key.index []) z) ≡ true → is_held ts key z ≡ true) → (NoKey key keys × (get_or (notes_keys ts step keys ml) key.index [] ≡ get_or ml key.index [])) ⊎ ((z : Carstamp) → stamp_le z opening_stamp ≡ false → Notes key step ts (get_or ml key.index []) (get_or (notes_keys ts step keys ml) key.index []) z)
notes_each ts step [] ml key l o up = inl (tt, refl)
notes_each ts step (k ∷ ks) ml key l o up = by_key o.0 (notes_each ts step ks (set ml k.index x) key (subst (λ (j : ℕ). key.index < j) (sym (length-set ml k.index x)) l) o.1)
  where
    x : List Mark
    x = noted ts k step (get_or ml k.index [])

    by_rest : (k.index ≡ key.index → ⊥) → get_or (set ml k.index x) key.index [] ≡ get_or ml key.index [] → (NoKey key ks × (get_or (notes_keys ts step ks (set ml k.index x)) key.index [] ≡ get_or (set ml k.index x) key.index [])) ⊎ ((z : Carstamp) → stamp_le z opening_stamp ≡ false → Notes key step ts (get_or (set ml k.index x) key.index []) (get_or (notes_keys ts step ks (set ml k.index x)) key.index []) z) → (NoKey key (k ∷ ks) × (get_or (notes_keys ts step (k ∷ ks) ml) key.index [] ≡ get_or ml key.index [])) ⊎ ((z : Carstamp) → stamp_le z opening_stamp ≡ false → Notes key step ts (get_or ml key.index []) (get_or (notes_keys ts step (k ∷ ks) ml) key.index []) z)
    by_rest n e (inl p) = inl ((n, p.0), p.1 ∙ e)
    by_rest n e (inr p) = inr (λ z f. subst (λ (marks : List Mark). Notes key step ts marks (get_or (notes_keys ts step ks (set ml k.index x)) key.index []) z) e (p z f))

    by_key : ((k.index ≡ key.index → ⊥) ⊎ (k ≡ key)) → (((z : Carstamp) → stamp_le z opening_stamp ≡ false → is_some (first_mark (get_or (set ml k.index x) key.index []) z) ≡ true → is_held ts key z ≡ true) → (NoKey key ks × (get_or (notes_keys ts step ks (set ml k.index x)) key.index [] ≡ get_or (set ml k.index x) key.index [])) ⊎ ((z : Carstamp) → stamp_le z opening_stamp ≡ false → Notes key step ts (get_or (set ml k.index x) key.index []) (get_or (notes_keys ts step ks (set ml k.index x)) key.index []) z)) → (NoKey key (k ∷ ks) × (get_or (notes_keys ts step (k ∷ ks) ml) key.index [] ≡ get_or ml key.index [])) ⊎ ((z : Carstamp) → stamp_le z opening_stamp ≡ false → Notes key step ts (get_or ml key.index []) (get_or (notes_keys ts step (k ∷ ks) ml) key.index []) z)
    by_key (inl n) ih =
        let e = set_other ml key.index k.index x n in
        by_rest n e (ih (λ z f g. up z f (subst (λ (marks : List Mark). is_some (first_mark marks z) ≡ true) e g)))
    by_key (inr q) ih = inr (λ z f. subst (λ (marks : List Mark). Notes key step ts (get_or ml key.index []) marks z) (sym same) (own z f))
      where
        y : List Mark
        y = noted ts key step (get_or ml key.index [])

        own : (z : Carstamp) → stamp_le z opening_stamp ≡ false → Notes key step ts (get_or ml key.index []) y z
        own z f = noted_own ts key step (get_or ml key.index []) z f (up z f)

        there : get_or (set ml key.index y) key.index [] ≡ y
        there = set_own ml key.index y l

        same : get_or (notes_keys ts step (k ∷ ks) ml) key.index [] ≡ y
        same = subst (λ (j : Key). get_or (notes_keys ts step ks (set ml j.index (noted ts j step (get_or ml j.index [])))) key.index [] ≡ y) (sym q)
            (notes_same ts step ks (set ml key.index y) key o.1 (subst (AreNoted key ts) (sym there) (λ z f. (own z f).told)) ∙ there)

-- a request that raises no register of this number leaves what is held of it
accept_all_other : (deps : List Dep) (cells : List RegReply) (key : Key) → NoKey key (map (λ (dep : Dep). dep.key) deps) → held_at (accept_all cells deps) key ≡ held_at cells key
accept_all_other [] cells key n = refl
accept_all_other (dep ∷ deps) cells key n = accept_all_other deps (accept cells dep.key (dep_cell dep)) key n.1 ∙ accept_other cells dep.key key (dep_cell dep) n.0

after_other : (cells : List RegReply) (r : Request) (key : Key) → NoKey key (raised_by r) → held_at (replica_after cells r) key ≡ held_at cells key
unfolding replica_after
after_other cells (request.Store other value stamp writer) key n = accept_other cells other key (record { value = value; stamp = stamp; writer = writer }) n.0
after_other cells (request.Fix deps) key n = accept_all_other deps cells key n
after_other cells (request.Ask other) key n = refl
after_other cells (request.Stamp other) key n = refl
after_other cells (request.Lock attempt coordinator reads writes) key n = refl
after_other cells (request.Prepare attempt least earliest_end writes) key n = refl
after_other cells (request.Decide attempt commit time) key n = refl
after_other cells (request.Commit attempt commit_time) key n = refl
after_other cells (request.Abort attempt) key n = refl
after_other cells (request.Inquire attempt) key n = refl
after_other cells (request.Release attempt time last) key n = refl
after_other cells (request.Snapshot read_time least keys skip) key n = refl

-- one of a service's replicas serves a request
pub notes_serve : (key : Key) (rs : List (List RegReply)) (i step : ℕ) (r : Request) (ml : List (List Mark)) → key.index < length ml → OnlyKey key (raised_by r) → AreNoted key rs (get_or ml key.index []) → (z : Carstamp) → stamp_le z opening_stamp ≡ false → Notes key step (set rs i (replica_after (get_or rs i []) r)) (get_or ml key.index []) (get_or (notes_keys (set rs i (replica_after (get_or rs i []) r)) step (raised_by r) ml) key.index []) z
notes_serve key rs i step r ml l o h z f = by_notes (notes_each ts step (raised_by r) ml key l o (λ y g e. set_rises rs i cells key y (after-rises (get_or rs i []) r key) (sym (h y g) ∙ e)))
  where
    cells : List RegReply
    cells = replica_after (get_or rs i []) r

    ts : List (List RegReply)
    ts = set rs i cells

    by_notes : (NoKey key (raised_by r) × (get_or (notes_keys ts step (raised_by r) ml) key.index [] ≡ get_or ml key.index [])) ⊎ ((y : Carstamp) → stamp_le y opening_stamp ≡ false → Notes key step ts (get_or ml key.index []) (get_or (notes_keys ts step (raised_by r) ml) key.index []) y) → Notes key step ts (get_or ml key.index []) (get_or (notes_keys ts step (raised_by r) ml) key.index []) z
    by_notes (inl p) = record {
      told = ap (λ (marks : List Mark). is_some (first_mark marks z)) p.1 ∙ h z f ∙ sym (set_same rs i cells key z (after_other (get_or rs i []) r key p.0));
      first = inl (ap (λ (marks : List Mark). first_mark marks z) p.1);
    }
    by_notes (inr p) = p z f
