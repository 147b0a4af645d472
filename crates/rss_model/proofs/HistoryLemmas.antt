-- A history that goes on, and where its calls begin and end.
use Rattle.std.proofs.Common.{◌≡◌, ℕ, zero, suc, ◌<◌, ◌≤◌, ◌-◌, ◌⊎◌, Bool, true, false, List, [], ◌∷◌, ◌++◌, length, arith, refl}
use Rattle.std.proofs.lemmas.Grind.{common_steps}
use Rattle.std.specs.Prelude.{◌||◌, if◌then◌else◌, is_some}
use Rattle.rss_model.specs.declared.history.Entry.{Entry}
use Rattle.rss_model.specs.History.{entry_at, begins, ends, has_begun, has_ended, op_of, op_in, reply_of, reply_in, BeginsAt, EndsAt}
use Rattle.rss_model.specs.Stages.{stage_of, stage_in, ending_of}

-- an entry of the history so far, or one of those that follow
pub entry_at-append : (h k : List Entry) (i : ℕ) →
    ((entry_at (h ++ k) i ≡ entry_at h i) × (i < length h))
    ⊎ ((entry_at (h ++ k) i ≡ entry_at k (i - length h)) × (length h ≤ i))
entry_at-append h k i = grind (arith, common_steps)

pub has_begun-append :
    (h k : List Entry) (call : ℕ) → has_begun (h ++ k) call ≡ (has_begun h call || has_begun k call)
unfolding has_begun
has_begun-append [] k call = refl
has_begun-append (e ∷ h) k call = grind (arith, has_begun-append h k call)

pub has_ended-append :
    (h k : List Entry) (call : ℕ) → has_ended (h ++ k) call ≡ (has_ended h call || has_ended k call)
unfolding has_ended
has_ended-append [] k call = refl
has_ended-append (e ∷ h) k call = grind (arith, has_ended-append h k call)

pub op_of-append : (h k : List Entry) (call : ℕ) →
    op_of (h ++ k) call ≡ (if has_begun h call then op_of h call else op_of k call)
unfolding op_of has_begun
op_of-append [] k call = refl
op_of-append (e ∷ h) k call = grind (arith, op_of-append h k call)

pub stage_of-append : (h k : List Entry) (call : ℕ) →
    stage_of (h ++ k) call ≡ (if has_begun h call then stage_of h call else stage_of k call)
unfolding stage_of has_begun
stage_of-append [] k call = refl
stage_of-append (e ∷ h) k call = grind (arith, stage_of-append h k call)

pub reply_of-append : (h k : List Entry) (call : ℕ) →
    reply_of (h ++ k) call ≡ (if has_ended h call then reply_of h call else reply_of k call)
unfolding reply_of has_ended
reply_of-append [] k call = refl
reply_of-append (e ∷ h) k call = grind (arith, reply_of-append h k call)

pub ending_of-append : (h k : List Entry) (stage : ℕ) →
    ending_of (h ++ k) stage ≡
    (if is_some (ending_of h stage) then ending_of h stage else ending_of k stage)
unfolding ending_of
ending_of-append [] k stage = refl
ending_of-append (e ∷ h) k stage = grind (arith, ending_of-append h k stage)

-- the place where a call begins, and what its entry says
pub record Beginning (h : List Entry) (call : ℕ) : Type 0 where
  pub place : ℕ
  pub inside : place < length h
  pub begins : BeginsAt h call place
  pub op : op_of h call ≡ op_in (entry_at h place)
  pub stage : stage_of h call ≡ stage_in (entry_at h place)

-- the place where a call ends, and what its entry says
pub record Ending (h : List Entry) (call : ℕ) : Type 0 where
  pub place : ℕ
  pub inside : place < length h
  pub ends : EndsAt h call place
  pub reply : reply_of h call ≡ reply_in (entry_at h place)

beginning_here :
    (e : Entry) (h : List Entry) (call : ℕ) → begins call e ≡ true → Beginning (e ∷ h) call
unfolding op_of stage_of
beginning_here e h call f =
    record {
      place = 0;
      inside = omega arith;
      begins = f;
      op = grind (arith, f);
      stage = grind (arith, f);
    }

beginning_later :
    (e : Entry) (h : List Entry) (call : ℕ) → begins call e ≡ false → Beginning h call →
    Beginning (e ∷ h) call
unfolding op_of stage_of
beginning_later e h call f b =
    record {
      place = suc b.place;
      inside = omega (arith, b.inside);
      begins = b.begins;
      op = grind (arith, f, b.op);
      stage = grind (arith, f, b.stage);
    }

-- a call that has begun did so at some place
pub beginning_of : (h : List Entry) (call : ℕ) → has_begun h call ≡ true → Beginning h call
unfolding has_begun
beginning_of [] call b = absurd (grind (arith, b))
beginning_of (e ∷ h) call b = by_first (begins call e) refl (λ c. beginning_of h call c)
  where
    by_first : (t : Bool) → begins call e ≡ t → (has_begun h call ≡ true → Beginning h call) →
        Beginning (e ∷ h) call
    by_first true f later = beginning_here e h call f
    by_first false f later = beginning_later e h call f (later (grind (arith, b, f)))

ending_here : (e : Entry) (h : List Entry) (call : ℕ) → ends call e ≡ true → Ending (e ∷ h) call
unfolding reply_of
ending_here e h call f =
    record { place = 0; inside = omega arith; ends = f; reply = grind (arith, f) }

ending_later : (e : Entry) (h : List Entry) (call : ℕ) → ends call e ≡ false → Ending h call →
    Ending (e ∷ h) call
unfolding reply_of
ending_later e h call f b =
    record {
      place = suc b.place;
      inside = omega (arith, b.inside);
      ends = b.ends;
      reply = grind (arith, f, b.reply);
    }

-- a call that has ended did so at some place
pub end_of : (h : List Entry) (call : ℕ) → has_ended h call ≡ true → Ending h call
unfolding has_ended
end_of [] call b = absurd (grind (arith, b))
end_of (e ∷ h) call b = by_first (ends call e) refl (λ c. end_of h call c)
  where
    by_first : (t : Bool) → ends call e ≡ t → (has_ended h call ≡ true → Ending h call) →
        Ending (e ∷ h) call
    by_first true f later = ending_here e h call f
    by_first false f later = ending_later e h call f (later (grind (arith, b, f)))

-- a call that begins, or ends, at a place has begun, or ended
pub begins_at-has_begun :
    (h : List Entry) (call i : ℕ) → BeginsAt h call i → has_begun h call ≡ true
unfolding has_begun
begins_at-has_begun [] call i b = absurd (grind (arith, b))
begins_at-has_begun (e ∷ h) call zero b = grind (arith, b)
begins_at-has_begun (e ∷ h) call (suc i) b = grind (arith, begins_at-has_begun h call i b)

pub ends_at-has_ended : (h : List Entry) (call i : ℕ) → EndsAt h call i → has_ended h call ≡ true
unfolding has_ended
ends_at-has_ended [] call i b = absurd (grind (arith, b))
ends_at-has_ended (e ∷ h) call zero b = grind (arith, b)
ends_at-has_ended (e ∷ h) call (suc i) b = grind (arith, ends_at-has_ended h call i b)

-- a call that begins, or ends, does so inside the history
pub begins_at_inside : (h : List Entry) (call i : ℕ) → BeginsAt h call i → i < length h
begins_at_inside h call i b = grind (arith, common_steps, b)

pub ends_at_inside : (h : List Entry) (call i : ℕ) → EndsAt h call i → i < length h
ends_at_inside h call i b = grind (arith, common_steps, b)
