-- Where a call begins its operation and its stage stand, and where it ends its reply.
use Rattle.std.proofs.Common.{◌≡◌, ℕ, zero, suc, Bool, true, false, List, [], ◌∷◌, Option, Some, None, refl, arith, ap, ◌∙◌}
use Rattle.std.specs.Prelude.{slice_get, if◌then◌else◌}
use Rattle.std.proofs.lemmas.Grind.{common_steps}
use Rattle.rss_model.specs.declared.history.Entry.{Entry}
use Rattle.rss_model.specs.declared.history.Entry.TheVariants.{Begin, End, Give, Get, Over}
use Rattle.rss_model.specs.History.{begins, ends, has_begun, has_ended, op_of, op_in, reply_of, reply_in}
use Rattle.rss_model.specs.Stages.{stage_of, stage_in}
use Rattle.history_index.specs.Kept.{begin_place, end_place}
use Rattle.history_index.specs.There.{op_started, stage_started, reply_given, op_there, stage_there, reply_there}

started : (e : Entry) (call : ℕ) → begins call e ≡ true → (op_started (Some e) ≡ Some (op_in e)) × (stage_started (Some e) ≡ Some (stage_in e))
started (Begin c stage op) call b = (refl, refl)
started (End c reply) call b = absurd cc
started (Give stage token) call b = absurd cc
started (Get stage token) call b = absurd cc
started (Over stage how) call b = absurd cc

given : (e : Entry) (call : ℕ) → ends call e ≡ true → reply_given (Some e) ≡ Some (reply_in e)
given (Begin c stage op) call b = absurd cc
given (End c reply) call b = refl
given (Give stage token) call b = absurd cc
given (Get stage token) call b = absurd cc
given (Over stage how) call b = absurd cc

pub op_there_is : (h : List Entry) (call : ℕ) → has_begun h call ≡ true → op_there h (begin_place h call) ≡ Some (op_of h call)
unfolding has_begun op_of begin_place
op_there_is [] call b = absurd cc
op_there_is (e ∷ h) call b = by_first (begins call e) refl (op_there_is h call)
  where
    by_first : (t : Bool) → begins call e ≡ t → (has_begun h call ≡ true → op_there h (begin_place h call) ≡ Some (op_of h call)) → op_there (e ∷ h) (begin_place (e ∷ h) call) ≡ Some (op_of (e ∷ h) call)
    by_first true t later = rw t (started e call t).0
    by_first false t later = rw t (later (rw t at b))

pub stage_there_is : (h : List Entry) (call : ℕ) → has_begun h call ≡ true → stage_there h (begin_place h call) ≡ Some (stage_of h call)
unfolding has_begun stage_of begin_place
stage_there_is [] call b = absurd cc
stage_there_is (e ∷ h) call b = by_first (begins call e) refl (stage_there_is h call)
  where
    by_first : (t : Bool) → begins call e ≡ t → (has_begun h call ≡ true → stage_there h (begin_place h call) ≡ Some (stage_of h call)) → stage_there (e ∷ h) (begin_place (e ∷ h) call) ≡ Some (stage_of (e ∷ h) call)
    by_first true t later = rw t (started e call t).1
    by_first false t later = rw t (later (rw t at b))

pub reply_there_is : (h : List Entry) (call : ℕ) → has_ended h call ≡ true → reply_there h (end_place h call) ≡ Some (reply_of h call)
unfolding has_ended reply_of end_place
reply_there_is [] call b = absurd cc
reply_there_is (e ∷ h) call b = by_first (ends call e) refl (reply_there_is h call)
  where
    by_first : (t : Bool) → ends call e ≡ t → (has_ended h call ≡ true → reply_there h (end_place h call) ≡ Some (reply_of h call)) → reply_there (e ∷ h) (end_place (e ∷ h) call) ≡ Some (reply_of (e ∷ h) call)
    by_first true t later = rw t (given e call t)
    by_first false t later = rw t (later (rw t at b))
