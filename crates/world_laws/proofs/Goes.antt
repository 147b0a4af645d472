-- How an owner that runs goes on, by the reasons of the rows: it stays what it is, what it has under way fits,
-- and no round of its own that is done is left.
use Rattle.std.proofs.Common.{◌≡◌, ℕ, Bool, true, false, List, Option, Some, None, refl, ap, sym, ◌∙◌, subst}
use Rattle.std.proofs.lemmas.Bool.{true≢false, cond_both}
use Rattle.truetime.specs.Reading.{Reading}
use Rattle.rss_names.specs.declared.service.ServiceId.{ServiceId}
use Rattle.rss_names.specs.declared.service.Target.TheVariants.{Replica}
use Rattle.rss_names.specs.Services.{same_service}
use Rattle.rss_wire.specs.declared.messages.Reply.{Reply}
use Rattle.rss_tables.specs.Outs.{Out}
use Rattle.rss_tables.specs.RegisterSession.{RegSession, session_after, phase_end}
use Rattle.rss_tables.specs.SnapshotSession.{SnapSession, snap_hears, snap_wakes}
use Rattle.rss_tables.specs.TransactionSession.{TxnSession, txn_hears, txn_wakes, txn_passes}
use Rattle.rss_tables.specs.declared.register_session.RegEnd.{RegEnd}
use Rattle.rss_machine.specs.Moves.{session_without}
use Rattle.rss_machine.specs.Session.{Session}
use Rattle.rss_machine.specs.Standing.{is_running}
use Rattle.rss_machine.specs.State.{State, Owner, owner_at}
use Rattle.rss_machine.specs.declared.session.OwnerKind.{OwnerKind}
use Rattle.rss_machine.specs.declared.session.Session.TheVariants as session
use Rattle.rss_machine.specs.declared.state.OwnerFate.TheVariants.{Ended}
use Rattle.world_laws.specs.Calls.{is_call, is_stub}
use Rattle.world_laws.proofs.Doings.{Resting, plans, past, fixed, cleared, Working, owes_nothing, is_past, enters_own, ShardTurning, txn_heard, txn_woken, txn_passed, snap_heard, snap_woken}
use Rattle.world_laws.proofs.Looks.{none_is_not}
use Rattle.world_laws.proofs.OwnerFits.{Fits, is_own, SessionFits, CallFits, fits_goes, fits_same, fits_enter, stub_not_own, works_not_own, after_fits}
use Rattle.world_laws.proofs.SessionMoves.{session_at}
use Rattle.world_laws.proofs.Told.{Stays}

-- an owner whose call's rounds are done has ended
pub record Finished (w : Owner) : Type 0 where
  pub ended : (r : RegSession) (e : RegEnd) → w.session ≡ session.Register r → phase_end r.phase ≡ Some e → w.fate ≡ Ended

pub record Goes (n : ℕ) (v w : Owner) : Type 0 where
  pub stays : Stays v w
  pub fits : Fits n w
  pub done : Finished w

abbrev pub stays : {v w : Owner} → w.fate ≡ v.fate → w.kind ≡ v.kind → w.stage ≡ v.stage → w.dates.begun ≡ v.dates.begun → Stays v w
stays a b d e = record { fate = a; kind = b; stage = d; begun = e }

-- whether rounds of a call are under way
abbrev pub is_register : Session → Bool
is_register session.Idle = false
is_register (session.Fixing r) = false
is_register (session.Register r) = true
is_register (session.Transaction t) = false
is_register (session.Snapshot t) = false
is_register (session.Settling attempt shards) = false

pub no_rounds : (w : Owner) → is_register w.session ≡ false → Finished w
no_rounds w e = record { ended = λ r x p q. absurd (true≢false (sym (ap is_register p) ∙ e)) }

pub finished_same : (v w : Owner) → w.session ≡ v.session → w.fate ≡ v.fate → Finished v → Finished w
finished_same v w a b h = record { ended = λ r x p q. b ∙ h.ended r x (sym a ∙ p) q }

register_same : (x : Session) (f g : RegSession) → x ≡ session.Register f → x ≡ session.Register g → f ≡ g
register_same x f g a b = cc

-- a round that goes on
pub goes_round : (w : Owner) (f : RegSession) → w.session ≡ session.Register f → phase_end f.phase ≡ None → Finished w
goes_round w f a b = record { ended = λ r x p q. absurd (none_is_not x (sym b ∙ (ap (λ (y : RegSession). phase_end y.phase) (register_same w.session f r a p) ∙ q))) }

-- a round of an owner that runs is not done
not_done : (v : Owner) (r : RegSession) → is_running v.fate ≡ true → v.session ≡ session.Register r → Finished v → (x : Option RegEnd) → phase_end r.phase ≡ x → x ≡ None
not_done v r a b h None e = refl
not_done v r a b h (Some x) e = absurd (true≢false (sym a ∙ ap is_running (h.ended r x b e)))

pub without_done : (v w : Owner) (x : Session) (id : ServiceId) (replica : ℕ) → is_running v.fate ≡ true → v.session ≡ x → w.session ≡ session_without x (Replica id replica) → Finished v → Finished w
without_done v w (session.Register r) id replica a b d h = goes_round w _ d (cond_both (same_service r.service id) _ r (λ (f : RegSession). phase_end f.phase ≡ None) (λ t. not_done v r a b h (phase_end r.phase) refl) (λ t. not_done v r a b h (phase_end r.phase) refl))
without_done v w (session.Fixing r) id replica a b d h = no_rounds w (ap is_register d)
without_done v w session.Idle id replica a b d h = no_rounds w (ap is_register d)
without_done v w (session.Transaction t) id replica a b d h = no_rounds w (ap is_register d)
without_done v w (session.Snapshot t) id replica a b d h = no_rounds w (ap is_register d)
without_done v w (session.Settling attempt shards) id replica a b d h = no_rounds w (ap is_register d)

-- an owner that changes nothing that is looked at
pub goes_same : (n : ℕ) (v w : Owner) → is_running v.fate ≡ true → Stays v w → w.dates ≡ v.dates → w.session ≡ v.session → w.works.left ≡ v.works.left → Fits n v → Finished v → Goes n v w
goes_same n v w r y d x l h f = record { stays = y; fits = fits_same n v w y.kind y.fate d x l (λ e. absurd (true≢false (sym r ∙ e))) h; done = finished_same v w x y.fate f }

-- an owner with nothing of its own under way, before and after
pub goes_idle : (n : ℕ) (v w : Owner) → is_running v.fate ≡ true → Stays v w → w.dates ≡ v.dates → is_own v.session ≡ false → is_own w.session ≡ false → SessionFits w.kind w.session → is_register w.session ≡ false → Fits n v → Goes n v w
goes_idle n v w r y d a b x z h = record { stays = y; fits = fits_goes n v w r y.fate d (b ∙ sym a) (λ e. absurd (true≢false (sym e ∙ b))) x h; done = no_rounds w z }

module _ (s : State) (o : ℕ) (r : is_running (owner_at s o).fate ≡ true) (h : Fits s.steps (owner_at s o)) where
  own_goes : (w : Owner) (x : Session) → Stays (owner_at s o) w → w.dates ≡ (owner_at s o).dates → w.works.left ≡ (owner_at s o).works.left → w.session ≡ x → is_own (session_at s o) ≡ is_own x → is_register x ≡ false → SessionFits w.kind x → Goes s.steps (owner_at s o) w
  own_goes w x y d l a b z f = record {
    stays = y;
    fits = fits_goes s.steps (owner_at s o) w r y.fate d (ap is_own a ∙ sym b) (λ e. l) (subst (SessionFits w.kind) (sym a) f) h;
    done = no_rounds w (ap is_register a ∙ z);
  }

  txn_goes : (w : Owner) (t u : TxnSession) → Stays (owner_at s o) w → w.dates ≡ (owner_at s o).dates → w.works.left ≡ (owner_at s o).works.left → w.session ≡ session.Transaction u → session_at s o ≡ session.Transaction t → Goes s.steps (owner_at s o) w
  txn_goes w t u y d l a e = own_goes w (session.Transaction u) y d l a (ap is_own e) refl (ap is_call y.kind ∙ subst (SessionFits (owner_at s o).kind) e h.session)

  snap_goes : (w : Owner) (t u : SnapSession) → Stays (owner_at s o) w → w.dates ≡ (owner_at s o).dates → w.works.left ≡ (owner_at s o).works.left → w.session ≡ session.Snapshot u → session_at s o ≡ session.Snapshot t → Goes s.steps (owner_at s o) w
  snap_goes w t u y d l a e = own_goes w (session.Snapshot u) y d l a (ap is_own e) refl (ap is_call y.kind ∙ subst (SessionFits (owner_at s o).kind) e h.session)

  -- rounds of a call, and rounds of dependencies, hear a reply
  pub round_goes : (w : Owner) (f : RegSession) (from : ℕ) (reply : Reply) → Stays (owner_at s o) w → w.dates ≡ (owner_at s o).dates → w.works.left ≡ (owner_at s o).works.left → w.session ≡ session.Register (session_after f from reply) → session_at s o ≡ session.Register f → Stays (owner_at s o) w × Fits s.steps w
  round_goes w f from reply y d l a e =
      (y, fits_goes s.steps (owner_at s o) w r y.fate d (ap is_own a ∙ ap is_own (sym e)) (λ z. l) (subst (SessionFits w.kind) (sym a) (subst (λ (k : OwnerKind). CallFits k (session_after f from reply)) (sym y.kind) (after_fits (owner_at s o).kind f from reply (subst (SessionFits (owner_at s o).kind) e h.session)))) h)

  pub fix_goes : (w : Owner) (f g : RegSession) → Stays (owner_at s o) w → w.dates ≡ (owner_at s o).dates → w.works.left ≡ (owner_at s o).works.left → w.session ≡ session.Fixing g → session_at s o ≡ session.Fixing f → Goes s.steps (owner_at s o) w
  fix_goes w f g y d l a e = own_goes w (session.Fixing g) y d l a (ap is_own e) refl tt

  -- an owner comes to rest
  pub resting_goes : (w : Owner) → Resting s o w → Goes s.steps (owner_at s o) w × (w.session ≡ session.Idle)
  resting_goes w (plans e b) = (goes_idle s.steps (owner_at s o) w r (stays refl refl refl refl) refl (stub_not_own s.steps (owner_at s o) (ap is_stub e) h) refl tt refl h, refl)
  resting_goes w (past id x rest time l e) = (goes_idle s.steps (owner_at s o) w r (stays refl refl refl refl) refl (works_not_own s.steps (owner_at s o) (id, x) rest l h) refl tt refl h, refl)
  resting_goes w (fixed id x rest f e l a b d) = (goes_idle s.steps (owner_at s o) w r (stays refl refl refl refl) refl (ap is_own a) refl tt refl h, refl)
  resting_goes w (cleared f e l a b d) = (goes_idle s.steps (owner_at s o) w r (stays refl refl refl refl) refl (ap is_own a) refl tt refl h, refl)

  -- it goes from work to work
  pub working_goes : (at : Reading) (w : Owner) → session_at s o ≡ session.Idle → Working at s o w → Goes s.steps (owner_at s o) w × (w.session ≡ session.Idle)
  working_goes at w i (owes_nothing id rest l) = (goes_idle s.steps (owner_at s o) w r (stays refl refl refl refl) refl (ap is_own i) refl tt refl h, refl)
  working_goes at w i (is_past id time rest l e) = (goes_idle s.steps (owner_at s o) w r (stays refl refl refl refl) refl (ap is_own i) refl tt refl h, refl)
  working_goes at w i (enters_own x l e f) =
      (record { stays = stays refl refl refl refl; fits = fits_enter s.steps (owner_at s o) w r refl refl (ap is_own i) refl refl h; done = no_rounds w (ap is_register i) }, i)

  -- and what it has under way with shards takes a turn
  pub turning_goes : (w : Owner) (x : Session) (outs : List Out) → Stays (owner_at s o) w → w.dates ≡ (owner_at s o).dates → w.works.left ≡ (owner_at s o).works.left → w.session ≡ x → ShardTurning s o x outs → Goes s.steps (owner_at s o) w
  turning_goes w _ _ y d l a (txn_heard t line at reply e) = txn_goes w t (txn_hears t line at reply).after y d l a e
  turning_goes w _ _ y d l a (txn_woken t line e) = txn_goes w t (txn_wakes t line).after y d l a e
  turning_goes w _ _ y d l a (txn_passed t e) = txn_goes w t (txn_passes t t.phase).after y d l a e
  turning_goes w _ _ y d l a (snap_heard t line reply e) = snap_goes w t (snap_hears t line reply).after y d l a e
  turning_goes w _ _ y d l a (snap_woken t line e) = snap_goes w t (snap_wakes t line).after y d l a e
