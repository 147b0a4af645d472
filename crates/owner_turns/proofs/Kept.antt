-- What a cut leaves.
use Rattle.std.proofs.Common.{◌≡◌, ℕ, Bool, true, false, List, Some, None, refl, ap, subst, sym, ◌∙◌}
use Rattle.std.specs.Prelude.{if◌then◌else◌}
use Rattle.rss_names.specs.Services.{same_service}
use Rattle.rss_names.specs.declared.attempt.Attempt.{Attempt}
use Rattle.rss_names.specs.declared.service.ServiceId.{ServiceId}
use Rattle.rss_names.specs.declared.service.Target.TheVariants.{Replica}
use Rattle.rss_tables.specs.RegisterSession.{RegSession, goes_on}
use Rattle.rss_tables.specs.Round.{cuts}
use Rattle.rss_machine.specs.Moves.{session_without, round_without}
use Rattle.rss_machine.specs.Session.{Session}
use Rattle.rss_machine.specs.declared.session.OwnerKind.{OwnerKind}
use Rattle.rss_machine.specs.declared.session.OwnerKind.TheVariants as kind
use Rattle.rss_machine.specs.declared.session.Session.TheVariants as session
use Rattle.owner_sessions.specs.Parts.{session_of, settling_in, doing_without, versions_in, skips_in}
use Rattle.owner_sessions.specs.declared.doing.Doing.{Doing}
use Rattle.owner_sessions.specs.declared.doing.Doing.TheVariants as doing
use Rattle.owner_turns.specs.Whole.{OwnerFits, DoingFits, WorkServed}

settling_without : (k : OwnerKind) (id : ServiceId) (replica : ℕ) → settling_in k ≡ session_without (settling_in k) (Replica id replica)
settling_without (kind.Stubbing (Some unsettled)) id replica = refl
settling_without (kind.Stubbing None) id replica = refl
settling_without (kind.Calling x) id replica = refl
settling_without kind.Fencing id replica = refl

pub cut_session : (k : OwnerKind) (d : Doing) (id : ServiceId) (replica : ℕ) → session_of k (doing_without d id replica) ≡ session_without (session_of k d) (Replica id replica)
cut_session k doing.Idle id replica = refl
cut_session k (doing.Fixing r) id replica = refl
cut_session k (doing.Register r) id replica = refl
cut_session k (doing.Transaction c t) id replica = refl
cut_session k (doing.Snapshot c t) id replica = refl
cut_session k doing.Settling id replica = settling_without k id replica

pub cut_versions : (d : Doing) (id : ServiceId) (replica : ℕ) → versions_in (doing_without d id replica) ≡ versions_in d
cut_versions doing.Idle id replica = refl
cut_versions (doing.Fixing r) id replica = refl
cut_versions (doing.Register r) id replica = refl
cut_versions (doing.Transaction c t) id replica = refl
cut_versions (doing.Snapshot c t) id replica = refl
cut_versions doing.Settling id replica = refl

pub cut_skips : (d : Doing) (id : ServiceId) (replica : ℕ) → skips_in (doing_without d id replica) ≡ skips_in d
cut_skips doing.Idle id replica = refl
cut_skips (doing.Fixing r) id replica = refl
cut_skips (doing.Register r) id replica = refl
cut_skips (doing.Transaction c t) id replica = refl
cut_skips (doing.Snapshot c t) id replica = refl
cut_skips doing.Settling id replica = refl

without_phase : (r : RegSession) (id : ServiceId) (replica : ℕ) → (round_without r id replica).phase ≡ r.phase
without_phase r id replica = by (same_service r.service id)
  where
    by : (b : Bool) → (if b then record r { round = cuts r.round replica } else r).phase ≡ r.phase
    by true = refl
    by false = refl

without_work : (r : RegSession) (id : ServiceId) (replica : ℕ) → (round_without r id replica).work ≡ r.work
without_work r id replica = by (same_service r.service id)
  where
    by : (b : Bool) → (if b then record r { round = cuts r.round replica } else r).work ≡ r.work
    by true = refl
    by false = refl

pub cut_fits : (k : OwnerKind) (d : Doing) (id : ServiceId) (replica : ℕ) → OwnerFits k d → OwnerFits k (doing_without d id replica)
cut_fits k d id replica h = record { of_kind = h.of_kind; of_doing = by d h.of_doing }
  where
    by : (x : Doing) → DoingFits k x → DoingFits k (doing_without x id replica)
    by doing.Idle f = tt
    by (doing.Fixing r) f = ap goes_on (without_phase r id replica) ∙ f
    by (doing.Register r) f = subst WorkServed (sym (without_work r id replica)) f
    by (doing.Transaction c t) f = tt
    by (doing.Snapshot c t) f = tt
    by doing.Settling f = f

pub ruleset cutting = (cut_session, cut_versions, cut_skips, cut_fits)
