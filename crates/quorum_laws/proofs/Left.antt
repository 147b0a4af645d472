-- A round that is neither reached nor lost has a replica left.
use Rattle.std.proofs.Common.{◌≡◌, ℕ, zero, suc, ◌<◌, Bool, true, false, List, [], ◌∷◌, get_or, Option, Some, None, refl, ap, arith}
use Rattle.std.specs.Prelude.{is_some, IsFalse}
use Rattle.std.proofs.lemmas.Bool.{leb-false, ltb-false, true≢false}
use Rattle.rss_wire.specs.declared.messages.RegReply.{RegReply}
use Rattle.rss_tables.specs.Round.{Round, majority, spare, count_heard, count_cut, is_reached, is_lost}
use Rattle.quorum_laws.specs.Majority.{count_passing}
use Rattle.quorum_laws.specs.Heard.{HasReplicaLeft}
use Rattle.quorum_laws.proofs.Counts.{passes_at, none_passes}
use Rattle.quorum_laws.proofs.Rounds.{count_heard-passing}

-- whether a replica is cut off
abbrev is_cut : Bool → Bool
is_cut cut = cut

count_cut-passing : (cut : List Bool) → count_cut cut ≡ count_passing is_cut cut
count_cut-passing [] = refl
count_cut-passing (true ∷ cut) = ap suc (count_cut-passing cut)
count_cut-passing (false ∷ cut) = count_cut-passing cut

unheard_at : (heard : List (Option RegReply)) (i : ℕ) → passes_at is_some heard i ≡ false →
    get_or heard i None ≡ None
unheard_at [] i e = refl
unheard_at (None ∷ heard) zero e = refl
unheard_at (Some cell ∷ heard) zero e = absurd (true≢false e)
unheard_at (o ∷ heard) (suc i) e = unheard_at heard i e

uncut_at : (cut : List Bool) (i : ℕ) → passes_at is_cut cut i ≡ false → get_or cut i false ≡ false
uncut_at [] i e = refl
uncut_at (t ∷ cut) zero e = e
uncut_at (t ∷ cut) (suc i) e = uncut_at cut i e

pub replica_left : (round : Round) → 0 < round.replicas → IsFalse (is_reached round) →
    IsFalse (is_lost round) → HasReplicaLeft round
replica_left round l e f =
    let few = leb-false (majority round.replicas) (count_heard round.heard) e in
    let enough = ltb-false (spare round.replicas) (count_cut round.cut) f in
    let p = none_passes is_some is_cut round.replicas round.heard round.cut
    (omega (arith, l, few, enough, count_heard-passing round.heard, count_cut-passing round.cut)) in
    record { place = p.0; inside = p.1; unheard = unheard_at round.heard p.0 p.2; uncut = uncut_at round.cut p.0 p.3 }
