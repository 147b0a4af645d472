-- What is counted of services place by place.
use Rattle.std.proofs.Common.{◌≡◌, ℕ, ◌+◌, ◌-◌, ◌<◌, Bool, List, [], ◌∷◌, ◌++◌, Option, refl, sym, ap, ◌∙◌}
use Rattle.rss_names.specs.declared.service.ServiceId.{ServiceId}
use Rattle.causal_context.specs.Seen.{Seen}
use Rattle.rss_tables.specs.declared.fences.FenceWork.{FenceWork}
use Rattle.session_stub.specs.Picked.{fences_from}
use Rattle.session_stub.proofs.Picks.{pick_more}
use Rattle.librss_registry.specs.Registered.{one_more, counted, Leaves}

-- some fences, and then others
counted_append : (fences others : List (ServiceId × FenceWork)) (ids : List ServiceId) (counts : List ℕ) → counted (fences ++ others) ids counts ≡ counted others ids (counted fences ids counts)
counted_append [] others ids counts = refl
counted_append (f ∷ fences) others ids counts = counted_append fences others ids (one_more f.0 ids counts)

-- one more service of a loop
pub counted_later : (seen : Seen) (except : Option ServiceId) (place : ℕ) (ids known : List ServiceId) (old now whole : List ℕ) → place < 16 → known ≡ ids → now ≡ counted (fences_from seen except place 1) known old → counted (fences_from seen except place (16 - place)) ids old ≡ whole → counted (fences_from seen except (place + 1) (16 - (place + 1))) ids now ≡ whole
counted_later seen except place ids known old now whole l k e w =
    let split : fences_from seen except place 1 ++ fences_from seen except (place + 1) (16 - (place + 1)) ≡ fences_from seen except place (16 - place) = pick_more seen except place [] (fences_from seen except place 1) (fences_from seen except place (16 - place)) l refl refl in
    ap (counted (fences_from seen except (place + 1) (16 - (place + 1))) ids) (e ∙ ap (λ (i : List ServiceId). counted (fences_from seen except place 1) i old) k)
    ∙ sym (counted_append (fences_from seen except place 1) (fences_from seen except (place + 1) (16 - (place + 1))) ids old)
    ∙ ap (λ (l : List (ServiceId × FenceWork)). counted l ids old) split
    ∙ w

-- none was called yet
pub leaves_all : {S : Type 0} (picks : S → Bool) (services : List S) → Leaves picks services services
leaves_all picks services = record { same = λ at d h. refl }

-- and then others
pub leaves_then : {S : Type 0} (picks : S → Bool) (old now next : List S) → Leaves picks old now → Leaves picks now next → Leaves picks old next
leaves_then picks old now next a b = record { same = λ at d h. b.same at d (ap picks (a.same at d h) ∙ h) ∙ a.same at d h }
