-- Marks on the places of a history, one by one.
use Rattle.std.proofs.Common.{◌≡◌, ℕ, ◌<◌, ◌+◌, Bool, false, List, length, get_or, drop, refl, add-one, drop-cons}
use Rattle.std.specs.Prelude.{◌||◌, ◌&&◌}
use Rattle.rss_model.specs.declared.history.Entry.{Entry}
use Rattle.rss_model.specs.declared.history.Entry.TheVariants.{Over}
use Rattle.rss_model.specs.declared.history.How.TheVariants.{Exited}
use Rattle.rss_model.specs.History.{entry_at, begins}
use Rattle.plain_model.specs.Messages.{begins_marked, leads_from, leads}

pub begins_marked-drop : (marks : List Bool) (h : List Entry) (call i : ℕ) →
    i < length marks → i < length h →
    begins_marked (drop i marks) (drop i h) call ≡
    ((get_or marks i false && begins call (entry_at h i))
    || begins_marked (drop (i + 1) marks) (drop (i + 1) h) call)
begins_marked-drop marks h call i l m =
    rw (add-one, drop-cons marks i false, drop-cons h i (Over 0 Exited)) refl

pub leads_from-drop : (h : List Entry) (marks : List Bool) (above : List Entry) (e : Entry) (i : ℕ) →
    i < length marks → i < length above →
    leads_from h (drop i marks) (drop i above) e ≡
    ((get_or marks i false && leads h (entry_at above i) e)
    || leads_from h (drop (i + 1) marks) (drop (i + 1) above) e)
leads_from-drop h marks above e i l m =
    rw (add-one, drop-cons marks i false, drop-cons above i (Over 0 Exited)) refl
