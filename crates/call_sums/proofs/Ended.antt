-- A call has ended where a reply of it is found.
use Rattle.std.proofs.Common.{◌≡◌, ℕ, true, false, List, Some, None, sym, subst}
use Rattle.rss_model.specs.declared.history.Entry.{Entry}
use Rattle.rss_model.specs.declared.op.Shown.{Shown}
use Rattle.rss_model.specs.History.{has_ended}
use Rattle.plain_model.specs.Found.{found_reply}
use Rattle.plain_model.proofs.FoundLemmas.{HasEnded, found_reply-is}

pub found_ended : (h : List Entry) (call : ℕ) (reply : List Shown) → Some reply ≡ found_reply h call → true ≡ has_ended h call
found_ended h call reply e = sym ((subst (HasEnded h call) (sym e) (found_reply-is h call)).0)

pub found_open : (h : List Entry) (call : ℕ) → None ≡ found_reply h call → false ≡ has_ended h call
found_open h call e = sym ((subst (HasEnded h call) (sym e) (found_reply-is h call)).0)

pub ruleset found = (found_ended, found_open)
