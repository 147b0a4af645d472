-- A round is agreed exactly where all cells heard have one stamp.
use Rattle.std.proofs.Common.{◌≡◌, ℕ, suc, zero, Bool, true, false, ◌&&◌, List, [], ◌∷◌, Option, Some, None, refl, arith, sym, ◌∙◌}
use Rattle.std.proofs.lemmas.Grind.{common_steps}
use Rattle.rss_wire.specs.declared.messages.RegReply.{RegReply}
use Rattle.rss_tables.specs.Round.{Round, greatest_heard, same_stamp, all_agree, is_agreed}
use Rattle.gryff_quorum.specs.Heard.{heard_at, HaveOneStamp, IsCellAtMost}
use Rattle.gryff_quorum.proofs.GreatestHeard.{greatest_is_greatest}

both : (a b : Bool) → (a && b) ≡ true → (a ≡ true) × (b ≡ true)
both true b e = (refl, e)
both false b e = cc

same-stamp : (a b : RegReply) → same_stamp a b ≡ true → a.stamp ≡ b.stamp
same-stamp a b e = grind (arith, common_steps, e)

stamp-same : (a b : RegReply) → a.stamp ≡ b.stamp → same_stamp a b ≡ true
stamp-same a b e = grind (arith, common_steps, e)

-- each cell heard has the stamp of this one
agree-stamp : (cell : RegReply) (heard : List (Option RegReply)) → all_agree cell heard ≡ true → (at : ℕ) (other : RegReply) → heard_at heard at ≡ Some other → cell.stamp ≡ other.stamp
agree-stamp cell [] e at other h = cc
agree-stamp cell (None ∷ heard) e zero other h = cc
agree-stamp cell (None ∷ heard) e (suc at) other h = agree-stamp cell heard e at other h
agree-stamp cell (Some first ∷ heard) e zero other h =
    let p = both (same_stamp cell first) (all_agree cell heard) e in
    let q : cell.stamp ≡ first.stamp = same-stamp cell first p.0 in
    cc
agree-stamp cell (Some first ∷ heard) e (suc at) other h = agree-stamp cell heard (both (same_stamp cell first) (all_agree cell heard) e).1 at other h

stamp-agree : (cell : RegReply) (heard : List (Option RegReply)) → ((at : ℕ) (other : RegReply) → heard_at heard at ≡ Some other → cell.stamp ≡ other.stamp) → all_agree cell heard ≡ true
stamp-agree cell [] h = refl
stamp-agree cell (None ∷ heard) h = stamp-agree cell heard (λ at other e. h (suc at) other e)
stamp-agree cell (Some first ∷ heard) h =
    let p : same_stamp cell first ≡ true = stamp-same cell first (h 0 first refl) in
    let q : all_agree cell heard ≡ true = stamp-agree cell heard (λ at other e. h (suc at) other e) in
    cc

-- all cells heard of an agreed round have one stamp
pub agreed_has_one_stamp : (round : Round) → is_agreed round ≡ true → HaveOneStamp round.heard
agreed_has_one_stamp round e = go (greatest_heard round) refl
  where
    go : (best : Option RegReply) → greatest_heard round ≡ best → HaveOneStamp round.heard
    go None p = λ i j a b h k. let above : IsCellAtMost (heard_at round.heard i) (greatest_heard round) = (greatest_is_greatest round).none_above i in absurd (rw (h, p) at above)
    go (Some best) p = λ i j a b h k. let q : all_agree best round.heard ≡ true = cc in sym (agree-stamp best round.heard q i a h) ∙ agree-stamp best round.heard q j b k

-- and a round of which all cells heard have one stamp is agreed
pub one_stamp_is_agreed : (round : Round) → HaveOneStamp round.heard → is_agreed round ≡ true
one_stamp_is_agreed round h = go (greatest_heard round) refl
  where
    go : (best : Option RegReply) → greatest_heard round ≡ best → is_agreed round ≡ true
    go None p = rw p refl
    go (Some best) p = let one = (greatest_is_greatest round).was_heard best p in let q : all_agree best round.heard ≡ true = stamp-agree best round.heard (λ at other e. h one.0 at best other one.1 e) in rw p q

pub ruleset agreement = (agreed_has_one_stamp, one_stamp_is_agreed)
