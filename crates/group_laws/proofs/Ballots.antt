-- The order of ballots.
use Rattle.std.proofs.Common.{◌≡◌, ℕ, ◌+◌, ◌<◌, ◌≤◌, ◌⊎◌, inl, inr, true, arith, sym, subst}
use Rattle.std.specs.Prelude.{◌==◌}
use Rattle.std.proofs.lemmas.Grind.{common_steps}
use Rattle.std.proofs.lemmas.Bool.{cases_lt, eqb-true, and_parts}
use Rattle.group_tables.specs.declared.messages.Ballot.{Ballot}
use Rattle.group_tables.specs.Ballots.{ballot_lt, ballot_le, same_ballot}
use Rattle.group_laws.specs.Order.{IsBelow, IsUpTo}

same_fields : (a b : Ballot) → a.round ≡ b.round → a.member ≡ b.member → a ≡ b
same_fields a b r m = grind (arith, r, m)

lt_round : (a b : Ballot) → a.round < b.round → ballot_lt a b ≡ true
lt_round a b h = grind (arith, common_steps, h)

lt_member : (a b : Ballot) → a.round ≡ b.round → a.member < b.member → ballot_lt a b ≡ true
lt_member a b r h = grind (arith, common_steps, r, h)

-- two ballots are one, or one is before the other
pub data Compared (a b : Ballot) : Type 0 where
  is_below : IsBelow a b → Compared a b
  is_same : a ≡ b → Compared a b
  is_above : IsBelow b a → Compared a b

by_member : (a b : Ballot) → a.round ≡ b.round → (a.member < b.member) ⊎ (b.member ≤ a.member) → (b.member < a.member) ⊎ (a.member ≤ b.member) → Compared a b
by_member a b r (inl lt) g = is_below (record { is = lt_member a b r lt })
by_member a b r (inr ge) (inl gt) = is_above (record { is = lt_member b a (sym r) gt })
by_member a b r (inr ge) (inr le) = is_same (same_fields a b r (omega (arith, ge, le)))

by_round : (a b : Ballot) → (a.round < b.round) ⊎ (b.round ≤ a.round) → (b.round < a.round) ⊎ (a.round ≤ b.round) → Compared a b
by_round a b (inl lt) g = is_below (record { is = lt_round a b lt })
by_round a b (inr ge) (inl gt) = is_above (record { is = lt_round b a gt })
by_round a b (inr ge) (inr le) = by_member a b (omega (arith, ge, le)) (cases_lt a.member b.member) (cases_lt b.member a.member)

pub compare : (a b : Ballot) → Compared a b
compare a b = by_round a b (cases_lt a.round b.round) (cases_lt b.round a.round)

lt_le : (a b : Ballot) → ballot_lt a b ≡ true → ballot_le a b ≡ true
lt_le a b h = grind (arith, common_steps, h)

le_same : (a : Ballot) → ballot_le a a ≡ true
le_same a = grind (arith, common_steps)

lt_le_lt : (a b c : Ballot) → ballot_lt a b ≡ true → ballot_le b c ≡ true → ballot_lt a c ≡ true
lt_le_lt a b c h k = grind (arith, common_steps, h, k)

le_lt_lt : (a b c : Ballot) → ballot_le a b ≡ true → ballot_lt b c ≡ true → ballot_lt a c ≡ true
le_lt_lt a b c h k = grind (arith, common_steps, h, k)

le_le_le : (a b c : Ballot) → ballot_le a b ≡ true → ballot_le b c ≡ true → ballot_le a c ≡ true
le_le_le a b c h k = grind (arith, common_steps, h, k)

lt_not_le : (a b : Ballot) → ballot_lt a b ≡ true → ballot_le b a ≡ true → ⊥
lt_not_le a b h k = grind (arith, common_steps, h, k)

pub up_to : {a b : Ballot} → IsBelow a b → IsUpTo a b
up_to {a = a} {b = b} h = record { is = lt_le a b h.is }

pub up_to_itself : (a : Ballot) → IsUpTo a a
up_to_itself a = record { is = le_same a }

pub up_to_same : {a b : Ballot} → a ≡ b → IsUpTo a b
up_to_same {a = a} e = subst (λ (x : Ballot). IsUpTo a x) e (up_to_itself a)

pub below_up_to : {a b c : Ballot} → IsBelow a b → IsUpTo b c → IsBelow a c
below_up_to {a = a} {b = b} {c = c} h k = record { is = lt_le_lt a b c h.is k.is }

pub up_to_below : {a b c : Ballot} → IsUpTo a b → IsBelow b c → IsBelow a c
up_to_below {a = a} {b = b} {c = c} h k = record { is = le_lt_lt a b c h.is k.is }

pub up_to_up_to : {a b c : Ballot} → IsUpTo a b → IsUpTo b c → IsUpTo a c
up_to_up_to {a = a} {b = b} {c = c} h k = record { is = le_le_le a b c h.is k.is }

pub not_both : {a b : Ballot} → IsBelow a b → IsUpTo b a → ⊥
not_both {a = a} {b = b} h k = lt_not_le a b h.is k.is

pub next_round : (a : Ballot) (m : ℕ) → IsBelow a record { round = a.round + 1; member = m }
next_round a m = record { is = lt_round a record { round = a.round + 1; member = m } (omega arith) }

pub same_ballots : (a b : Ballot) → same_ballot a b ≡ true → a ≡ b
same_ballots a b h =
    let parts = and_parts (a.round == b.round) (a.member == b.member) h in
    same_fields a b (eqb-true a.round b.round parts.0) (eqb-true a.member b.member parts.1)
