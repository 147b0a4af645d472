-- The attempts that stand beside keys, as pairs by ascending key and attempt.
use Rattle.std.specs.Prelude.{Bool, true, false, ◌&&◌, ◌||◌, List, [], ◌∷◌, nat_lt}
use Rattle.std.specs.List.{list_any, filter}
use Rattle.rss_names.specs.declared.attempt.Attempt.{Attempt}
use Rattle.rss_names.specs.declared.service.Key.{Key}
use Rattle.rss_names.specs.declared.service.ServiceId.{ServiceId}
use Rattle.rss_names.specs.declared.service.ServiceId.TheVariants.{Txn, Reg}
use Rattle.rss_names.specs.Services.{same_service, same_key}
use Rattle.rss_tables.specs.Attempts.{same_attempt, attempt_lt}
use Rattle.attempt_index.specs.declared.index.KeyAttempt.{KeyAttempt}
use Rattle.attempt_index.specs.Ascending.{put_in, without_in}

-- transaction services stand before register services
abbrev pub service_lt : ServiceId → ServiceId → Bool
service_lt (Txn m) (Txn n) = nat_lt m n
service_lt (Txn m) (Reg n) = true
service_lt (Reg m) (Txn n) = false
service_lt (Reg m) (Reg n) = nat_lt m n

-- keys are ordered by service and then by index
abbrev pub key_lt : Key → Key → Bool
key_lt a b = service_lt a.service b.service || (same_service a.service b.service && nat_lt a.index b.index)

-- pairs are ordered by key and then by attempt
abbrev pub key_attempt_lt : KeyAttempt → KeyAttempt → Bool
key_attempt_lt a b = key_lt a.key b.key || (same_key a.key b.key && attempt_lt a.attempt b.attempt)

-- whether an attempt stands beside a key
abbrev pub is_beside : List KeyAttempt → Key → Attempt → Bool
is_beside index key attempt =
    list_any (λ (w : KeyAttempt). same_key key w.key && same_attempt attempt w.attempt) index

-- the pairs of a key
abbrev pub pairs_of : List KeyAttempt → Key → List KeyAttempt
pairs_of index key = filter (λ (w : KeyAttempt). same_key key w.key) index

-- an attempt is put beside keys
abbrev pub with_keys : List KeyAttempt → Attempt → List Key → List KeyAttempt
with_keys index attempt [] = index
with_keys index attempt (k ∷ keys) =
    with_keys (put_in key_attempt_lt index record { key = k; attempt = attempt }) attempt keys

-- an attempt is taken away from keys
abbrev pub without_keys : List KeyAttempt → Attempt → List Key → List KeyAttempt
without_keys index attempt [] = index
without_keys index attempt (k ∷ keys) =
    without_keys (without_in key_attempt_lt index record { key = k; attempt = attempt }) attempt keys
