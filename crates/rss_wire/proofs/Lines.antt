use Rattle.std.proofs.Common.{◌≡◌, ℕ, ◌+◌, ◌==◌, ◌&&◌, Bool, true, false, cond, List, [], ◌∷◌, ◌++◌, arith, refl, ap, ◌∙◌, Some}
use Rattle.rss_names.specs.declared.service.ServiceId.{ServiceId}
use Rattle.rss_names.specs.declared.service.ServiceId.TheVariants.{Txn, Reg}
use Rattle.rss_names.specs.declared.service.Target.{Target}
use Rattle.rss_names.specs.declared.service.Target.TheVariants.{Shard, Replica}
use Rattle.std.specs.Option.{unwrap_or}
use Rattle.std.specs.HashMap.{HashMap, Updates, get}
use Rattle.rss_wire.specs.declared.ordinals.Line.{Line}
use Rattle.rss_wire.specs.declared.message.Message.{Message}
use Rattle.rss_wire.specs.Line.{line_between, same_line, counted}
use Rattle.rss_names.specs.Services.{same_service}
use Rattle.rss_wire.specs.Messages.{same_target, count_requests}
use Rattle.rss_wire.proofs.Counts.{count_requests-append}

pub same_service-true : (x y : ServiceId) → same_service x y ≡ true → x ≡ y
same_service-true (Txn a) (Txn b) h = grind (arith, h)
same_service-true (Reg a) (Reg b) h = grind (arith, h)
same_service-true (Txn a) (Reg b) h = cc
same_service-true (Reg a) (Txn b) h = cc

pub same_target-true : (t u : Target) → same_target t u ≡ true → t ≡ u
same_target-true (Shard a) (Shard b) h = grind (arith, h)
same_target-true (Replica s a) (Replica t b) h = grind (arith, h, same_service-true s t)
same_target-true (Shard a) (Replica t b) h = cc
same_target-true (Replica s a) (Shard b) h = cc

pub same_line-between : (s : ℕ) (t : Target) (a : ℕ) (u : Target) → same_line (line_between s t) (line_between a u) ≡ (s == a) && same_target t u
unfolding line_between
same_line-between s (Shard n) a (Shard m) = refl
same_line-between s (Shard n) a (Replica (Txn y) m) = refl
same_line-between s (Shard n) a (Replica (Reg y) m) = refl
same_line-between s (Replica (Txn x) n) a (Shard m) = refl
same_line-between s (Replica (Reg x) n) a (Shard m) = refl
same_line-between s (Replica (Txn x) n) a (Replica (Txn y) m) = refl
same_line-between s (Replica (Txn x) n) a (Replica (Reg y) m) = refl
same_line-between s (Replica (Reg x) n) a (Replica (Txn y) m) = refl
same_line-between s (Replica (Reg x) n) a (Replica (Reg y) m) = refl

-- two lines that are the same have the same stage and target
pub line_between-true : (s : ℕ) (t : Target) (a : ℕ) (u : Target) → (s == a) && same_target t u ≡ true → line_between s t ≡ line_between a u
line_between-true s t a u h = grind (arith, same_target-true t u)

-- the table counts the requests after one more
pub counted-next : {S : Type 0} (old new : HashMap Line ℕ S) (ms : List Message) (m : Message) (stage : ℕ) (target : Target) (ordinal : ℕ)
    → ((s : ℕ) (t : Target) → counted old (line_between s t) ≡ count_requests s t ms)
    → Updates same_line old new (line_between stage target) (Some ordinal)
    → ordinal ≡ counted old (line_between stage target) + 1
    → m.envelope.request ≡ true → m.envelope.stage ≡ stage → m.envelope.target ≡ target
    → (s : ℕ) (t : Target) → counted new (line_between s t) ≡ count_requests s t (ms ++ m ∷ [])
counted-next old new ms m stage target ordinal h up o r a b s t =
    go ((stage == s) && same_target target t) refl
  where
    looked : get same_line new (line_between s t) ≡ cond (same_line (line_between stage target) (line_between s t)) (Some ordinal) (get same_line old (line_between s t))
    looked = up.0 (line_between s t)

    go : (b : Bool) → (stage == s) && same_target target t ≡ b → counted new (line_between s t) ≡ count_requests s t (ms ++ m ∷ [])
    go true e =
        let at_line : counted old (line_between stage target) ≡ count_requests s t ms = ap (counted old) (line_between-true stage target s t e) ∙ h s t in
        let found : counted new (line_between s t) ≡ ordinal = ap (λ o. unwrap_or o 0) (rw (same_line-between stage target s t ∙ e) at looked) in
        grind (arith, found, at_line, o, r, a, b, e, count_requests-append s t ms m)
    go false e =
        let found : counted new (line_between s t) ≡ counted old (line_between s t) = ap (λ o. unwrap_or o 0) (rw (same_line-between stage target s t ∙ e) at looked) in
        grind (arith, found, h s t, r, a, b, e, count_requests-append s t ms m)
