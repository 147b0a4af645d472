-- The service of the first of a list.
use Rattle.std.proofs.Common.{◌≡◌, ℕ, zero, suc, ◌-◌, List, [], ◌∷◌, get_or, Option, Some, None, refl, ap}
use Rattle.std.specs.Prelude.{slice_get}
use Rattle.rss_names.specs.declared.service.Key.{Key}
use Rattle.rss_names.specs.declared.service.ServiceId.{ServiceId}
use Rattle.rss_names.specs.declared.service.ServiceId.TheVariants as service
use Rattle.pipeline_lang.specs.declared.script.Expr.{Expr}
use Rattle.pipeline_lang.specs.Config.{body_of, no_body}
use Rattle.pipeline_lang.specs.declared.config.Config.{Config}
use Rattle.pipeline_lang.specs.declared.config.Body.{Body}
use Rattle.rss_machine.specs.Session.{first_service, written_service}

pub first_some : (keys : List Key) (key : Key) → slice_get keys 0 ≡ Some key → first_service keys ≡ key.service
first_some [] key e = cc
first_some (k ∷ keys) key e = cc

pub first_none : (keys : List Key) → slice_get keys 0 ≡ None → first_service keys ≡ service.Txn 0
first_none [] e = refl
first_none (k ∷ keys) e = cc

pub written_some : (writes : List (Key × Expr ℕ)) (write : Key × Expr ℕ) → slice_get writes 0 ≡ Some write → written_service writes ≡ write.0.service
written_some [] write e = cc
written_some (w ∷ writes) write e = cc

pub written_none : (writes : List (Key × Expr ℕ)) → slice_get writes 0 ≡ None → written_service writes ≡ service.Txn 0
written_none [] e = refl
written_none (w ∷ writes) e = cc

pub body_there : (c : Config) (stage : ℕ) (body : Body) → slice_get c.bodies (stage - 1) ≡ Some body → body.earliest_end ≡ (body_of c stage).earliest_end
body_there c stage body e = ap (λ (b : Body). b.earliest_end) (get_some c.bodies (stage - 1) no_body body e)
  where
    get_some : (xs : List Body) (i : ℕ) (d x : Body) → slice_get xs i ≡ Some x → x ≡ get_or xs i d
    get_some [] i d x h = cc
    get_some (y ∷ xs) zero d x h = cc
    get_some (y ∷ xs) (suc i) d x h = get_some xs i d x h

pub no_body_there : (c : Config) (stage : ℕ) → slice_get c.bodies (stage - 1) ≡ None → 0 ≡ (body_of c stage).earliest_end
no_body_there c stage e = ap (λ (b : Body). b.earliest_end) (get_none c.bodies (stage - 1) no_body e)
  where
    get_none : (xs : List Body) (i : ℕ) (d : Body) → slice_get xs i ≡ None → d ≡ get_or xs i d
    get_none [] i d h = refl
    get_none (y ∷ xs) zero d h = cc
    get_none (y ∷ xs) (suc i) d h = get_none xs i d h

pub ruleset bodies = (body_there, no_body_there)

pub ruleset firsts = (first_some, first_none, written_some, written_none)
