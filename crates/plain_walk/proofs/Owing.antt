-- What is owed is the same where its tokens are.
use Rattle.std.proofs.Common.{◌≡◌, ap, List, [], ◌∷◌, map, Bool, refl, arith, inl, inr}
use Rattle.std.specs.Prelude.{◌↔◌, IsTrue}
use Rattle.std.specs.Bool.{Decides}
use Rattle.std.proofs.lemmas.Bool.Decides.{nat_tests}
use Rattle.plain_walk.specs.contracts.walk.OwedPartialEq.TheImpl as owed_eq
use Rattle.plain_walk.specs.declared.walk.Owed.{Owed}
use Rattle.plain_walk.specs.declared.walk.Owed.TheVariants.{EndMark, Exit}
use Rattle.rss_model.specs.ScriptRun.{NothingOrAll}
use Rattle.plain_walk.specs.Walks.{token_of}

same_one : (a b : Owed) → token_of a ≡ token_of b → a ≡ b
same_one (EndMark p m) (EndMark q n) e = cc (e)
same_one (EndMark p m) (Exit t) e = absurd (cc (e))
same_one (Exit s) (EndMark q n) e = absurd (cc (e))
same_one (Exit s) (Exit t) e = cc (e)

pub same_owed : (xs ys : List Owed) → map token_of xs ≡ map token_of ys → xs ≡ ys
same_owed [] [] e = refl
same_owed [] (y ∷ ys) e = absurd (cc (e))
same_owed (x ∷ xs) [] e = absurd (cc (e))
same_owed (x ∷ xs) (y ∷ ys) e =
    let one : token_of x ≡ token_of y = cc (e) in
    let rest : map token_of xs ≡ map token_of ys = cc (e) in
    let first = same_one x y one in
    let others = same_owed xs ys rest in cc

pub owed-Decides : (a b : Owed) → Decides ((owed_eq.ghosts).eq a b) (a ≡ b)
owed-Decides (EndMark p m) (EndMark q n) = (λ t. grind (arith, nat_tests, t), λ e. grind (arith, nat_tests, e))
owed-Decides (EndMark p m) (Exit t) = (λ t. absurd (grind (arith, nat_tests, t)), λ e. absurd (cc (e)))
owed-Decides (Exit s) (EndMark q n) = (λ t. absurd (grind (arith, nat_tests, t)), λ e. absurd (cc (e)))
owed-Decides (Exit s) (Exit t) = (λ t. grind (arith, nat_tests, t), λ e. grind (arith, nat_tests, e))

-- the same is owed as all, and something is
pub owed_all : (r : Bool) (owed all : List Owed) → Decides r (owed ≡ all) → (owed ≡ [] → ⊥) →
    IsTrue r ↔ NothingOrAll (map token_of owed) (map token_of all)
owed_all r owed all d some = (λ t. inl (ap (map token_of) (d.0 t)), from)
  where
    from : NothingOrAll (map token_of owed) (map token_of all) → IsTrue r
    from (inl e) = d.1 (same_owed owed all e)
    from (inr e) = absurd (some (same_owed owed [] e))
