-- The tests on operations decide equality.
use Rattle.std.proofs.Common.{◌≡◌, ap, ℕ, List, [], ◌∷◌, refl, Some, None}
use Rattle.std.specs.Prelude.{◌&&◌, Option}
use Rattle.std.specs.Bool.{Decides}
use Rattle.std.proofs.lemmas.Bool.{false≢true}
use Rattle.std.proofs.lemmas.Bool.Decides.{Decides-eqb, Decides-and, Decides-like}
use Rattle.rss_names.specs.declared.service.Key.{Key}
use Rattle.rss_names.specs.Services.{same_key}
use Rattle.rss_names.proofs.Services.{same_key-Decides}
use Rattle.pipeline_lang.specs.declared.script.Term.{Term}
use Rattle.pipeline_lang.specs.declared.script.Term.TheVariants.{Number, Variable}
use Rattle.pipeline_lang.specs.declared.script.Expr.{Expr}
use Rattle.pipeline_lang.specs.declared.script.Expr.TheVariants.{One, Plus, Minus}
use Rattle.pipeline_lang.specs.declared.script.Compare.{Compare}
use Rattle.pipeline_lang.specs.declared.script.Compare.TheVariants.{Equal, Less}
use Rattle.rss_model.specs.declared.op.Op.{Op}
use Rattle.rss_model.specs.declared.op.Op.TheVariants.{Read, Write, Snap, Txn}
use Rattle.script_laws.specs.SameOps.{same_term, same_expr, same_compare, same_guard, same_keys, same_writes, same_op}

term-Decides : (a b : Term ℕ) → Decides (same_term a b) (a ≡ b)
term-Decides (Number m) (Number n) = Decides-like _ (λ e. ap Number e) (λ e. cc) (Decides-eqb m n)
term-Decides (Number m) (Variable j) = (λ t. absurd (false≢true t), λ e. cc)
term-Decides (Variable i) (Number n) = (λ t. absurd (false≢true t), λ e. cc)
term-Decides (Variable i) (Variable j) = Decides-like _ (λ e. ap Variable e) (λ e. cc) (Decides-eqb i j)

expr-Decides : (a b : Expr ℕ) → Decides (same_expr a b) (a ≡ b)
expr-Decides (One a) (One c) = Decides-like _ (λ e. ap One e) (λ e. cc) (term-Decides a c)
expr-Decides (One a) (Plus c d) = (λ t. absurd (false≢true t), λ e. cc)
expr-Decides (One a) (Minus c d) = (λ t. absurd (false≢true t), λ e. cc)
expr-Decides (Plus a b) (One c) = (λ t. absurd (false≢true t), λ e. cc)
expr-Decides (Plus a b) (Plus c d) =
    Decides-like _ (λ p i. Plus (p.0 i) (p.1 i)) (λ e. (cc, cc))
    (Decides-and _ _ (term-Decides a c) (term-Decides b d))
expr-Decides (Plus a b) (Minus c d) = (λ t. absurd (false≢true t), λ e. cc)
expr-Decides (Minus a b) (One c) = (λ t. absurd (false≢true t), λ e. cc)
expr-Decides (Minus a b) (Plus c d) = (λ t. absurd (false≢true t), λ e. cc)
expr-Decides (Minus a b) (Minus c d) =
    Decides-like _ (λ p i. Minus (p.0 i) (p.1 i)) (λ e. (cc, cc))
    (Decides-and _ _ (term-Decides a c) (term-Decides b d))

compare-Decides : (a b : Compare ℕ) → Decides (same_compare a b) (a ≡ b)
compare-Decides (Equal a b) (Equal c d) =
    Decides-like _ (λ p i. Equal (p.0 i) (p.1 i)) (λ e. (cc, cc))
    (Decides-and _ _ (expr-Decides a c) (expr-Decides b d))
compare-Decides (Equal a b) (Less c d) = (λ t. absurd (false≢true t), λ e. cc)
compare-Decides (Less a b) (Equal c d) = (λ t. absurd (false≢true t), λ e. cc)
compare-Decides (Less a b) (Less c d) =
    Decides-like _ (λ p i. Less (p.0 i) (p.1 i)) (λ e. (cc, cc))
    (Decides-and _ _ (expr-Decides a c) (expr-Decides b d))

guard-Decides : (a b : Option (Compare ℕ)) → Decides (same_guard a b) (a ≡ b)
guard-Decides None None = (λ t. refl, λ e. refl)
guard-Decides None (Some b) = (λ t. absurd (false≢true t), λ e. cc)
guard-Decides (Some a) None = (λ t. absurd (false≢true t), λ e. cc)
guard-Decides (Some a) (Some b) =
    Decides-like _ (λ e. ap (λ x. Some x) e) (λ e. cc) (compare-Decides a b)

keys-Decides : (a b : List Key) → Decides (same_keys a b) (a ≡ b)
keys-Decides [] [] = (λ t. refl, λ e. refl)
keys-Decides [] (l ∷ ls) = (λ t. absurd (false≢true t), λ e. cc)
keys-Decides (k ∷ ks) [] = (λ t. absurd (false≢true t), λ e. cc)
keys-Decides (k ∷ ks) (l ∷ ls) =
    Decides-like _ (λ p i. p.0 i ∷ p.1 i) (λ e. (cc, cc))
    (Decides-and _ _ (same_key-Decides k l) (keys-Decides ks ls))

write-Decides : (v w : Key × Expr ℕ) → Decides (same_key v.0 w.0 && same_expr v.1 w.1) (v ≡ w)
write-Decides v w =
    Decides-like _ (λ p i. (p.0 i, p.1 i))
    (λ e. (ap (λ (x : Key × Expr ℕ). x.0) e, ap (λ (x : Key × Expr ℕ). x.1) e))
    (Decides-and _ _ (same_key-Decides v.0 w.0) (expr-Decides v.1 w.1))

writes-Decides : (a b : List (Key × Expr ℕ)) → Decides (same_writes a b) (a ≡ b)
writes-Decides [] [] = (λ t. refl, λ e. refl)
writes-Decides [] (w ∷ ws) = (λ t. absurd (false≢true t), λ e. cc)
writes-Decides (v ∷ vs) [] = (λ t. absurd (false≢true t), λ e. cc)
writes-Decides (v ∷ vs) (w ∷ ws) =
    Decides-like _ (λ p i. p.0 i ∷ p.1 i) (λ e. (cc, cc))
    (Decides-and _ _ (write-Decides v w) (writes-Decides vs ws))

pub op-Decides : (a b : Op) → Decides (same_op a b) (a ≡ b)
op-Decides (Read k) (Read l) = Decides-like _ (λ e. ap Read e) (λ e. cc) (same_key-Decides k l)
op-Decides (Read k) (Write l n) = (λ t. absurd (false≢true t), λ e. cc)
op-Decides (Read k) (Snap ls) = (λ t. absurd (false≢true t), λ e. cc)
op-Decides (Read k) (Txn ls h ws) = (λ t. absurd (false≢true t), λ e. cc)
op-Decides (Write k m) (Read l) = (λ t. absurd (false≢true t), λ e. cc)
op-Decides (Write k m) (Write l n) =
    Decides-like _ (λ p i. Write (p.0 i) (p.1 i)) (λ e. (cc, cc))
    (Decides-and _ _ (same_key-Decides k l) (Decides-eqb m n))
op-Decides (Write k m) (Snap ls) = (λ t. absurd (false≢true t), λ e. cc)
op-Decides (Write k m) (Txn ls h ws) = (λ t. absurd (false≢true t), λ e. cc)
op-Decides (Snap ks) (Read l) = (λ t. absurd (false≢true t), λ e. cc)
op-Decides (Snap ks) (Write l n) = (λ t. absurd (false≢true t), λ e. cc)
op-Decides (Snap ks) (Snap ls) = Decides-like _ (λ e. ap Snap e) (λ e. cc) (keys-Decides ks ls)
op-Decides (Snap ks) (Txn ls h ws) = (λ t. absurd (false≢true t), λ e. cc)
op-Decides (Txn ks g vs) (Read l) = (λ t. absurd (false≢true t), λ e. cc)
op-Decides (Txn ks g vs) (Write l n) = (λ t. absurd (false≢true t), λ e. cc)
op-Decides (Txn ks g vs) (Snap ls) = (λ t. absurd (false≢true t), λ e. cc)
op-Decides (Txn ks g vs) (Txn ls h ws) =
    Decides-like _ (λ p i. Txn (p.0.0 i) (p.0.1 i) (p.1 i)) (λ e. ((cc, cc), cc))
    (Decides-and _ _ (Decides-and _ _ (keys-Decides ks ls) (guard-Decides g h)) (writes-Decides vs ws))
