-- What a search finds of a call, in the words of the model.
use Rattle.std.proofs.Common.{◌≡◌, ℕ, List, [], ◌∷◌, Some, None, Bool, true, false, refl, arith, subst}
use Rattle.std.specs.Prelude.{Option, ◌↔◌, IsTrue}
use Rattle.rss_model.specs.declared.op.Op.{Op}
use Rattle.rss_model.specs.declared.op.Op.TheVariants.{Snap}
use Rattle.rss_model.specs.declared.op.Shown.{Shown}
use Rattle.rss_model.specs.declared.history.Entry.{Entry}
use Rattle.rss_model.specs.Operation.{guard_holds, values_of}
use Rattle.rss_model.specs.Mutation.{is_mutation}
use Rattle.rss_model.specs.Legal.{Table, shown_by, MeetsTable}
use Rattle.rss_model.specs.History.{begins, ends, has_begun, has_ended, op_of, reply_of}
use Rattle.plain_model.specs.Found.{found_op, found_reply, mutates_by}

-- a call has begun with this operation, or not at all
abbrev pub HasBegun : List Entry → ℕ → Option Op → Type 0
HasBegun h call None = (has_begun h call ≡ false) × (op_of h call ≡ Snap [])
HasBegun h call (Some op) = (has_begun h call ≡ true) × (op_of h call ≡ op)

-- a call has ended with this reply, or not at all
abbrev pub HasEnded : List Entry → ℕ → Option (List Shown) → Type 0
HasEnded h call None = (has_ended h call ≡ false) × (reply_of h call ≡ [])
HasEnded h call (Some reply) = (has_ended h call ≡ true) × (reply_of h call ≡ reply)

-- what is found of the Begin of a call says whether it has begun, and with which operation
pub found_op-is : (h : List Entry) (call : ℕ) → HasBegun h call (found_op h call)
unfolding has_begun op_of
found_op-is [] call = (refl, refl)
found_op-is (e ∷ h) call = by_test (begins call e) refl (found_op-is h call)
  where
    by_test : (b : Bool) → begins call e ≡ b → HasBegun h call (found_op h call) →
        HasBegun (e ∷ h) call (found_op (e ∷ h) call)
    by_test true t rest = grind (arith, t)
    by_test false t rest = grind (arith, t, rest)

-- what is found of the End of a call says whether it has ended, and with which reply
pub found_reply-is : (h : List Entry) (call : ℕ) → HasEnded h call (found_reply h call)
unfolding has_ended reply_of
found_reply-is [] call = (refl, refl)
found_reply-is (e ∷ h) call = by_test (ends call e) refl (found_reply-is h call)
  where
    by_test : (b : Bool) → ends call e ≡ b → HasEnded h call (found_reply h call) →
        HasEnded (e ∷ h) call (found_reply (e ∷ h) call)
    by_test true t rest = grind (arith, t)
    by_test false t rest = grind (arith, t, rest)

-- a call is a mutation by what is found of it
pub is_mutation-is : (h : List Entry) (call : ℕ) →
    is_mutation h call ≡ mutates_by (found_op h call) (found_reply h call)
is_mutation-is h call =
    by_found (found_op h call) (found_reply h call) (found_op-is h call) (found_reply-is h call)
  where
    by_found : (o : Option Op) (r : Option (List Shown)) → HasBegun h call o → HasEnded h call r →
        is_mutation h call ≡ mutates_by o r
    by_found None r f g = grind (arith, f)
    by_found (Some op) None f g = grind (arith, f, g)
    by_found (Some op) (Some reply) f g = grind (arith, f, g)

-- a call meets the table by what is found of it
abbrev pub MeetsBy : Table → Option Op → Option (List Shown) → Type 0
MeetsBy table None reply = ⊥
MeetsBy table (Some op) None = IsTrue (guard_holds op (values_of (shown_by table op)))
MeetsBy table (Some op) (Some reply) = reply ≡ shown_by table op

pub meets_by :
    (h : List Entry) (table : Table) (call : ℕ) (o : Option Op) (r : Option (List Shown)) →
    found_op h call ≡ o → found_reply h call ≡ r → MeetsBy table o r ↔ MeetsTable h table call
meets_by h table call o r e f =
    by_found o r (subst (HasBegun h call) e (found_op-is h call))
    (subst (HasEnded h call) f (found_reply-is h call))
  where
    by_found : (o : Option Op) (r : Option (List Shown)) → HasBegun h call o → HasEnded h call r →
        MeetsBy table o r ↔ MeetsTable h table call
    by_found None r f g = (λ m. absurd m, λ m. grind (arith, f, m.begun))
    by_found (Some op) None f g = (
      λ m. record {
        begun = f.0;
        reply = λ e. absurd (grind (arith, e, g));
        guard = λ e. rw f.1 m;
      },
      λ m. rw f.1 at (m.guard g.0),
    )
    by_found (Some op) (Some reply) f g = (
      λ m. record {
        begun = f.0;
        reply = λ e. rw (g.1, f.1) m;
        guard = λ e. absurd (grind (arith, e, g));
      },
      λ m. rw (g.1, f.1) at (m.reply g.0),
    )

pub ruleset mutation_found = (is_mutation-is)
