-- What stands at the place that was found.
use Rattle.std.proofs.Common.{◌≡◌, ℕ, zero, suc, ◌+◌, ◌<◌, Bool, true, false, List, [], ◌∷◌, Option, Some, None, refl, sym, ap, ◌∙◌, arith}
use Rattle.std.specs.Prelude.{if◌then◌else◌}
use Rattle.rss_model.specs.declared.op.Op.{Op}
use Rattle.rss_model.specs.declared.op.Shown.{Shown}
use Rattle.rss_model.specs.declared.history.Entry.{Entry}
use Rattle.rss_model.specs.declared.history.Entry.TheVariants.{Begin, End, Give, Get, Over}
use Rattle.rss_model.specs.History.{begins, ends, op_in, reply_in}
use Rattle.plain_model.specs.Found.{found_op, found_reply}
use Rattle.call_tables.specs.Tables.{held, found_from, begun_op, ended_reply, op_at, reply_at, AreTables}

-- who begins a call begins its operation
begun_here : (call : ℕ) (e : Entry) → begins call e ≡ true → begun_op e ≡ Some (op_in e)
begun_here call (Begin c stage op) b = refl
begun_here call (End c reply) b = cc
begun_here call (Give stage token) b = cc
begun_here call (Get stage token) b = cc
begun_here call (Over stage how) b = cc

ended_here : (call : ℕ) (e : Entry) → ends call e ≡ true → ended_reply e ≡ Some (reply_in e)
ended_here call (Begin c stage op) b = cc
ended_here call (End c reply) b = refl
ended_here call (Give stage token) b = cc
ended_here call (Get stage token) b = cc
ended_here call (Over stage how) b = cc

-- what a place tells, counted from the place of the first entry
record IsOp (h : List Entry) (call from at : ℕ) : Type 0 where
  place : ℕ
  stands : at ≡ from + place
  tells : op_at h place ≡ found_op h call

record IsReply (h : List Entry) (call from at : ℕ) : Type 0 where
  place : ℕ
  stands : at ≡ from + place
  tells : reply_at h place ≡ found_reply h call

op_there : (h : List Entry) (call from at : ℕ) → found_from begins from h call ≡ Some at → IsOp h call from at
op_there [] call from at f = absurd (let t : ◌≡◌ {A = Option ℕ} None (Some at) = f in cc)
op_there (e ∷ h) call from at f = go (begins call e) refl (op_there h call (suc from) at)
  where
    go : (b : Bool) → begins call e ≡ b → (found_from begins (suc from) h call ≡ Some at → IsOp h call (suc from) at) → IsOp (e ∷ h) call from at
    go true t on =
        let same : ◌≡◌ {A = Option ℕ} (Some from) (Some at) = rw t at f in
        let here : from ≡ at = cc in
        record { place = zero; stands = omega (arith, here); tells = rw t (begun_here call e t) }
    go false t on =
        let o : IsOp h call (suc from) at = on (rw t at f) in
        record { place = suc o.place; stands = omega (arith, o.stands); tells = rw t o.tells }

reply_there : (h : List Entry) (call from at : ℕ) → found_from ends from h call ≡ Some at → IsReply h call from at
reply_there [] call from at f = absurd (let t : ◌≡◌ {A = Option ℕ} None (Some at) = f in cc)
reply_there (e ∷ h) call from at f = go (ends call e) refl (reply_there h call (suc from) at)
  where
    go : (b : Bool) → ends call e ≡ b → (found_from ends (suc from) h call ≡ Some at → IsReply h call (suc from) at) → IsReply (e ∷ h) call from at
    go true t on =
        let same : ◌≡◌ {A = Option ℕ} (Some from) (Some at) = rw t at f in
        let here : from ≡ at = cc in
        record { place = zero; stands = omega (arith, here); tells = rw t (ended_here call e t) }
    go false t on =
        let o : IsReply h call (suc from) at = on (rw t at f) in
        record { place = suc o.place; stands = omega (arith, o.stands); tells = rw t o.tells }

no_op : (h : List Entry) (call from : ℕ) → found_from begins from h call ≡ None → found_op h call ≡ None
no_op [] call from f = refl
no_op (e ∷ h) call from f = go (begins call e) refl (no_op h call (suc from))
  where
    go : (b : Bool) → begins call e ≡ b → (found_from begins (suc from) h call ≡ None → found_op h call ≡ None) → found_op (e ∷ h) call ≡ None
    go true t on = absurd (let s : ◌≡◌ {A = Option ℕ} (Some from) None = rw t at f in cc)
    go false t on = rw t (on (rw t at f))

no_reply : (h : List Entry) (call from : ℕ) → found_from ends from h call ≡ None → found_reply h call ≡ None
no_reply [] call from f = refl
no_reply (e ∷ h) call from f = go (ends call e) refl (no_reply h call (suc from))
  where
    go : (b : Bool) → ends call e ≡ b → (found_from ends (suc from) h call ≡ None → found_reply h call ≡ None) → found_reply (e ∷ h) call ≡ None
    go true t on = absurd (let s : ◌≡◌ {A = Option ℕ} (Some from) None = rw t at f in cc)
    go false t on = rw t (on (rw t at f))

-- what the tables of a history tell of a call is what it says of it
pub op_told : (h self : List Entry) (begun ended table : List (Option ℕ)) (call number at : ℕ) (found : Option ℕ) (op : Option Op) → op ≡ op_at h at → h ≡ self → AreTables h begun ended → found ≡ Some at → found ≡ held table number → table ≡ begun → number ≡ call → op ≡ found_op self call
op_told h self begun ended table call number at found op f v t e g d m =
    let o : IsOp h call 0 at = op_there h call 0 at (sym (t.beginning call) ∙ ap (held begun) (sym m) ∙ ap (λ (xs : List (Option ℕ)). held xs number) (sym d) ∙ sym g ∙ e) in
    let same : at ≡ o.place = omega (arith, o.stands) in
    f ∙ ap (op_at h) same ∙ o.tells ∙ ap (λ (xs : List Entry). found_op xs call) v

pub op_missing : (h self : List Entry) (begun ended table : List (Option ℕ)) (call number : ℕ) (found : Option ℕ) → h ≡ self → AreTables h begun ended → found ≡ None → found ≡ held table number → table ≡ begun → number ≡ call → None ≡ found_op self call
op_missing h self begun ended table call number found v t e g d m =
    sym (no_op h call 0 (sym (t.beginning call) ∙ ap (held begun) (sym m) ∙ ap (λ (xs : List (Option ℕ)). held xs number) (sym d) ∙ sym g ∙ e)) ∙ ap (λ (xs : List Entry). found_op xs call) v

pub reply_told : (h self : List Entry) (begun ended table : List (Option ℕ)) (call number at : ℕ) (found : Option ℕ) (reply : Option (List Shown)) → reply ≡ reply_at h at → h ≡ self → AreTables h begun ended → found ≡ Some at → found ≡ held table number → table ≡ ended → number ≡ call → reply ≡ found_reply self call
reply_told h self begun ended table call number at found reply f v t e g d m =
    let o : IsReply h call 0 at = reply_there h call 0 at (sym (t.ending call) ∙ ap (held ended) (sym m) ∙ ap (λ (xs : List (Option ℕ)). held xs number) (sym d) ∙ sym g ∙ e) in
    let same : at ≡ o.place = omega (arith, o.stands) in
    f ∙ ap (reply_at h) same ∙ o.tells ∙ ap (λ (xs : List Entry). found_reply xs call) v

pub reply_missing : (h self : List Entry) (begun ended table : List (Option ℕ)) (call number : ℕ) (found : Option ℕ) → h ≡ self → AreTables h begun ended → found ≡ None → found ≡ held table number → table ≡ ended → number ≡ call → None ≡ found_reply self call
reply_missing h self begun ended table call number found v t e g d m =
    sym (no_reply h call 0 (sym (t.ending call) ∙ ap (held ended) (sym m) ∙ ap (λ (xs : List (Option ℕ)). held xs number) (sym d) ∙ sym g ∙ e)) ∙ ap (λ (xs : List Entry). found_reply xs call) v

pub ruleset telling = (op_told, op_missing, reply_told, reply_missing)
