-- A call ends: its stage goes on with a context that covers the call too.
use Rattle.std.proofs.Common.{◌≡◌, ℕ, ◌-◌, ◌<◌, ◌≤◌, ◌⊎◌, inl, inr, Bool, true, false, List, [], ◌∷◌, ◌++◌, length, get_or, refl, sym, ap, ◌∙◌, subst, arith}
use Rattle.std.specs.Prelude.{◌&&◌, ◌==◌, nat_le}
use Rattle.std.proofs.lemmas.Bool.{false≢true}
use Rattle.std.proofs.lemmas.Bool.Decides.{nat_tests}
use Rattle.rss_names.specs.declared.service.ServiceId.TheVariants.{Txn, Reg}
use Rattle.causal_context.specs.LeastTimes.{least_of}
use Rattle.causal_context.specs.Services.{IsService}
use Rattle.causal_context.specs.Seen.{Seen, after_txn}
use Rattle.pipeline_lang.specs.declared.config.Config.{Config}
use Rattle.rss_model.specs.declared.history.Entry.TheVariants.{End}
use Rattle.rss_model.specs.declared.op.Op.{Op}
use Rattle.rss_model.specs.declared.op.Shown.{Shown}
use Rattle.rss_model.specs.Cursor.{Cursor}
use Rattle.rss_machine.specs.Moves.{ends_call, closed}
use Rattle.rss_machine.specs.Session.{service_of}
use Rattle.rss_machine.specs.Standing.{is_running}
use Rattle.rss_machine.specs.State.{State, Owner, no_owner, owner_at}
use Rattle.rss_machine.specs.declared.session.OwnerKind.{OwnerKind}
use Rattle.rss_machine.specs.declared.session.OwnerKind.TheVariants as kind
use Rattle.rss_machine.specs.declared.state.OwnerFate.TheVariants.{Ended}
use Rattle.world_laws.specs.Calls.{is_call, is_stub, StagesOwn}
use Rattle.world_laws.proofs.Looks.{looks, get_or_past}
use Rattle.world_laws.proofs.Told.{each_set}
use Rattle.order_laws.specs.CallsBehind.{CallsBehind}
use Rattle.coupling_laws.specs.Calls.{View, IsView, Grows, EndedCall, and_one}
use Rattle.coupling_laws.specs.Covers.{Covers, IsAt}
use Rattle.coupling_laws.proofs.Places.{fewer, grows}
use Rattle.coupling_laws.proofs.Ends.{txn_ends}
use Rattle.context_moves.specs.Views.{view_of, told_time, call_of, step_of, kind_service}
use Rattle.context_moves.specs.Covering.{Covering}
use Rattle.context_moves.proofs.Ends.{it_ends}
use Rattle.context_moves.proofs.Later.{SameClock, is_ended, given_more}
use Rattle.context_moves.proofs.Own.{own_later}
use Rattle.context_moves.proofs.Tables.{ended_table, or_case, both_of, or_first, or_second}

module _ (c : Config) (b : CallsBehind) (s : State) (o : ℕ) (x : Op) (shown : List Shown) (cursor : Cursor) (seen : Seen) (r : is_running (owner_at s o).fate ≡ true) (q : (owner_at s o).kind ≡ kind.Calling x) (owns : StagesOwn s) (k : Covering c (view_of c s) b s) where
  abbrev t : State
  t = ends_call s o shown cursor seen

  abbrev n : ℕ
  n = (owner_at s o).stage

  abbrev v : View
  v = view_of c s

  abbrev v' : View
  v' = view_of c t

  pub end_clock : SameClock s t
  end_clock = record { steps = refl; moments = refl; marks = refl }

  pub end_later : Grows v v'
  end_later = own_later c b s t o (closed s o Ended) end_clock refl r

  pub owner_ended : owner_at t o ≡ closed s o Ended
  owner_ended = let l = there in grind (arith, looks, l)
    where
      there : o < length s.owners
      there = by_place (get_or_past s.owners o no_owner)
        where
          by_place : (o < length s.owners) ⊎ (get_or s.owners o no_owner ≡ no_owner) → o < length s.owners
          by_place (inl g) = g
          by_place (inr g) = absurd (false≢true (ap (λ (y : Owner). is_running y.fate) (sym g) ∙ r))

  pub now_ended : v'.ended o ≡ true
  now_ended = ap is_ended owner_ended ∙ ap (λ (y : OwnerKind). is_call y && true) q

  pub of_call : v'.call o ≡ v.call o
  of_call = ap call_of owner_ended

  -- what is behind the stage
  old_calls : (j a : ℕ) → (j - 1 ≡ n - 1 → ⊥) → (ended_table b n o).stage j a ≡ true → b.stage j a ≡ true
  old_calls j a g h = by_case (or_case (b.stage j a) _ h)
    where
      by_case : (b.stage j a ≡ true) ⊎ (((n == j) && (o == a)) ≡ true) → b.stage j a ≡ true
      by_case (inl y) = y
      by_case (inr y) = let z = (both_of (n == j) _ y).0 in absurd (g (grind (arith, nat_tests, z)))

  new_calls : (j a : ℕ) → (ended_table b n o).stage j a ≡ true → and_one o (b.stage j) a ≡ true
  new_calls j a h = by_case (or_case (b.stage j a) _ h)
    where
      by_case : (b.stage j a ≡ true) ⊎ (((n == j) && (o == a)) ≡ true) → and_one o (b.stage j) a ≡ true
      by_case (inl y) = or_second (a == o) (b.stage j a) y
      by_case (inr y) = or_first (a == o) (b.stage j a) (grind (arith, nat_tests, (both_of (n == j) (o == a) y).1))

  not_stub : is_stub (owner_at s o).kind ≡ false
  not_stub = ap is_stub q

  pub call_ends : ((calls : ℕ → Bool) → Covers v' calls (owner_at s o).works.copy → Covers v' (and_one o calls) seen) → Covering c v' (ended_table b n o) t
  call_ends f =
      it_ends c v b s o r not_stub owns k v' (ended_table b n o) (s.history ++ End o shown ∷ []) cursor seen end_later old_calls (λ j a e. or_first (b.stage j a) _ e) (λ y a. refl) (given_more s.history (End o shown ∷ []))
      (λ j e. fewer v' (and_one o (b.stage j)) ((ended_table b n o).stage j) seen (new_calls j) (f (b.stage j) (grows v v' (b.stage j) (owner_at s o).works.copy end_later ((k.owners o).copy j (inl r) e))))

  -- the view behind it is one
  view_behind : IsView v → ((i : ℕ) → service_of x ≡ Reg i → v.home (v.call o).register ≡ Reg i) → IsView v'
  view_behind f own = record { rises = λ a y u l e. rises_in (step_of t a) y u l e; at_home = λ a. each a }
    where
      rises_in : (i y u : ℕ) → y ≤ u → (nat_le i s.steps && nat_le (get_or (0 ∷ s.moments) i 0) y) ≡ true → (nat_le i s.steps && nat_le (get_or (0 ∷ s.moments) i 0) u) ≡ true
      rises_in i y u g h = grind (arith, nat_tests, g, h)

      each : (a i : ℕ) → is_ended (owner_at t a) ≡ true → kind_service (owner_at t a).kind ≡ Reg i → v.home (call_of (owner_at t a)).register ≡ Reg i
      each = each_set (λ a w. (i : ℕ) → is_ended w ≡ true → kind_service w.kind ≡ Reg i → v.home (call_of w).register ≡ Reg i) s.owners o (closed s o Ended) (λ i e g. own i (ap kind_service (sym q) ∙ g)) (λ a. f.at_home a)

  -- a call of a transaction service
  pub txn_call_ends : (m time : ℕ) → seen ≡ after_txn (owner_at s o).works.copy (Txn m) time → time ≡ told_time (owner_at s o).session → service_of x ≡ Txn m → IsService (Txn m) → least_of (owner_at s o).works.copy.least (Txn m) ≤ time
      → IsAt (owner_at s o).works.copy (Txn m) → (owner_at s o).works.copy.deps ≡ [] → IsView v → Covering c v' (ended_table b n o) t
  txn_call_ends m time e i g w l at d f =
      call_ends (λ calls h. subst (Covers v' (and_one o calls)) (sym e)
      (subst (λ (z : ℕ). Covers v' (and_one o calls) (after_txn (owner_at s o).works.copy (Txn m) z)) time_is
      (txn_ends v' calls (owner_at s o).works.copy o m (view_behind f (λ j y. absurd (txn_not_reg m j (sym g ∙ y)))) h w now_ended (ap (λ (y : EndedCall). y.service) of_call ∙ (ap kind_service q ∙ g))
      (subst (λ (z : ℕ). least_of (owner_at s o).works.copy.least (Txn m) ≤ z) (sym time_is) l) at d)))
    where
      txn_not_reg : (m n : ℕ) → Txn m ≡ Reg n → ⊥
      txn_not_reg m n e = cc

      time_is : (v'.call o).time ≡ time
      time_is = ap (λ (y : EndedCall). y.time) of_call ∙ sym i
