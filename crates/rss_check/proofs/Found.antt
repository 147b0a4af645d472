-- What an index finds of a call is what a search finds.
use Rattle.std.proofs.Common.{◌≡◌, ℕ, Bool, true, false, List, [], ◌∷◌, Option, Some, None, refl, sym, ap, ◌∙◌, arith}
use Rattle.std.specs.Prelude.{if◌then◌else◌, nat_eq}
use Rattle.std.proofs.lemmas.Grind.{common_steps}
use Rattle.indexmap.specs.IndexMap.{get}
use Rattle.rss_model.specs.declared.op.Op.{Op}
use Rattle.rss_model.specs.declared.op.Shown.{Shown}
use Rattle.rss_model.specs.declared.history.Entry.{Entry}
use Rattle.rss_model.specs.History.{has_begun, has_ended, op_of, reply_of}
use Rattle.rss_model.specs.Stages.{stage_of}
use Rattle.plain_model.specs.Found.{found_op, found_reply}
use Rattle.plain_model.proofs.FoundLemmas.{HasBegun, HasEnded, found_op-is, found_reply-is}
use Rattle.history_index.specs.declared.index.Begun.{Begun}
use Rattle.history_index.specs.declared.index.HistoryIndex.{HistoryIndex}
use Rattle.history_index.specs.Kept.{Indexes, begun_of, begin_place, end_place, end_of}
use Rattle.history_index.specs.There.{op_there, stage_there, reply_there}
use Rattle.history_index.proofs.There.{op_there_is, stage_there_is, reply_there_is}

-- what a search finds, by whether the call has begun or ended
op_by : (h : List Entry) (call : ℕ) (b : Bool) → has_begun h call ≡ b → found_op h call ≡ (if b then Some (op_of h call) else None)
op_by h call b e = by_found (found_op h call) refl (found_op-is h call) b e
  where
    by_found : (o : Option Op) → found_op h call ≡ o → HasBegun h call (found_op h call) → (b : Bool) → has_begun h call ≡ b → found_op h call ≡ (if b then Some (op_of h call) else None)
    by_found None f k true e = absurd (grind (arith, f, k, e))
    by_found None f k false e = f
    by_found (Some op) f k true e = grind (arith, f, k, e)
    by_found (Some op) f k false e = absurd (grind (arith, f, k, e))

reply_by : (h : List Entry) (call : ℕ) (b : Bool) → has_ended h call ≡ b → found_reply h call ≡ (if b then Some (reply_of h call) else None)
reply_by h call b e = by_found (found_reply h call) refl (found_reply-is h call) b e
  where
    by_found : (o : Option (List Shown)) → found_reply h call ≡ o → HasEnded h call (found_reply h call) → (b : Bool) → has_ended h call ≡ b → found_reply h call ≡ (if b then Some (reply_of h call) else None)
    by_found None f k true e = absurd (grind (arith, f, k, e))
    by_found None f k false e = f
    by_found (Some reply) f k true e = grind (arith, f, k, e)
    by_found (Some reply) f k false e = absurd (grind (arith, f, k, e))

-- what is kept of a call, if it has begun
begun_parts : (h : List Entry) (call : ℕ) (begun : Begun) → begun_of h call ≡ Some begun → (has_begun h call ≡ true) × (begun.begin ≡ begin_place h call) × (begun.end ≡ end_of h call)
begun_parts h call begun e = by_begun (has_begun h call) refl
  where
    by_begun : (b : Bool) → has_begun h call ≡ b → (has_begun h call ≡ true) × (begun.begin ≡ begin_place h call) × (begun.end ≡ end_of h call)
    by_begun true b =
        let s : Some (record { begin = begin_place h call; end = end_of h call }) ≡ Some begun = rw b at e in
        (b, cc, cc)
    by_begun false b = absurd (let s : ◌≡◌ {A = Option Begun} None (Some begun) = rw b at e in cc)

not_begun : (h : List Entry) (call : ℕ) → begun_of h call ≡ None → has_begun h call ≡ false
not_begun h call e = by_begun (has_begun h call) refl
  where
    by_begun : (b : Bool) → has_begun h call ≡ b → has_begun h call ≡ false
    by_begun true b = absurd (let s : ◌≡◌ {A = Option Begun} (Some (record { begin = begin_place h call; end = end_of h call })) None = rw b at e in cc)
    by_begun false b = b

ended_place : (h : List Entry) (call end : ℕ) → end_of h call ≡ Some end → (has_ended h call ≡ true) × (end ≡ end_place h call)
ended_place h call end e = by_ended (has_ended h call) refl
  where
    by_ended : (b : Bool) → has_ended h call ≡ b → (has_ended h call ≡ true) × (end ≡ end_place h call)
    by_ended true b = let s : Some (end_place h call) ≡ Some end = rw b at e in (b, cc)
    by_ended false b = absurd (let s : ◌≡◌ {A = Option ℕ} None (Some end) = rw b at e in cc)

not_ended : (h : List Entry) (call : ℕ) → end_of h call ≡ None → has_ended h call ≡ false
not_ended h call e = by_ended (has_ended h call) refl
  where
    by_ended : (b : Bool) → has_ended h call ≡ b → has_ended h call ≡ false
    by_ended true b = absurd (let s : ◌≡◌ {A = Option ℕ} (Some (end_place h call)) None = rw b at e in cc)
    by_ended false b = b

no_stage : (h : List Entry) (call : ℕ) → has_begun h call ≡ false → stage_of h call ≡ 0
unfolding has_begun stage_of
no_stage [] call b = refl
no_stage (e ∷ h) call b = grind (arith, common_steps, b, no_stage h call)

module _ (h : List Entry) (index : HistoryIndex) (i : Indexes h index) (call : ℕ) where
  pub op_found : (begun : Begun) → Some begun ≡ get nat_eq index.calls call → op_there h begun.begin ≡ found_op h call
  op_found begun e =
      let p = begun_parts h call begun (sym (i.calls call) ∙ sym e) in
      ap (op_there h) p.1 ∙ op_there_is h call p.0 ∙ sym (op_by h call true p.0)

  pub op_missing : None ≡ get nat_eq index.calls call → None ≡ found_op h call
  op_missing e = sym (op_by h call false (not_begun h call (sym (i.calls call) ∙ sym e)))

  pub reply_found : (begun : Begun) (end : ℕ) → Some begun ≡ get nat_eq index.calls call → begun.end ≡ Some end → reply_there h end ≡ found_reply h call
  reply_found begun end e f =
      let p = begun_parts h call begun (sym (i.calls call) ∙ sym e) in
      let q = ended_place h call end (sym p.2 ∙ f) in
      ap (reply_there h) q.1 ∙ reply_there_is h call q.0 ∙ sym (reply_by h call true q.0)

  pub reply_open : (begun : Begun) → Some begun ≡ get nat_eq index.calls call → begun.end ≡ None → None ≡ found_reply h call
  reply_open begun e f =
      let p = begun_parts h call begun (sym (i.calls call) ∙ sym e) in
      sym (reply_by h call false (not_ended h call (sym p.2 ∙ f)))

  pub reply_missing : None ≡ get nat_eq index.calls call → None ≡ found_reply h call
  reply_missing e = sym (reply_by h call false (i.ended call (not_begun h call (sym (i.calls call) ∙ sym e))))

  pub stage_found : (begun : Begun) → Some begun ≡ get nat_eq index.calls call → stage_there h begun.begin ≡ Some (stage_of h call)
  stage_found begun e =
      let p = begun_parts h call begun (sym (i.calls call) ∙ sym e) in
      ap (stage_there h) p.1 ∙ stage_there_is h call p.0

  pub stage_missing : None ≡ get nat_eq index.calls call → stage_of h call ≡ 0
  stage_missing e = no_stage h call (not_begun h call (sym (i.calls call) ∙ sym e))
