-- An index with one more entry is that of the longer history.
use Rattle.std.proofs.Common.{◌≡◌, ℕ, zero, suc, ◌+◌, ◌<◌, Bool, true, false, not, ◌&&◌, cond, List, [], ◌∷◌, ◌++◌, length, take, drop, get_or, Option, Some, None, refl, sym, ap, ◌∙◌, subst, add-one, arith, nat_eq}
use Rattle.std.specs.Prelude.{◌||◌, ◌==◌, if◌then◌else◌}
use Rattle.std.proofs.lemmas.Grind.{common_steps}
use Rattle.std.proofs.Math.Seq.{take-suc, drop-cons}
use Rattle.std.proofs.lemmas.List.{length-take-le}
use Rattle.std.proofs.lemmas.Bool.{eqb-true, and_parts}
use Rattle.indexmap.specs.IndexMap.{get}
use Rattle.indexmap.specs.IndexSet.{contains}
use Rattle.rss_model.specs.declared.op.Op.{Op}
use Rattle.rss_model.specs.declared.op.Shown.{Shown}
use Rattle.rss_model.specs.declared.history.Entry.{Entry}
use Rattle.rss_model.specs.declared.history.Entry.TheVariants.{Begin, End, Give, Get, Over}
use Rattle.rss_model.specs.declared.history.Token.{Token}
use Rattle.rss_model.specs.declared.history.Token.TheVariants.{Spawn, Chunk, Exit}
use Rattle.rss_model.specs.Tokens.{same_token}
use Rattle.rss_model.specs.History.{begins, ends, has_begun, has_ended}
use Rattle.rss_model.proofs.HistoryLemmas.{has_begun-append, has_ended-append}
use Rattle.history_index.specs.Following.{gives, gave, is_open, may_follow, is_well_formed_from}
use Rattle.history_index.specs.Kept.{key_of_message, same_message, begin_place, end_place, end_of, begun_of, with_end, noted_call, noted_message, Indexes, Notes}
use Rattle.history_index.specs.declared.index.Begun.{Begun}
use Rattle.history_index.specs.declared.index.HistoryIndex.{HistoryIndex}

-- two messages have one key exactly where they are the same
pub same_key_is : (a b : Token) → same_message (key_of_message a) (key_of_message b) ≡ same_token b a
same_key_is (Spawn s) (Spawn t) = grind (arith, common_steps)
same_key_is (Spawn s) (Chunk q n) = refl
same_key_is (Spawn s) (Exit t) = refl
same_key_is (Chunk p m) (Spawn t) = refl
same_key_is (Chunk p m) (Chunk q n) = grind (arith, common_steps)
same_key_is (Chunk p m) (Exit t) = refl
same_key_is (Exit s) (Spawn t) = refl
same_key_is (Exit s) (Chunk q n) = refl
same_key_is (Exit s) (Exit t) = grind (arith, common_steps)

gave-append : (h : List Entry) (e : Entry) (token : Token) → gave (h ++ e ∷ []) token ≡ (gave h token || gives token e)
unfolding gave
gave-append [] e token = grind (arith, common_steps)
gave-append (x ∷ h) e token = grind (arith, gave-append h e token)

begin_place-append : (h : List Entry) (e : Entry) (call : ℕ) → begin_place (h ++ e ∷ []) call ≡ (if has_begun h call then begin_place h call else (if begins call e then length h else suc (length h)))
unfolding begin_place has_begun
begin_place-append [] e call = grind (arith, common_steps)
begin_place-append (x ∷ h) e call = grind (arith, common_steps, begin_place-append h e call)

end_place-append : (h : List Entry) (e : Entry) (call : ℕ) → end_place (h ++ e ∷ []) call ≡ (if has_ended h call then end_place h call else (if ends call e then length h else suc (length h)))
unfolding end_place has_ended
end_place-append [] e call = grind (arith, common_steps)
end_place-append (x ∷ h) e call = grind (arith, common_steps, end_place-append h e call)

begun-last : (h : List Entry) (e : Entry) (call : ℕ) → has_begun (h ++ e ∷ []) call ≡ (has_begun h call || begins call e)
unfolding has_begun
begun-last h e call = grind (arith, common_steps, has_begun-append h (e ∷ []) call)

ended-last : (h : List Entry) (e : Entry) (call : ℕ) → has_ended (h ++ e ∷ []) call ≡ (has_ended h call || ends call e)
unfolding has_ended
ended-last h e call = grind (arith, common_steps, has_ended-append h (e ∷ []) call)

-- a call that begins, by the entries above
begun-begin : (h : List Entry) (c stage : ℕ) (op : Op) (call : ℕ) → may_follow h (Begin c stage op) ≡ true → has_ended h c ≡ false → begun_of (h ++ Begin c stage op ∷ []) call ≡ cond (nat_eq c call) (Some (record { begin = length h; end = None })) (begun_of h call)
begun-begin h c stage op call f n = by_same (c == call) refl
  where
    by_same : (b : Bool) → (c == call) ≡ b → begun_of (h ++ Begin c stage op ∷ []) call ≡ cond (nat_eq c call) (Some (record { begin = length h; end = None })) (begun_of h call)
    by_same true e = grind (arith, common_steps, e, eqb-true c call e, f, n, begun-last h (Begin c stage op) call, ended-last h (Begin c stage op) call, begin_place-append h (Begin c stage op) call)
    by_same false e = grind (arith, common_steps, e, begun-last h (Begin c stage op) call, ended-last h (Begin c stage op) call, begin_place-append h (Begin c stage op) call, end_place-append h (Begin c stage op) call)

begun-end : (h : List Entry) (c : ℕ) (reply : List Shown) (call : ℕ) → may_follow h (End c reply) ≡ true → begun_of (h ++ End c reply ∷ []) call ≡ cond (nat_eq c call) (with_end (begun_of h c) (length h)) (begun_of h call)
begun-end h c reply call f = by_same (c == call) refl
  where
    by_same : (b : Bool) → (c == call) ≡ b → begun_of (h ++ End c reply ∷ []) call ≡ cond (nat_eq c call) (with_end (begun_of h c) (length h)) (begun_of h call)
    by_same true e = grind (arith, common_steps, e, eqb-true c call e, f, begun-last h (End c reply) call, ended-last h (End c reply) call, begin_place-append h (End c reply) call, end_place-append h (End c reply) call)
    by_same false e = grind (arith, common_steps, e, begun-last h (End c reply) call, ended-last h (End c reply) call, begin_place-append h (End c reply) call, end_place-append h (End c reply) call)

-- what neither begins nor ends a call
begun-other : (h : List Entry) (e : Entry) (call : ℕ) → begins call e ≡ false → ends call e ≡ false → begun_of (h ++ e ∷ []) call ≡ begun_of h call
begun-other h e call b d = grind (arith, common_steps, b, d, begun-last h e call, ended-last h e call, begin_place-append h e call, end_place-append h e call)

begun-more : (h : List Entry) (e : Entry) (call : ℕ) → may_follow h e ≡ true → ((c : ℕ) → has_begun h c ≡ false → has_ended h c ≡ false) → begun_of (h ++ e ∷ []) call ≡ noted_call (begun_of h) (length h) e call
begun-more h (Begin c stage op) call f n = begun-begin h c stage op call f (n c (grind (arith, common_steps, f)))
begun-more h (End c reply) call f n = begun-end h c reply call f
begun-more h (Give stage token) call f n = begun-other h (Give stage token) call refl refl
begun-more h (Get stage token) call f n = begun-other h (Get stage token) call refl refl
begun-more h (Over stage how) call f n = begun-other h (Over stage how) call refl refl

noted-same : (kept other : ℕ → Option Begun) (place : ℕ) (e : Entry) (call : ℕ) → ((c : ℕ) → kept c ≡ other c) → noted_call kept place e call ≡ noted_call other place e call
noted-same kept other place e call s = ap (λ (k : ℕ → Option Begun). noted_call k place e call) (λ i c. s c i)

given-more : (h : List Entry) (e : Entry) (index new : HistoryIndex) (token : Token) → Indexes h index → Notes index new (length h) e → contains same_message new.given (key_of_message token) ≡ gave (h ++ e ∷ []) token
given-more h (Begin c stage op) index new token i n = grind (arith, common_steps, n.messages (key_of_message token), i.given token, gave-append h (Begin c stage op) token)
given-more h (End c reply) index new token i n = grind (arith, common_steps, n.messages (key_of_message token), i.given token, gave-append h (End c reply) token)
given-more h (Give stage t) index new token i n = grind (arith, common_steps, n.messages (key_of_message token), i.given token, gave-append h (Give stage t) token, same_key_is t token)
given-more h (Get stage t) index new token i n = grind (arith, common_steps, n.messages (key_of_message token), i.given token, gave-append h (Get stage t) token)
given-more h (Over stage how) index new token i n = grind (arith, common_steps, n.messages (key_of_message token), i.given token, gave-append h (Over stage how) token)

ended-more : (h : List Entry) (e : Entry) (call : ℕ) → may_follow h e ≡ true → ((c : ℕ) → has_begun h c ≡ false → has_ended h c ≡ false) → has_begun (h ++ e ∷ []) call ≡ false → has_ended (h ++ e ∷ []) call ≡ false
ended-more h (Begin c stage op) call f n b = grind (arith, common_steps, b, n call, begun-last h (Begin c stage op) call, ended-last h (Begin c stage op) call)
ended-more h (End c reply) call f n b = by_same (c == call) refl
  where
    by_same : (t : Bool) → (c == call) ≡ t → has_ended (h ++ End c reply ∷ []) call ≡ false
    by_same true e = absurd (grind (arith, common_steps, e, eqb-true c call e, f, b, begun-last h (End c reply) call))
    by_same false e = grind (arith, common_steps, e, b, n call, begun-last h (End c reply) call, ended-last h (End c reply) call)
ended-more h (Give stage t) call f n b = grind (arith, common_steps, b, n call, begun-last h (Give stage t) call, ended-last h (Give stage t) call)
ended-more h (Get stage t) call f n b = grind (arith, common_steps, b, n call, begun-last h (Get stage t) call, ended-last h (Get stage t) call)
ended-more h (Over stage how) call f n b = grind (arith, common_steps, b, n call, begun-last h (Over stage how) call, ended-last h (Over stage how) call)

pub indexed_more : (h : List Entry) (e : Entry) (index new : HistoryIndex) → may_follow h e ≡ true → Indexes h index → Notes index new (length h) e → Indexes (h ++ e ∷ []) new
indexed_more h e index new f i n = record {
  calls = λ call. n.calls call ∙ noted-same (get nat_eq index.calls) (begun_of h) (length h) e call i.calls ∙ sym (begun-more h e call f i.ended);
  given = λ token. given-more h e index new token i n;
  ended = λ call b. ended-more h e call f i.ended b;
}

-- an index of no entries
pub none_indexed : (index : HistoryIndex) → index.calls.entries ≡ [] → index.given.keys ≡ [] → Indexes [] index
unfolding has_begun has_ended gave
none_indexed index c g = record {
  calls = λ call. rw c refl;
  given = λ token. rw g refl;
  ended = λ call b. refl;
}

-- the entries up to a place, with the next one
pub indexed_step : (h : List Entry) (n : ℕ) (e : Entry) (index new : HistoryIndex) → n < length h → e ≡ get_or h n e → Indexes (take n h) index → is_well_formed_from (take n h) (drop n h) ≡ true → Notes index new n e → Indexes (take (n + 1) h) new × (is_well_formed_from (take (n + 1) h) (drop (n + 1) h) ≡ true)
unfolding is_well_formed_from
indexed_step h n e index new l s i w notes =
    let more : take (n + 1) h ≡ take n h ++ e ∷ [] = ap (λ (m : ℕ). take m h) (add-one n) ∙ take-suc h n e l ∙ ap (λ (x : Entry). take n h ++ x ∷ []) (sym s) in
    let left : drop n h ≡ e ∷ drop (n + 1) h = drop-cons h n e l ∙ ap (λ (x : Entry). x ∷ drop (suc n) h) (sym s) ∙ ap (λ (m : ℕ). e ∷ drop m h) (sym (add-one n)) in
    let parts = and_parts (may_follow (take n h) e) (is_well_formed_from (take n h ++ e ∷ []) (drop (n + 1) h)) (ap (is_well_formed_from (take n h)) (sym left) ∙ w) in
    let place : n ≡ length (take n h) = sym (length-take-le n h (omega (arith, l))) in
    let next : Indexes (take n h ++ e ∷ []) new = indexed_more (take n h) e index new parts.0 i (subst (λ (m : ℕ). Notes index new m e) place notes) in
    (subst (λ (k : List Entry). Indexes k new) (sym more) next, ap (λ (k : List Entry). is_well_formed_from k (drop (n + 1) h)) more ∙ parts.1)
