-- The pass over a history finds what paths lead to.
use Rattle.std.proofs.Common.{◌≡◌, ℕ, zero, suc, ◌<◌, ◌⊎◌, ◌↔◌, inl, inr, Bool, true, false, List, length, arith, refl, sym, ap, ◌∙◌, subst}
use Rattle.std.specs.Prelude.{IsTrue, ◌||◌, ◌&&◌, ◌==◌}
use Rattle.std.proofs.lemmas.Grind.{common_steps}
use Rattle.rss_model.specs.Tokens.{same_token}
use Rattle.rss_model.specs.declared.history.Entry.{Entry}
use Rattle.rss_model.specs.declared.history.Entry.TheVariants.{Begin, End, Give, Get, Over}
use Rattle.rss_model.specs.declared.history.Token.{Token}
use Rattle.rss_model.specs.declared.history.Token.TheVariants.{Spawn, Chunk, Exit}
use Rattle.rss_model.specs.History.{entry_at, begins, ends, BeginsAt, EndsAt}
use Rattle.rss_model.specs.Stages.{stage_at, stage_of, entry_stage}
use Rattle.rss_model.specs.Causality.{Path, here, along, carried, BeforeByMessages}
use Rattle.rss_model.specs.Behind.{BehindPlace, BehindStage, BehindToken}
use Rattle.order_laws.specs.CallsBehind.{CallsBehind, calls_behind, behind_after}

-- the test of messages
same_token-true : (a b : Token) → same_token a b ≡ true → a ≡ b
same_token-true (Spawn a) (Spawn b) e = grind (arith, common_steps, e)
same_token-true (Spawn a) (Chunk p n) e = grind (arith, e)
same_token-true (Spawn a) (Exit b) e = grind (arith, e)
same_token-true (Chunk p n) (Spawn a) e = grind (arith, e)
same_token-true (Chunk p n) (Chunk q m) e = grind (arith, common_steps, e)
same_token-true (Chunk p n) (Exit b) e = grind (arith, e)
same_token-true (Exit a) (Spawn b) e = grind (arith, e)
same_token-true (Exit a) (Chunk p n) e = grind (arith, e)
same_token-true (Exit a) (Exit b) e = grind (arith, common_steps, e)

same_token-itself : (a : Token) → same_token a a ≡ true
same_token-itself (Spawn a) = grind (arith, common_steps)
same_token-itself (Chunk p n) = grind (arith, common_steps)
same_token-itself (Exit a) = grind (arith, common_steps)

-- tests joined
or_parts : (a b : Bool) → (a || b) ≡ true → (a ≡ true) ⊎ (b ≡ true)
or_parts true b e = inl refl
or_parts false b e = inr e

or_left : (a b : Bool) → a ≡ true → (a || b) ≡ true
or_left a b e = grind (arith, e)

or_right : (a b : Bool) → b ≡ true → (a || b) ≡ true
or_right true b e = refl
or_right false b e = e

and_parts : (a b : Bool) → (a && b) ≡ true → (a ≡ true) × (b ≡ true)
and_parts true b e = (refl, e)
and_parts false b e = absurd (grind (arith, e))

both : (a b : Bool) → a ≡ true → b ≡ true → (a && b) ≡ true
both a b e f = grind (arith, e, f)

eq_true : (a b : ℕ) → (a == b) ≡ true → a ≡ b
eq_true a b e = grind (arith, common_steps, e)

true_eq : (a b : ℕ) → a ≡ b → (a == b) ≡ true
true_eq a b e = grind (arith, common_steps, e)

module _ (h : List Entry) where
  -- a call is behind a stage, or behind a message, by an entry below this place
  abbrev pub StageBelow : ℕ → ℕ → ℕ → Type 0
  StageBelow n stage call = (j : ℕ) × (j < n) × (stage_at h j ≡ stage) × BehindPlace h call j

  abbrev pub TokenBelow : ℕ → Token → ℕ → Type 0
  TokenBelow n token call = (j : ℕ) × (giver : ℕ) × (j < n) × (entry_at h j ≡ Give giver token) × BehindPlace h call j

  stage_widened : (n stage call : ℕ) → StageBelow n stage call → StageBelow (suc n) stage call
  stage_widened n stage call (j, l, s, b) = (j, omega (arith, l), s, b)

  token_widened : (n : ℕ) (token : Token) (call : ℕ) → TokenBelow n token call →
      TokenBelow (suc n) token call
  token_widened n token call (j, giver, l, g, b) = (j, giver, omega (arith, l), g, b)

  -- how a call comes to be behind a place: it ends there, it is behind the stage, or a message brings it
  pub data Comes (n call : ℕ) : Type 0 where
    by_end : EndsAt h call n → Comes n call
    by_stage : StageBelow n (stage_at h n) call → Comes n call
    by_message : {getter : ℕ} {token : Token} → entry_at h n ≡ Get getter token →
        TokenBelow n token call → Comes n call

  path_comes : (n i call : ℕ) → EndsAt h call i → Path h i n → Comes n call
  path_comes n i call b here = by_end b
  path_comes n i call b (along {k = k} p l s) = by_stage (k, l, s, (i, b, p))
  path_comes n i call b (carried {k = k} {giver = giver} p l g t) = by_message t (k, giver, l, g, (i, b, p))

  pub comes : (n call : ℕ) → BehindPlace h call n → Comes n call
  comes n call (i, b, p) = path_comes n i call b p

  pub led_along : (n call : ℕ) → StageBelow n (stage_at h n) call → BehindPlace h call n
  led_along n call (j, l, s, (i, b, p)) = (i, b, along p l s)

  pub led_carried : (n getter : ℕ) (token : Token) (call : ℕ) → entry_at h n ≡ Get getter token →
      TokenBelow n token call → BehindPlace h call n
  led_carried n getter token call t (j, giver, l, g, (i, b, p)) = (i, b, carried p l g t)

  -- what the pass has found so far
  pub record Told (n : ℕ) (behind : CallsBehind) : Type 0 where
    pub stage : (stage call : ℕ) → behind.stage stage call ≡ true → StageBelow n stage call
    pub stage_back : (stage call : ℕ) → StageBelow n stage call → behind.stage stage call ≡ true
    pub message : (token : Token) (call : ℕ) → behind.message token call ≡ true →
        TokenBelow n token call
    pub message_back : (token : Token) (call : ℕ) → TokenBelow n token call →
        behind.message token call ≡ true

  -- who is behind a stage after one more entry
  module _ (n : ℕ) (behind : CallsBehind) (told : Told n behind) where
    place_last : (e : Entry) → entry_at h n ≡ e → (stage call : ℕ) → entry_stage h e ≡ stage →
        BehindPlace h call n → StageBelow (suc n) stage call
    place_last e q stage call s b = (n, omega arith, ap (entry_stage h) q ∙ s, b)

    stage_more : (e : Entry) → entry_at h n ≡ e → (stage call : ℕ) →
        (behind_after h behind e).stage stage call ≡ true → StageBelow (suc n) stage call
    stage_more (Begin c s op) q stage call x = stage_widened n stage call (told.stage stage call x)
    stage_more (End c reply) q stage call x = by_part (or_parts (behind.stage stage call) (stage_of h c == stage && c == call) x)
      where
        by_part : (behind.stage stage call ≡ true) ⊎ ((stage_of h c == stage && c == call) ≡ true) →
            StageBelow (suc n) stage call
        by_part (inl y) = stage_widened n stage call (told.stage stage call y)
        by_part (inr y) =
            let z = and_parts (stage_of h c == stage) (c == call) y in
            place_last (End c reply) q stage call (eq_true (stage_of h c) stage z.0) (n, subst (λ x. ends call x ≡ true) (sym q) z.1, here)
    stage_more (Give giver token) q stage call x = stage_widened n stage call (told.stage stage call x)
    stage_more (Get getter token) q stage call x = by_part (or_parts (behind.stage stage call) (getter == stage && behind.message token call) x)
      where
        by_part :
            (behind.stage stage call ≡ true) ⊎ ((getter == stage && behind.message token call) ≡ true) →
            StageBelow (suc n) stage call
        by_part (inl y) = stage_widened n stage call (told.stage stage call y)
        by_part (inr y) =
            let z = and_parts (getter == stage) (behind.message token call) y in
            place_last (Get getter token) q stage call (eq_true getter stage z.0) (led_carried n getter token call q (told.message token call z.1))
    stage_more (Over s how) q stage call x = stage_widened n stage call (told.stage stage call x)

    stage_kept : (e : Entry) (stage call : ℕ) → behind.stage stage call ≡ true →
        (behind_after h behind e).stage stage call ≡ true
    stage_kept (Begin c s op) stage call x = x
    stage_kept (End c reply) stage call x = or_left (behind.stage stage call) (stage_of h c == stage && c == call) x
    stage_kept (Give giver token) stage call x = x
    stage_kept (Get getter token) stage call x = or_left (behind.stage stage call) (getter == stage && behind.message token call) x
    stage_kept (Over s how) stage call x = x

    stage_ended : (e : Entry) (stage call : ℕ) → ends call e ≡ true → entry_stage h e ≡ stage →
        (behind_after h behind e).stage stage call ≡ true
    stage_ended (Begin c s op) stage call x s' = absurd (grind (arith, x))
    stage_ended (End c reply) stage call x s =
        or_right (behind.stage stage call) (stage_of h c == stage && c == call) (both (stage_of h c == stage) (c == call) (true_eq (stage_of h c) stage s) x)
    stage_ended (Give giver token) stage call x s = absurd (grind (arith, x))
    stage_ended (Get getter token) stage call x s = absurd (grind (arith, x))
    stage_ended (Over s how) stage call x s' = absurd (grind (arith, x))

    stage_got : (e : Entry) (getter : ℕ) (token : Token) (stage call : ℕ) → e ≡ Get getter token →
        entry_stage h e ≡ stage → behind.message token call ≡ true →
        (behind_after h behind e).stage stage call ≡ true
    stage_got e getter token stage call q s x =
        subst (λ e. (behind_after h behind e).stage stage call ≡ true) (sym q)
        (or_right (behind.stage stage call) (getter == stage && behind.message token call) (both (getter == stage) (behind.message token call) (true_eq getter stage (ap (entry_stage h) (sym q) ∙ s)) x))

    inside : (j : ℕ) → j < suc n → (j < n) ⊎ (j ≡ n)
    inside j l = grind (arith, l)

    stage_at_last : (stage call : ℕ) → stage_at h n ≡ stage → Comes n call →
        (behind_after h behind (entry_at h n)).stage stage call ≡ true
    stage_at_last stage call s (by_end b) = stage_ended (entry_at h n) stage call b s
    stage_at_last stage call s (by_stage b) = stage_kept (entry_at h n) stage call (subst (λ (x : ℕ). behind.stage x call ≡ true) s (told.stage_back (stage_at h n) call b))
    stage_at_last stage call s (by_message {getter = getter} {token = token} q b) = stage_got (entry_at h n) getter token stage call q s (told.message_back token call b)

    stage_back_more : (stage call : ℕ) → StageBelow (suc n) stage call →
        (behind_after h behind (entry_at h n)).stage stage call ≡ true
    stage_back_more stage call (j, l, s, b) = by_place (inside j l)
      where
        by_place : (j < n) ⊎ (j ≡ n) →
            (behind_after h behind (entry_at h n)).stage stage call ≡ true
        by_place (inl m) = stage_kept (entry_at h n) stage call (told.stage_back stage call (j, m, s, b))
        by_place (inr m) = stage_at_last stage call (ap (stage_at h) (sym m) ∙ s) (comes n call (subst (BehindPlace h call) m b))

    -- who is behind a message after one more entry
    message_more : (e : Entry) → entry_at h n ≡ e → (token : Token) (call : ℕ) →
        (behind_after h behind e).message token call ≡ true → TokenBelow (suc n) token call
    message_more (Begin c s op) q token call x = token_widened n token call (told.message token call x)
    message_more (End c reply) q token call x = token_widened n token call (told.message token call x)
    message_more (Give giver given) q token call x = by_part (or_parts (behind.message token call) (same_token given token && behind.stage giver call) x)
      where
        by_part :
            (behind.message token call ≡ true) ⊎ ((same_token given token && behind.stage giver call) ≡ true) →
            TokenBelow (suc n) token call
        by_part (inl y) = token_widened n token call (told.message token call y)
        by_part (inr y) =
            let z = and_parts (same_token given token) (behind.stage giver call) y in
            let of_stage : stage_at h n ≡ giver = ap (entry_stage h) q in
            (n, giver, omega arith, q ∙ ap (Give giver) (same_token-true given token z.0), led_along n call (subst (λ (x : ℕ). StageBelow n x call) (sym of_stage) (told.stage giver call z.1)))
    message_more (Get getter got) q token call x = token_widened n token call (told.message token call x)
    message_more (Over s how) q token call x = token_widened n token call (told.message token call x)

    message_kept : (e : Entry) (token : Token) (call : ℕ) → behind.message token call ≡ true →
        (behind_after h behind e).message token call ≡ true
    message_kept (Begin c s op) token call x = x
    message_kept (End c reply) token call x = x
    message_kept (Give giver given) token call x = or_left (behind.message token call) (same_token given token && behind.stage giver call) x
    message_kept (Get getter got) token call x = x
    message_kept (Over s how) token call x = x

    message_given : (e : Entry) (giver : ℕ) (token : Token) (call : ℕ) → e ≡ Give giver token →
        behind.stage giver call ≡ true → (behind_after h behind e).message token call ≡ true
    message_given e giver token call q x =
        subst (λ e. (behind_after h behind e).message token call ≡ true) (sym q)
        (or_right (behind.message token call) (same_token token token && behind.stage giver call) (both (same_token token token) (behind.stage giver call) (same_token-itself token) x))

    message_at_last : (giver : ℕ) (token : Token) (call : ℕ) → entry_at h n ≡ Give giver token →
        Comes n call → behind.stage giver call ≡ true
    message_at_last giver token call q (by_end b) = absurd (grind (arith, b, q))
    message_at_last giver token call q (by_stage b) = told.stage_back giver call (subst (λ (x : ℕ). StageBelow n x call) (ap (entry_stage h) q) b)
    message_at_last giver token call q (by_message t b) = absurd (grind (arith, q, t))

    message_back_more : (token : Token) (call : ℕ) → TokenBelow (suc n) token call →
        (behind_after h behind (entry_at h n)).message token call ≡ true
    message_back_more token call (j, giver, l, g, b) = by_place (inside j l)
      where
        by_place : (j < n) ⊎ (j ≡ n) →
            (behind_after h behind (entry_at h n)).message token call ≡ true
        by_place (inl m) = message_kept (entry_at h n) token call (told.message_back token call (j, giver, m, g, b))
        by_place (inr m) =
            let q : entry_at h n ≡ Give giver token = ap (entry_at h) (sym m) ∙ g in
            message_given (entry_at h n) giver token call q (message_at_last giver token call q (comes n call (subst (BehindPlace h call) m b)))

    pub told_more : Told (suc n) (behind_after h behind (entry_at h n))
    told_more = record {
      stage = stage_more (entry_at h n) refl;
      stage_back = stage_back_more;
      message = message_more (entry_at h n) refl;
      message_back = message_back_more;
    }

  -- the pass finds what paths lead to
  pub told : (n : ℕ) → Told n (calls_behind h n)
  unfolding calls_behind
  told zero = record {
    stage = λ stage call x. absurd (grind (arith, x));
    stage_back = λ stage call (j, l, s, b). absurd (omega (arith, l));
    message = λ token call x. absurd (grind (arith, x));
    message_back = λ token call (j, giver, l, g, b). absurd (omega (arith, l));
  }
  told (suc n) = told_more n (calls_behind h n) (told n)

pub stages_told : (h : List Entry) (stage call : ℕ) →
    IsTrue ((calls_behind h (length h)).stage stage call) ↔ BehindStage h call stage
stages_told h stage call = ((told h (length h)).stage stage call, (told h (length h)).stage_back stage call)

pub messages_told : (h : List Entry) (token : Token) (call : ℕ) →
    IsTrue ((calls_behind h (length h)).message token call) ↔ BehindToken h call token
messages_told h token call = ((told h (length h)).message token call, (told h (length h)).message_back token call)

-- a call that begins is behind nothing but its stage
begins_by : (h : List Entry) (a b i : ℕ) → BeginsAt h b i → Comes h i a →
    (calls_behind h i).stage (stage_at h i) a ≡ true
begins_by h a b i s (by_end x) = absurd (no_end (entry_at h i) s x)
  where
    no_end : (e : Entry) → begins b e ≡ true → ends a e ≡ true → ⊥
    no_end (Begin c s op) x y = grind (arith, y)
    no_end (End c reply) x y = grind (arith, x)
    no_end (Give s token) x y = grind (arith, x)
    no_end (Get s token) x y = grind (arith, x)
    no_end (Over s how) x y = grind (arith, x)
begins_by h a b i s (by_stage x) = (told h i).stage_back (stage_at h i) a x
begins_by h a b i s (by_message {getter = getter} {token = token} q x) = absurd (no_get (subst (λ e. begins b e ≡ true) q s))
  where
    no_get : begins b (Get getter token) ≡ true → ⊥
    no_get x = grind (arith, x)

pub begins_told : (h : List Entry) (a b i : ℕ) → BeginsAt h b i →
    IsTrue ((calls_behind h i).stage (stage_at h i) a) ↔ BehindPlace h a i
begins_told h a b i s = (λ x. led_along h i a ((told h i).stage (stage_at h i) a x), λ x. begins_by h a b i s (comes h i a x))

pub message_order_told : (h : List Entry) (a b : ℕ) →
    BeforeByMessages h a b ↔ ((i : ℕ) × BeginsAt h b i × IsTrue ((calls_behind h i).stage (stage_at h i) a))
message_order_told h a b = (there, back)
  where
    there : BeforeByMessages h a b →
        (i : ℕ) × BeginsAt h b i × IsTrue ((calls_behind h i).stage (stage_at h i) a)
    there (i, j, x, y, p) = (j, y, (begins_told h a b j y).1 (i, x, p))

    back : ((i : ℕ) × BeginsAt h b i × IsTrue ((calls_behind h i).stage (stage_at h i) a)) →
        BeforeByMessages h a b
    back (j, y, x) = let b = (begins_told h a b j y).0 x in (b.0, j, b.1, y, b.2)
