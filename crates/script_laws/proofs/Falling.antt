-- The bound falls with each silent step.
use Rattle.std.proofs.Common.{◌≡◌, ◌∙◌, sym, ap, ℕ, zero, suc, ◌<◌, ◌≤◌, ◌+◌, ◌-◌, ◌*◌, List, [], ◌∷◌, length, get_or, Bool, true, false, refl, arith, subst, ◌⊎◌, inl, inr, Some}
use Rattle.std.specs.Prelude.{nat_lt}
use Rattle.std.proofs.lemmas.Bool.{cases_lt}
use Rattle.std.proofs.lemmas.Bool.Decides.{Decides-ltb}
use Rattle.std.proofs.lemmas.Grind.{common_steps}
use Rattle.std.proofs.Math.Nat.{mul-le-mul_left, mul-le-mul_right}
use Rattle.pipeline_lang.specs.declared.config.Config.{Config}
use Rattle.pipeline_lang.specs.declared.script.Statement.TheVariants as statement
use Rattle.pipeline_lang.specs.Config.{script_of, statement_at}
use Rattle.rss_model.specs.declared.history.Entry.{Entry}
use Rattle.rss_model.specs.Formula.{guard_value}
use Rattle.rss_model.specs.Cursor.{NumberedStatement, Block, Cursor, after_local, cursor_in_block, cursor_past_block, cursor_after_end, next_cursor}
use Rattle.rss_model.specs.Walk.{Walk, Mode, unborn, ready, in_call, over, past_statement, after_wait, after_take}
use Rattle.script_laws.specs.Steps.{silent_at, silent_in, silent_step, is_dead, is_dry}
use Rattle.script_laws.specs.Weights.{turns_of, most_turns, weight, held, weigh}

-- more statements weigh more
weight_grows : (most m n : ℕ) → m ≤ n → weight most m ≤ weight most n
unfolding weight
weight_grows most zero n l = omega arith
weight_grows most (suc m) zero l = absurd (omega (arith, l))
weight_grows most (suc m) (suc n) l =
    let rest = mul-le-mul_left most (weight_grows most m n (omega (arith, l))) in omega (arith, rest)

at_least_one : (script : List NumberedStatement) → 0 < most_turns script
unfolding most_turns
at_least_one [] = omega arith
at_least_one (s ∷ rest) = omega (arith, at_least_one rest)

at_least_turns : (script : List NumberedStatement) (i : ℕ) (turns : ℕ) →
    get_or script i statement.Exit ≡ statement.Repeat turns → turns ≤ most_turns script
unfolding most_turns
at_least_turns [] i turns e = absurd (cc (e))
at_least_turns (s ∷ rest) zero turns e =
    let same : turns_of s ≡ turns = ap turns_of e in omega (arith, same)
at_least_turns (s ∷ rest) (suc i) turns e = omega (arith, at_least_turns rest i turns e)

-- one statement weighs more than all behind it, as often as a block has turns
weight_falls : (most left turns : ℕ) → 0 < most → turns ≤ most →
    weight most left + (turns - 1) * weight most left < weight most (suc left)
unfolding weight
weight_falls most left zero p l =
    let one : 1 * weight most left ≤ most * weight most left = mul-le-mul_right (weight most left) p in
    omega (arith, one)
weight_falls most left (suc turns) p l =
    let all : suc turns * weight most left ≤ most * weight most left =
    mul-le-mul_right (weight most left) l in
    grind (arith, all)

-- what is left at a place within the script
left_is : (p size : ℕ) → p < size → size - p ≡ suc (size - (p + 1))
left_is p size l = omega (arith, l)

-- on to a later statement, with the same blocks
falls_on : (script : List NumberedStatement) (at to : Cursor) → at.position < length script →
    at.position + 1 ≤ to.position → to.blocks ≡ at.blocks → weigh script to < weigh script at
falls_on script at to l m b =
    let most : ℕ = most_turns script in
    let left : ℕ = length script - (at.position + 1) in
    let falls : weight most left + (0 - 1) * weight most left < weight most (suc left) =
    weight_falls most left 0 (at_least_one script) (omega arith) in
    let here : weight most (length script - at.position) ≡ weight most (suc left) =
    ap (weight most) (left_is at.position (length script) l) in
    let less : weight most (length script - to.position) ≤ weight most left =
    weight_grows most (length script - to.position) left (omega (arith, m)) in
    let same : held most (length script) to.blocks ≡ held most (length script) at.blocks =
    ap (held most (length script)) b in
    omega (arith, falls, here, less, same)

-- into a block
falls_in : (script : List NumberedStatement) (at : Cursor) (turns : ℕ) → at.position < length script →
    turns ≤ most_turns script → weigh script (cursor_in_block at turns) < weigh script at
unfolding held
falls_in script at turns l t =
    let most : ℕ = most_turns script in
    let left : ℕ = length script - (at.position + 1) in
    let falls : weight most left + (turns - 1) * weight most left < weight most (suc left) =
    weight_falls most left turns (at_least_one script) t in
    let here : weight most (length script - at.position) ≡ weight most (suc left) =
    ap (weight most) (left_is at.position (length script) l) in
    omega (arith, falls, here)

one_turn : (turns x : ℕ) → 1 < turns → (turns - 1) * x ≡ x + (turns - 1 - 1) * x
one_turn zero x l = absurd (omega (arith, l))
one_turn (suc zero) x l = absurd (omega (arith, l))
one_turn (suc (suc turns)) x l =
    let once : suc (suc turns) - 1 ≡ suc turns = omega arith in
    let twice : suc (suc turns) - 1 - 1 ≡ turns = omega arith in
    let more : suc turns * x ≡ x + turns * x = grind arith in
    ap (λ (n : ℕ). n * x) once ∙ more ∙ ap (λ (n : ℕ). x + n * x) (sym twice)

-- behind the end of a block
falls_out : (script : List NumberedStatement) (at : Cursor) (blocks : List Block) → at.blocks ≡ blocks →
    at.position < length script → weigh script (cursor_after_end at blocks) < weigh script at
unfolding held
falls_out script at [] e l = falls_on script at (next_cursor at) l (omega arith) refl
falls_out script at (b ∷ blocks) e l = by_turns (nat_lt 1 b.turns) refl
  where
    most : ℕ
    most = most_turns script

    total : weigh script at ≡
        weight (most_turns script) (length script - at.position) +
        ((b.turns - 1) * weight (most_turns script) (length script - b.first) +
        held (most_turns script) (length script) blocks)
    total =
        ap (λ bs. weight (most_turns script) (length script - at.position) + held (most_turns script) (length script) bs) e

    next : weight (most_turns script) (length script - (at.position + 1)) < weight (most_turns script) (length script - at.position)
    next =
        let falls = weight_falls (most_turns script) (length script - (at.position + 1)) 0 (at_least_one script) (omega arith) in
        let here = ap (weight (most_turns script)) (left_is at.position (length script) l) in
        omega (arith, falls, here)

    by_turns : (t : Bool) → nat_lt 1 b.turns ≡ t → weigh script (cursor_after_end at (b ∷ blocks)) < weigh script at
    by_turns true t =
        let turn = one_turn b.turns (weight (most_turns script) (length script - b.first)) ((Decides-ltb 1 b.turns).0 t) in
        rw t (omega (arith, turn, total, next))
    by_turns false t = rw t (omega (arith, total, next))

within : (script : List NumberedStatement) (p : ℕ) (s : NumberedStatement) →
    get_or script p statement.Exit ≡ s → (s ≡ statement.Exit → ⊥) → p < length script
within script p s e n = by_place (cases_lt p (length script))
  where
    by_place : (p < length script) ⊎ (length script ≤ p) → p < length script
    by_place (inl l) = l
    by_place (inr l) =
        let past : get_or script p statement.Exit ≡ statement.Exit = grind (arith, common_steps, l) in
        absurd (n (sym e ∙ past))

module _ (config : Config) (h : List Entry) (stage : ℕ) where
  -- the bound of a walk
  abbrev Bound : Walk → ℕ
  Bound w = weigh (script_of config stage) w.cursor

  falls_at : (w v : Walk) (s : NumberedStatement) → statement_at config stage w.cursor.position ≡ s →
      silent_at config h stage w s ≡ Some v → Bound v < Bound w
  falls_at w v (statement.Let variable value) n e =
      let to : Walk = record w { cursor = after_local (script_of config stage) w.cursor (statement.Let variable value) } in
      let same : to ≡ v = cc (e) in
      subst (λ x. Bound x < Bound w) same
      (falls_on (script_of config stage) w.cursor to.cursor (within _ _ _ n (λ x. cc (x))) (omega arith) refl)
  falls_at w v (statement.Read variable key) n e = absurd (cc (e))
  falls_at w v (statement.Write key value) n e = absurd (cc (e))
  falls_at w v (statement.Snap pairs) n e = absurd (cc (e))
  falls_at w v (statement.Txn pairs guard writes) n e = absurd (cc (e))
  falls_at w v (statement.Spawn child) n e = absurd (cc (e))
  falls_at w v (statement.Wait child) n e = by_test (is_dead h child) refl e
    where
      by_test : (b : Bool) → is_dead h child ≡ b →
          silent_at config h stage w (statement.Wait child) ≡ Some v → Bound v < Bound w
      by_test true t f =
          let same : after_wait w 2 ≡ v = grind (arith, t, f) in
          subst (λ x. Bound x < Bound w) same
          (falls_on (script_of config stage) w.cursor (after_wait w 2).cursor (within _ _ _ n (λ x. cc (x))) (omega arith) refl)
      by_test false t f = absurd (grind (arith, t, f))
  falls_at w v (statement.Put pipe value) n e = absurd (cc (e))
  falls_at w v (statement.Take variable pipe) n e = by_test (is_dry config h w pipe) refl e
    where
      by_test : (b : Bool) → is_dry config h w pipe ≡ b →
          silent_at config h stage w (statement.Take variable pipe) ≡ Some v → Bound v < Bound w
      by_test true t f =
          let same : after_take w variable 0 2 ≡ v = grind (arith, t, f) in
          subst (λ x. Bound x < Bound w) same
          (falls_on (script_of config stage) w.cursor (after_take w variable 0 2).cursor (within _ _ _ n (λ x. cc (x))) (omega arith) refl)
      by_test false t f = absurd (grind (arith, t, f))
  falls_at w v (statement.Close pipe) n e = absurd (cc (e))
  falls_at w v statement.Fence n e =
      let same : past_statement w ≡ v = cc (e) in
      subst (λ x. Bound x < Bound w) same
      (falls_on (script_of config stage) w.cursor (next_cursor w.cursor) (within _ _ _ n (λ x. cc (x))) (omega arith) refl)
  falls_at w v (statement.Repeat turns) n e =
      let to : Walk = record w { cursor = cursor_in_block w.cursor turns } in
      let same : to ≡ v = cc (e) in
      subst (λ x. Bound x < Bound w) same
      (falls_in (script_of config stage) w.cursor turns (within _ _ _ n (λ x. cc (x)))
      (at_least_turns (script_of config stage) w.cursor.position turns n))
  falls_at w v (statement.When test) n e = by_test (guard_value test w.cursor.variables) refl e
    where
      by_test : (b : Bool) → guard_value test w.cursor.variables ≡ b →
          silent_at config h stage w (statement.When test) ≡ Some v → Bound v < Bound w
      by_test true t f =
          let to : Walk = record w { cursor = cursor_in_block w.cursor 1 } in
          let same : to ≡ v = grind (arith, t, f) in
          subst (λ x. Bound x < Bound w) same
          (falls_in (script_of config stage) w.cursor 1 (within _ _ _ n (λ x. cc (x)))
          (at_least_one (script_of config stage)))
      by_test false t f =
          let to : Walk = record w { cursor = cursor_past_block (script_of config stage) w.cursor } in
          let same : to ≡ v = grind (arith, t, f) in
          subst (λ x. Bound x < Bound w) same
          (falls_on (script_of config stage) w.cursor (cursor_past_block (script_of config stage) w.cursor)
          (within _ _ _ n (λ x. cc (x))) (omega arith) refl)
  falls_at w v statement.End n e =
      let to : Walk = record w { cursor = cursor_after_end w.cursor w.cursor.blocks } in
      let same : to ≡ v = cc (e) in
      subst (λ x. Bound x < Bound w) same
      (falls_out (script_of config stage) w.cursor w.cursor.blocks refl (within _ _ _ n (λ x. cc (x))))
  falls_at w v statement.Exit n e = absurd (cc (e))

  falls_in_mode : (w v : Walk) (m : Mode) → silent_in config h stage w m ≡ Some v → Bound v < Bound w
  falls_in_mode w v unborn e = absurd (cc (e))
  falls_in_mode w v ready e =
      falls_at w v (statement_at config stage w.cursor.position) refl e
  falls_in_mode w v (in_call call) e = absurd (cc (e))
  falls_in_mode w v (over how owed) e = absurd (cc (e))

  -- each silent step falls
  pub silent_falls : (w v : Walk) → silent_step config h stage w ≡ Some v → Bound v < Bound w
  silent_falls w v e = falls_in_mode w v w.mode e
