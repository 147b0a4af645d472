-- One more of those that are made, and one more stage that is looked at.
use Rattle.std.proofs.Common.{◌≡◌, ℕ, zero, suc, ◌+◌, ◌-◌, ◌<◌, Bool, ◌&&◌, List, [], ◌∷◌, ◌++◌, Option, refl, ap, sym, ◌∙◌, arith, append_assoc, if◌then◌else◌}
use Rattle.pipeline_lang.specs.declared.config.Config.{Config}
use Rattle.rss_model.specs.Scripts.{is_spawned}
use Rattle.rss_tables.specs.declared.endings.StubEnd.{StubEnd}
use Rattle.rss_machine.specs.Standing.{parent_of}
use Rattle.rss_machine.specs.State.{Stage, stages_from, opening_stage}
use Rattle.rss_machine.specs.declared.state.Life.TheVariants.{Unborn, Live}
use Rattle.world_stages.specs.Settled.{parents_from, settled_in, all_settled_in}

stages_more : (c : Config) (n many i : ℕ) → i < many → stages_from c n (many - i) ≡ opening_stage (if is_spawned c n then Unborn else Live) ∷ stages_from c (n + 1) (many - (i + 1))
stages_more c n many i l = let e : many - i ≡ suc (many - (i + 1)) = omega (arith, l) in ap (stages_from c n) e

-- one stage more
pub stages_step : (c : Config) (xs ys whole : List Stage) (x : Stage) (i many : ℕ) → ys ≡ xs ++ x ∷ [] → x ≡ opening_stage (if is_spawned c (i + 1) then Unborn else Live) → i < many
    → xs ++ stages_from c (i + 1) (many - i) ≡ whole → ys ++ stages_from c (i + 1 + 1) (many - (i + 1)) ≡ whole
stages_step c xs ys whole x i many pushed is l h =
    ap (λ (zs : List Stage). zs ++ stages_from c (i + 1 + 1) (many - (i + 1))) pushed
    ∙ append_assoc xs (x ∷ []) (stages_from c (i + 1 + 1) (many - (i + 1)))
    ∙ ap (λ (y : Stage). xs ++ y ∷ stages_from c (i + 1 + 1) (many - (i + 1))) is
    ∙ ap (λ (zs : List Stage). xs ++ zs) (sym (stages_more c (i + 1) many i l))
    ∙ h

parents_more : (c : Config) (n many i : ℕ) → i < many → parents_from c n (many - i) ≡ parent_of c n ∷ parents_from c (n + 1) (many - (i + 1))
parents_more c n many i l = let e : many - i ≡ suc (many - (i + 1)) = omega (arith, l) in ap (parents_from c n) e

-- one parent more
pub parents_step : (c : Config) (xs ys whole : List ℕ) (x i many : ℕ) → ys ≡ xs ++ x ∷ [] → x ≡ parent_of c i → i < many
    → xs ++ parents_from c i (many - i) ≡ whole → ys ++ parents_from c (i + 1) (many - (i + 1)) ≡ whole
parents_step c xs ys whole x i many pushed is l h =
    ap (λ (zs : List ℕ). zs ++ parents_from c (i + 1) (many - (i + 1))) pushed
    ∙ append_assoc xs (x ∷ []) (parents_from c (i + 1) (many - (i + 1)))
    ∙ ap (λ (y : ℕ). xs ++ y ∷ parents_from c (i + 1) (many - (i + 1))) is
    ∙ ap (λ (zs : List ℕ). xs ++ zs) (sym (parents_more c i many i l))
    ∙ h

-- one more stage is looked at
pub settled_one_more : (parents : List ℕ) (ends : List (Option StubEnd)) (stages : List Stage) (n left : ℕ) → 0 < left
    → all_settled_in parents ends stages n left ≡ (settled_in parents ends stages 16 n && all_settled_in parents ends stages (n + 1) (left - 1))
settled_one_more parents ends stages n zero h = absurd (omega (arith, h))
settled_one_more parents ends stages n (suc left) h = let e : suc left - 1 ≡ left = omega arith in rw e refl
