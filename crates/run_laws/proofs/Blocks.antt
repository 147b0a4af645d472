-- A stage that lives can open the block that comes next.
use Rattle.std.proofs.Common.{◌≡◌, ◌⊎◌, inl, inr, ℕ, zero, suc, ◌+◌, ◌<◌, ◌≤◌, true, List, [], ◌∷◌, length, get_or, refl, ap, sym, ◌∙◌, arith}
use Rattle.std.proofs.lemmas.Bool.{true≢false}
use Rattle.pipeline_lang.specs.Config.{script_of}
use Rattle.pipeline_lang.specs.declared.config.Config.{Config}
use Rattle.pipeline_lang.specs.declared.script.Statement.TheVariants as statement
use Rattle.rss_model.specs.Cursor.{NumberedStatement, Cursor, depth_after}
use Rattle.rss_machine.specs.State.{State}
use Rattle.token_laws.specs.Depth.{CursorFits}
use Rattle.world_laws.specs.Depth.{depth_from, depth_at}
use Rattle.world_laws.specs.Shapes.{IsSoundFile}
use Rattle.world_laws.proofs.Looks.{get_or_past}
use Rattle.run_laws.specs.Facts.{is_opening, CursorsFit, BlocksFew}

depth_none : (d : ℕ) (xs : List NumberedStatement) → depth_from d xs 0 ≡ d
depth_none d [] = refl
depth_none d (x ∷ xs) = refl

-- the depth behind a statement
depth_next : (d : ℕ) (xs : List NumberedStatement) (p : ℕ) → p < length xs → depth_from d xs (suc p) ≡ depth_after (get_or xs p statement.Exit) (depth_from d xs p)
depth_next d [] p l = absurd (omega (arith, l))
depth_next d (x ∷ xs) zero l = depth_none (depth_after x d) xs
depth_next d (x ∷ xs) (suc p) l = depth_next (depth_after x d) xs p (omega (arith, l))

opening_depth : (x : NumberedStatement) (d : ℕ) → is_opening x ≡ true → depth_after x d ≡ d + 1
opening_depth (statement.Repeat times) d e = refl
opening_depth (statement.When test) d e = refl
opening_depth (statement.Let variable value) d e = absurd (true≢false (sym e))
opening_depth (statement.Read variable key) d e = absurd (true≢false (sym e))
opening_depth (statement.Write key value) d e = absurd (true≢false (sym e))
opening_depth (statement.Snap pairs) d e = absurd (true≢false (sym e))
opening_depth (statement.Txn pairs guard writes) d e = absurd (true≢false (sym e))
opening_depth (statement.Spawn child) d e = absurd (true≢false (sym e))
opening_depth (statement.Wait child) d e = absurd (true≢false (sym e))
opening_depth (statement.Put p value) d e = absurd (true≢false (sym e))
opening_depth (statement.Take variable p) d e = absurd (true≢false (sym e))
opening_depth (statement.Close p) d e = absurd (true≢false (sym e))
opening_depth statement.Fence d e = absurd (true≢false (sym e))
opening_depth statement.End d e = absurd (true≢false (sym e))
opening_depth statement.Exit d e = absurd (true≢false (sym e))

-- a cursor at a statement that opens a block
few_at : (script : List NumberedStatement) (at : Cursor) → CursorFits script at → ((place : ℕ) → depth_at script place ≤ 4) → is_opening (get_or script at.position statement.Exit) ≡ true → length at.blocks < 4
few_at script at h n e = by_place (get_or_past script at.position statement.Exit)
  where
    by_place : (at.position < length script) ⊎ (get_or script at.position statement.Exit ≡ statement.Exit) → length at.blocks < 4
    by_place (inl l) =
        let a = depth_next 0 script at.position l in
        let b = opening_depth (get_or script at.position statement.Exit) (depth_from 0 script at.position) e in
        let d = h.depth l in
        let m = n (suc at.position) in
        omega (arith, a, b, d, m)
    by_place (inr q) = absurd (true≢false (sym e ∙ ap is_opening q))

pub blocks_few : (c : Config) (s : State) → IsSoundFile c → CursorsFit c s → BlocksFew c s
blocks_few c s f h n z l e = few_at (script_of c n) _ (h n z l) (f.within.nesting n) e
