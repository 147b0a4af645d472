-- Whether a call begins, by the test of its operation.
use Rattle.std.proofs.Common.{◌≡◌, ◌∙◌, ap, ℕ, Bool, true, false, Some, None, sym}
use Rattle.std.specs.Prelude.{if◌then◌else◌}
use Rattle.rss_model.specs.declared.op.Op.{Op}
use Rattle.rss_model.specs.Cursor.{NumberedStatement}
use Rattle.rss_model.specs.CallStatement.{op_of_statement}
use Rattle.rss_model.specs.Walk.{Walk, in_call}
use Rattle.script_laws.specs.Entries.{is_op, begun}

pub begun_if : (w v : Walk) (s : NumberedStatement) (call : ℕ) (op : Op) →
    is_op (op_of_statement s w.cursor.variables) op ≡ true →
    v ≡ record w { mode = in_call call } → Some v ≡ begun w (Some s) call op
begun_if w v s call op e f =
    let begins : Walk = record w { mode = in_call call } in
    ap (λ x. Some x) f ∙ ap (λ (b : Bool). if b then Some begins else None) (sym e)

pub begun_unless : (w : Walk) (s : NumberedStatement) (call : ℕ) (op : Op) →
    is_op (op_of_statement s w.cursor.variables) op ≡ false → None ≡ begun w (Some s) call op
begun_unless w s call op e =
    let begins : Walk = record w { mode = in_call call } in
    ap (λ (b : Bool). if b then Some begins else None) (sym e)
