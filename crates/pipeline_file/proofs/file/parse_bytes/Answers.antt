use Rattle.pipeline_file.proofs.Texts.{document_utf8, document_other}
use Rattle.pipeline_file.proofs.file.parse_bytes.Goals as goal

pub returns-in-Ok : goal.returns-in-Ok
returns-in-Ok c = rw (document_utf8 c.args.bytes.now c.in-Ok.ensures.cases.1) (rw c.in-Ok.ensures.cases.0 at c.parse_text.ensures)

pub returns-in-Err : goal.returns-in-Err
returns-in-Err c = rw (c.fault.ensures, c.whole.ensures) (document_other c.args.bytes.now c.in-Err.ensures.cases.0)
