use Rattle.std.proofs.Common.{◌++◌, codes}
use Rattle.std.proofs.lemmas.Result.{IfOk-equal}
use Rattle.std.specs.Fmt.{decimal}
use Rattle.rss_cli.specs.FaultText.{no_replica_text}
use Rattle.rss_cli.proofs.Lines.{three}
use Rattle.rss_cli.proofs.fault_lines.put_no_replica.Goals as goal

pub returns : goal.returns
returns c =
    let out = c.args.out.now.items in
    IfOk-equal c.put-2.result _ _ (out ++ no_replica_text c.args.replica) c.put-2.ensures
    (three out (codes "fault replica ") (decimal c.args.replica) (codes "\n") c.put.new.out.items c.put_number.new.out.items c.in_ok-put.ensures c.in_ok-put_number.ensures)
