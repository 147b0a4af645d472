-- The pieces spell the generated file.
use Rattle.std.proofs.Common.{codes}
use Rattle.rss_workload.proofs.Pieces.{four_pieces, renamed}
use Rattle.rss_workload.proofs.file.file_of.Goals as goal

pub returns : goal.returns
returns c =
    four_pieces _ _ _ _ _ _ _ _ _ c.new-text.ensures.items c.in_ok-put_numbered.ensures
    (renamed _ _ (codes "\n  let id = id + ") _ _ c.in_ok-put_numbered-2.ensures c.addend.ensures) c.in_ok-put_numbered-3.ensures c.in_ok-extend_from_slice.ensures.items
