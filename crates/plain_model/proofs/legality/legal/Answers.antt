use Rattle.plain_model.proofs.legality.legal.Goals as goal

pub returns : goal.returns
returns c = rw (← c.as_slice.ensures, ← c.as_slice-2.ensures) c.is_legal.ensures
