use Rattle.std.proofs.Common.{arith, sym, ◌∙◌}
use Rattle.world_stages.proofs.Taking.{took_chunk, took_mark, took_bare, took_nothing}
use Rattle.world_stages.proofs.staging.Staging.take.Goals as goal

pub returns-in-Chunk : goal.returns-in-Chunk
returns-in-Chunk c =
    c.take_chunk.ensures
    ∙ took_chunk c.args.self.now.staging c.args.stage c.args.variable c.args.pipe c.in-Chunk.number c.in-Chunk.value c.args.self.now.spare.seen (sym c.in-Chunk.is ∙ c.front.ensures) (c.requires.copies.seen (omega arith))

pub returns-in-Fenced : goal.returns-in-Fenced
returns-in-Fenced c =
    c.receive_taken.ensures
    ∙ took_mark c.args.self.now.staging c.args.stage c.args.variable c.args.pipe c.in-Fenced.number c.args.self.now.spare.seen (sym c.in-Fenced.is ∙ c.front.ensures) (c.requires.copies.seen (omega arith))

pub returns-in-Bare : goal.returns-in-Bare
returns-in-Bare c =
    c.pass_end.ensures
    ∙ took_bare c.args.self.now.staging c.args.stage c.args.variable c.args.pipe (sym c.in-Bare.is ∙ c.front.ensures)

pub returns-in-Nothing : goal.returns-in-Nothing
returns-in-Nothing c =
    took_nothing c.args.self.now.staging c.args.stage c.args.variable c.args.pipe (sym c.in-Nothing.is ∙ c.front.ensures)
