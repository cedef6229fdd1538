use Rattle.command_run.proofs.solving.solve.Goals as goal

pub returns-in-Vblocks : goal.returns-in-Vblocks
returns-in-Vblocks c = rw c.in-Vblocks.is c.vblocks.ensures
