use Rattle.power.specs.Magnets.{magnet_meaning}
use Rattle.power.proofs.Moves.{approaches, run_more}
use Rattle.power.proofs.magnet.methods.Magnet.advance_by.Goals as goal

pub loop-preserved : goal.loop-preserved
loop-preserved c = run_more (magnet_meaning c.args.self.now) (magnet_meaning c.loop.self) _ c.loop.counter _ c.loop.invariant c.advance.ensures.after c.advance.ensures.step

pub returns-clause-run : goal.returns-clause-run
returns-clause-run c = approaches _ _
