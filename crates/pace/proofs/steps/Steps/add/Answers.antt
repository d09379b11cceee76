use Rattle.std.proofs.Common.{arith}
use Rattle.pace.proofs.Additions.{put_step}
use Rattle.pace.proofs.steps.Steps.add.Goals as goal

pub returns-clause-after : goal.returns-clause-after
returns-clause-after c = put_step c.args.self.now.classes c.args.class c.index-index.result c.args.wait _ c.with.result (omega arith) (omega arith) c.with.ensures
