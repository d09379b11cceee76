use Rattle.promise.proofs.FourQuotes as worked
use Rattle.promise.proofs.telling.telling.Goals as goal

pub returns : goal.returns
returns c = worked.telling
