use Rattle.std.proofs.Common.{length, sym, subst}
use Rattle.driver.proofs.Places.{Fits, place_fits}
use Rattle.driver.proofs.job.job.Goals as goal

pub line-requires : goal.line-requires
line-requires c =
    let f = subst Fits (sym c.place.ensures) (place_fits c.args.schedule.now c.args.list.now (length c.args.records.now) c.in-Err.fault c.in-Err.ensures.0) in
    record { row = f.row; field = f.field }
