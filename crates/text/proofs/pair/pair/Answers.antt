use Rattle.std.proofs.Common.{take, rules, sym, ap, ◌∙◌, arith}
use borrow.Author.Tests.{tests}
use Rattle.std.proofs.lemmas.Iterator.{YieldsList-from_slice}
use Rattle.std.proofs.lemmas.Iterator.Search.{position_from_yields_List}
use Rattle.pace.specs.Steps.{ladders_of}
use Rattle.text.proofs.Pairing.{lacking_at, lacks, front_found}
use Rattle.text.proofs.pair.pair.Goals as goal

pub returns-in-Some : goal.returns-in-Some
returns-in-Some g c =
    let test = lacks (ladders_of c.args.steps.now) in
    let found = position_from_yields_List test c.position-first.new.self _ c.position-first.result c.position-first.ensures.ran (YieldsList-from_slice (take c.min-count.result c.args.records.now) cc) (λ x b q k. search (rules, tests)) in
    ap lacking_at (sym c.in-Some.is ∙ found) ∙ front_found (ladders_of c.args.steps.now) c.args.records.now c.min-count.result (omega (arith, c.min-count.ensures))

pub returns-in-None : goal.returns-in-None
returns-in-None g c =
    let test = lacks (ladders_of c.args.steps.now) in
    let found = position_from_yields_List test c.position-first.new.self _ c.position-first.result c.position-first.ensures.ran (YieldsList-from_slice (take c.min-count.result c.args.records.now) cc) (λ x b q k. search (rules, tests)) in
    ap lacking_at (sym c.in-None.is ∙ found) ∙ front_found (ladders_of c.args.steps.now) c.args.records.now c.min-count.result (omega (arith, c.min-count.ensures))
