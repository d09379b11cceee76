use Rattle.std.proofs.Common.{ℕ, rules, leb, ◌∙◌, arith}
use borrow.Author.Tests.{tests}
use Rattle.std.proofs.lemmas.Iterator.{YieldsList-from_slice, YieldsList-from_zip}
use Rattle.std.proofs.lemmas.Iterator.Search.{all_from_yields_List}
use Rattle.rows.specs.declared.column.Column.{Column}
use Rattle.rows.proofs.Fitting.{fits_zip}
use Rattle.rows.proofs.layout.Layout.fits.Goals as goal

pub returns : goal.returns
returns g c =
    let t = c.args.self.now in
    all_from_yields_List (λ (p : ℕ × Column). leb p.0 p.1.limit) c.all.new.self _ _ c.all.ensures.ran
    (YieldsList-from_zip (YieldsList-from_slice c.args.values.now cc) (YieldsList-from_slice t.columns cc)) (λ x b q k. search (rules, tests))
    ∙ fits_zip t.columns c.args.values.now (omega (arith, t.sized))
