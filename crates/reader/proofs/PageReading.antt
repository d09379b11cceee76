-- Reading rows of a page into a buffer, line by line.
use Rattle.std.proofs.Common.{◌≡◌, ℕ, List, [], ◌∷◌, ◌++◌, Ok, Err, refl, ap}
use Rattle.rows.specs.declared.fault.RowFault.{RowFault}
use Rattle.tally.specs.declared.line.PageRow.{PageRow}
use Rattle.tally.specs.declared.account.Tally.{Tally}
use Rattle.tally.specs.Tallies.{taken, counted}
use Rattle.reader.specs.PageFiles.{row_after, onto, page_step}

pub counted_push : (t : Tally) (rs : List PageRow) (r : PageRow) → counted t (rs ++ r ∷ []) ≡ taken (counted t rs) r
counted_push t [] r = refl
counted_push t (q ∷ rs) r = counted_push (taken t q) rs r

module _ (name opening : ℕ) where
  pub page_takes : (rs : List PageRow) (line : List ℕ) (r : PageRow) → row_after (record { name = name; opening = opening }) rs line ≡ Ok r → page_step opening rs line ≡ Ok (rs ++ r ∷ [])
  page_takes rs line r e = ap (onto rs) e

  pub page_refuses : (rs : List PageRow) (line : List ℕ) (f : RowFault) → row_after (record { name = name; opening = opening }) rs line ≡ Err f → page_step opening rs line ≡ Err f
  page_refuses rs line f e = ap (onto rs) e
