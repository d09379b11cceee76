-- Rows that a page took, accounted for one after another.
use Rattle.std.proofs.Common.{◌≡◌, ℕ, ◌+◌, ◌<◌, ◌≤◌, List, ◌∷◌, length, get_or, drop, sym, ap, ◌∙◌, subst, arith}
use Rattle.std.proofs.lemmas.List.{drop_more, drop_all}
use Rattle.tally.specs.declared.line.PageRow.{PageRow}
use Rattle.tally.specs.declared.account.Tally.{Tally}
use Rattle.tally.specs.Tallies.{taken, counted}
use Rattle.reader.specs.PageFiles.{Fits}
use Rattle.reader.proofs.Turns.{Takes}

-- after i rows: the rows that are left take the tally on to that of all
pub record Accounted (start : Tally) (rows : List PageRow) (i : ℕ) (t : Tally) : Type 0 where
  pub whole : counted t (drop i rows) ≡ counted start rows
  pub fits : Fits t (drop i rows)
  pub count : t.rows ≡ start.rows + i

module _ (start : Tally) (rows : List PageRow) (i : ℕ) (t : Tally) (a : Accounted start rows i t) (d : PageRow) (h : i < length rows) where
  next_fits : Fits t (get_or rows i d ∷ drop (i + 1) rows)
  next_fits = subst (Fits t) (drop_more rows i d h) a.fits

  pub accounted_takes : Takes t (get_or rows i d)
  accounted_takes = record { known = next_fits.0; orderly = next_fits.1 }

  pub accounted_more : (u : Tally) → u ≡ taken t (get_or rows i d) → Accounted start rows (i + 1) u
  accounted_more u e =
      record {
        whole = ap (λ x. counted x (drop (i + 1) rows)) e ∙ sym (ap (counted t) (drop_more rows i d h)) ∙ a.whole;
        fits = subst (λ x. Fits x (drop (i + 1) rows)) (sym e) next_fits.2;
        count = ap (λ (x : Tally). x.rows) e ∙ omega (arith, a.count);
      }

pub accounted_all : (start : Tally) (rows : List PageRow) (i : ℕ) (t : Tally) → Accounted start rows i t → length rows ≤ i → t ≡ counted start rows
accounted_all start rows i t a h = sym (ap (counted t) (drop_all i rows h)) ∙ a.whole
