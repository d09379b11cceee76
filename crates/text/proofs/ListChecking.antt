-- Judging a list before it is written: the turns of the check, and what a list that passed it has.
use Rattle.std.proofs.Common.{◌≡◌, ℕ, zero, suc, ◌+◌, ◌<◌, ◌≤◌, true, false, leb, List, [], ◌∷◌, ◌++◌, length, get_or, Some, None, Ok, Err, Option, sym, refl, ap, ◌∙◌, inl, inr, arith}
use Rattle.std.proofs.lemmas.Bool.{leb-true, cases_Bool}
use Rattle.source.specs.declared.reply.Reply.{Reply}
use Rattle.source.specs.Replies.{follows}
use Rattle.source.specs.Beginnings.{follows_so}
use Rattle.rows.specs.declared.fault.Numbered.{Numbered}
use Rattle.rows.specs.declared.fault.RowFault.{RowFault}
use Rattle.rows.specs.declared.fault.RowFault.TheVariants.{Order}
use Rattle.text.specs.declared.fault.FileFault.TheVariants.{Size}
use Rattle.rows.specs.Columns.{list_row}
use Rattle.rows.specs.Rows.{fits}
use Rattle.text.specs.Lists.{numbers_of, last_asked}
use Rattle.text.specs.ListWriting.{unlawful, judged_by, check_answer}
use Rattle.rows.proofs.Fitting.{fits_within}
use Rattle.text.proofs.ListReading.{last_push}
use Rattle.text.proofs.ListFiles.{ListFits}

abbrev pub blank : Reply ℕ
blank = record { asked = 0; «class» = 0; ready = 0; body = 0 }

passes : (k last : ℕ) (r : Reply ℕ) (rs : List (Reply ℕ)) → follows last r ≡ true → unlawful k last (r ∷ rs) ≡ unlawful (k + 1) r.asked rs
passes k last r rs e = rw (e, unlawful)

fails : (k last : ℕ) (r : Reply ℕ) (rs : List (Reply ℕ)) → follows last r ≡ false → unlawful k last (r ∷ rs) ≡ Some (record { number = k; fault = Order })
fails k last r rs e = rw (e, unlawful)

-- a list that passed
pub checked : (rs : List (Reply ℕ)) (u : Unit {0}) → Ok u ≡ check_answer rs → (length rs ≤ 50000) × (unlawful 1 0 rs ≡ None)
checked rs u e =
    elim (cases_Bool (leb (length rs) 50000)) [
      | inl t ↦ let c : check_answer rs ≡ judged_by (unlawful 1 0 rs) = rw (t, check_answer) in (leb-true (length rs) 50000 t, none (unlawful 1 0 rs) (e ∙ c))
      | inr t ↦ let c : check_answer rs ≡ Err Size = rw (t, check_answer) in let z : ◌≡◌ {A = ℕ} 0 1 = cc in absurd (omega arith)
    ]
  where
    none : (o : Option (Numbered RowFault)) → Ok u ≡ judged_by o → o ≡ None
    none None h = refl
    none (Some f) h = let z : ◌≡◌ {A = ℕ} 0 1 = cc in absurd (omega arith)

head_passed : (k last : ℕ) (r : Reply ℕ) (rs : List (Reply ℕ)) → unlawful k last (r ∷ rs) ≡ None → (follows last r ≡ true) × (unlawful (k + 1) r.asked rs ≡ None)
head_passed k last r rs e =
    elim (cases_Bool (follows last r)) [
      | inl t ↦ (t, sym (passes k last r rs t) ∙ e)
      | inr t ↦ let f = fails k last r rs t in let z : ◌≡◌ {A = ℕ} 0 1 = cc in absurd (omega arith)
    ]

-- each of its replies is in range
pub each : (rs : List (Reply ℕ)) (k last i : ℕ) → unlawful k last rs ≡ None → i < length rs
    → ((get_or rs i blank).asked ≤ 1000000000) × ((get_or rs i blank).«class» ≤ 7) × ((get_or rs i blank).ready ≤ 1000000000)
each [] k last i e h = absurd (omega arith)
each (r ∷ rs) k last zero e h = let f = follows_so last r (head_passed k last r rs e).0 in (omega (arith, f.waits, f.within), f.known, f.within)
each (r ∷ rs) k last (suc i) e h = each rs (k + 1) r.asked i (head_passed k last r rs e).1 (omega arith)

-- and where each has a row of its own, they are a list that may be read
pub list_fits : (before rs : List (Reply ℕ)) (k : ℕ) → unlawful k (last_asked 0 before) rs ≡ None
    → ((i : ℕ) → i < length rs → fits list_row (numbers_of (get_or rs i blank)) ≡ true) → ListFits before rs
list_fits before [] k e w = tt
list_fits before (r ∷ rs) k e w =
    let p = head_passed k (last_asked 0 before) r rs e in (
      (p.0, fits_within list_row (numbers_of r) (w 0 (omega arith))),
      list_fits (before ++ r ∷ []) rs (k + 1) (ap (λ a. unlawful (k + 1) a rs) (last_push 0 before r) ∙ p.1) (λ i h. w (suc i) (omega arith)),
    )
