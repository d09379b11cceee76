-- Whole files, sizes included, for every kind of row: what was shown reads back, what reads well was shown so, and what
-- each refusal means.
use Rattle.std.proofs.Common.{◌≡◌, ℕ, ◌*◌, ◌<◌, ◌≤◌, List, length, Some, None, Ok, Err, Option, Result, sym, refl, ap, ◌∙◌, subst, arith}
use Rattle.std.specs.List.{flat_map}
use Rattle.rows.specs.declared.fault.Numbered.{Numbered}
use Rattle.rows.specs.declared.fault.RowFault.{RowFault}
use Rattle.text.specs.declared.fault.FileFault.{FileFault}
use Rattle.text.specs.declared.fault.FileFault.TheVariants.{Row, Size}
use Rattle.text.specs.Files.{Reading, row_count, ending, read_rows, answer_of, left_of, file_answer, file_read}
use Rattle.text.proofs.Sizes.{count_back, count_only, count_refused, count_never}
use Rattle.text.proofs.FileReading.{rows_not_size}
use Rattle.text.proofs.FileLaws.{Kind, put_all, FitAll, Stopped, file_back, file_only, file_stops, length_file}

ending_ok : (n m : ℕ) (o : Option (Numbered RowFault)) → ending n o ≡ Ok m → (o ≡ None) × (n ≡ m)
ending_ok n m None e = (refl, cc)
ending_ok n m (Some f) e = let z : ◌≡◌ {A = ℕ} 0 1 = cc in absurd (omega arith)

ending_err : (n : ℕ) (f : Numbered RowFault) (o : Option (Numbered RowFault)) → ending n o ≡ Err (Row f) → o ≡ Some f
ending_err n f None e = let z : ◌≡◌ {A = ℕ} 0 1 = cc in absurd (omega arith)
ending_err n f (Some g) e = let same : g ≡ f = cc in ap Some same

module _ {S A : Type 0} (step : S → List ℕ → Result S RowFault) (width : ℕ) (kind : Kind S A step width) (some : 0 < width) (start : S) (most : ℕ) (old : S) where
  -- what is shown reads back
  pub whole_back : (xs : List A) → FitAll step width kind start xs → length xs ≤ most
      → (file_answer step width start (flat_map kind.show xs) most ≡ Ok (length xs)) × (file_read step width start (flat_map kind.show xs) most old ≡ put_all step width kind start xs)
  whole_back xs f few =
      let bytes = flat_map kind.show xs in
      let c = count_back width most (length bytes) (length xs) some (length_file step width kind start xs f) few in
      let b = file_back step width kind 1 start xs f in (
        ap (answer_of step width start bytes) c ∙ ap (λ (x : Reading S). ending (length xs) x.fault) b,
        ap (left_of step width start bytes old) c ∙ ap (λ (x : Reading S). x.left) b,
      )

  module _ (bytes : List ℕ) where
    -- what reads well is shown so
    pub record Whole (m : ℕ) : Type 0 where
      pub items : List A
      pub long : length items ≡ m
      pub few : m ≤ most
      pub shows : bytes ≡ flat_map kind.show items
      pub left : file_read step width start bytes most old ≡ put_all step width kind start items
      pub fits : FitAll step width kind start items

    pub whole_only : (m : ℕ) → file_answer step width start bytes most ≡ Ok m → Whole m
    whole_only m e = go (row_count width most (length bytes)) refl e
      where
        go : (c : Result ℕ FileFault) → row_count width most (length bytes) ≡ c → answer_of step width start bytes c ≡ Ok m → Whole m
        go (Err f) is a = let z : ◌≡◌ {A = ℕ} 0 1 = cc in absurd (omega arith)
        go (Ok n) is a =
            let reading = read_rows step width n bytes 1 start in
            let o = ending_ok n m reading.fault a in
            let r : reading ≡ record { left = reading.left; fault = None } = ap (λ x. record { left = reading.left; fault = x }) o.0 in
            let c = count_only width most (length bytes) n is in
            let w = file_only step width kind n bytes 1 start reading.left c.0 r in
            record { items = w.0; long = w.1 ∙ o.1; few = omega (arith, c.1, o.1); shows = w.2; left = ap (left_of step width start bytes old) is ∙ w.3; fits = w.4 }

    -- a size that is refused is that of no number of rows within the limit
    pub whole_size : file_answer step width start bytes most ≡ Err Size → (n : ℕ) → n ≤ most → length bytes ≡ width * n → ⊥
    whole_size e = go (row_count width most (length bytes)) refl e
      where
        go : (c : Result ℕ FileFault) → row_count width most (length bytes) ≡ c → answer_of step width start bytes c ≡ Err Size
            → (n : ℕ) → n ≤ most → length bytes ≡ width * n → ⊥
        go (Err g) is a = λ n few l. count_never width most (length bytes) g some is n l few
        go (Ok n) is a = absurd (rows_not_size n (read_rows step width n bytes 1 start).fault (Err Size) (sym a) refl)

    -- a row that is refused comes after rows that are shown and taken
    pub whole_stops : (f : Numbered RowFault) → file_answer step width start bytes most ≡ Err (Row f)
        → Stopped step width kind bytes 1 start (file_read step width start bytes most old) f
    whole_stops f e = go (row_count width most (length bytes)) refl e
      where
        go : (c : Result ℕ FileFault) → row_count width most (length bytes) ≡ c → answer_of step width start bytes c ≡ Err (Row f)
            → Stopped step width kind bytes 1 start (file_read step width start bytes most old) f
        go (Err g) is a =
            let size : g ≡ Size = count_refused width most (length bytes) g is in
            let z : ◌≡◌ {A = ℕ} 0 1 = cc in absurd (omega arith)
        go (Ok n) is a =
            let reading = read_rows step width n bytes 1 start in
            let r : reading ≡ record { left = reading.left; fault = Some f } = ap (λ x. record { left = reading.left; fault = x }) (ending_err n f reading.fault a) in
            subst (λ t. Stopped step width kind bytes 1 start t f) (sym (ap (left_of step width start bytes old) is)) (file_stops step width kind n bytes 1 start reading.left f r)
