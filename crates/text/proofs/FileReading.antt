-- Reading a file row by row, for every kind of row: the turns of a reader's loop, and the answer at its end.
use Rattle.std.proofs.Common.{◌≡◌, ℕ, suc, ◌+◌, ◌-◌, ◌*◌, ◌<◌, ◌≤◌, List, ◌++◌, length, take, drop, Some, None, Ok, Err, Option, Result, sym, refl, ap, ◌∙◌, mul-suc, arith}
use Rattle.std.proofs.Math.Nat.{lt_of_mul-lt-mul_left}
use Rattle.std.proofs.lemmas.List.{take_at, drop_at}
use Rattle.rows.specs.declared.fault.Numbered.{Numbered}
use Rattle.rows.specs.declared.fault.RowFault.{RowFault}
use Rattle.text.specs.declared.fault.FileFault.{FileFault}
use Rattle.text.specs.declared.fault.FileFault.TheVariants.{Row, Size}
use Rattle.text.specs.Files.{row_count, ending, on_row, RowTaken, read_rows, RowsRead, answer_of, left_of, file_answer, file_read}

module _ {S K : Type 0} (step : S → List ℕ → Result S RowFault) (room : S → ℕ) (stands : S → K → Type 0) (width rows : ℕ) (bytes : List ℕ) where
  -- after i rows: a state that stands there, from which what is left gives what the whole file gives
  pub record Reached (start : S) (i : ℕ) (rest : List ℕ) (kind : K) : Type 0 where
    pub state : S
    pub stood : stands state kind
    pub left : read_rows step width (rows - i) rest (i + 1) state ≡ read_rows step width rows bytes 1 start
    pub spare : room start ≤ room state + i

  module _ (start : S) (i : ℕ) (row rest rest' : List ℕ) (kind kind' : K) (h : i < rows) (size : length row ≡ width) (cut : rest ≡ row ++ rest')
      (st : Reached start i rest kind) where
    unrolled : read_rows step width rows bytes 1 start
        ≡ on_row (i + 1) st.state (step st.state row) (λ t. read_rows step width (rows - (i + 1)) rest' (i + 1 + 1) t)
    unrolled =
        let n : rows - i ≡ suc (rows - (i + 1)) = omega arith in
        let t : take width (row ++ rest') ≡ row = take_at row rest' width size in
        let d : drop width (row ++ rest') ≡ rest' = drop_at row rest' width size in
        sym st.left ∙ rw (n, cut, t, d)

    pub reached_more : (law : (s t : S) (row : List ℕ) → step s row ≡ Ok t → room s ≤ room t + 1) (r : Result (Unit {0}) RowFault) (u : Unit {0}) → r ≡ Ok u
        → ((s : S) → stands s kind → RowTaken step s row (λ t. stands t kind') r) → Reached start (i + 1) rest' kind'
    reached_more law (Err f) u e added = let z : ◌≡◌ {A = ℕ} 0 1 = cc in absurd (omega arith)
    reached_more law (Ok v) u e added =
        let a = added st.state st.stood in
        record {
          state = a.0;
          stood = a.2;
          left = sym (unrolled ∙ ap (λ x. on_row (i + 1) st.state x (λ t. read_rows step width (rows - (i + 1)) rest' (i + 1 + 1) t)) a.1);
          spare = omega (arith, st.spare, law st.state a.0 row a.1);
        }

    pub reached_stops : (r : Result (Unit {0}) RowFault) (f : RowFault) → r ≡ Err f → ((s : S) → stands s kind → RowTaken step s row (λ t. stands t kind') r)
        → RowsRead step width rows bytes start (λ t. stands t kind') (Err (Row (record { number = i + 1; fault = f })))
    reached_stops (Ok v) f e added = let z : ◌≡◌ {A = ℕ} 0 1 = cc in absurd (omega arith)
    reached_stops (Err g) f e added =
        let a = added st.state st.stood in
        let same : g ≡ f = cc in
        let is : read_rows step width rows bytes 1 start ≡ record { left = st.state; fault = Some (record { number = i + 1; fault = f }) } =
        unrolled ∙ ap (λ x. on_row (i + 1) st.state x (λ t. read_rows step width (rows - (i + 1)) rest' (i + 1 + 1) t)) (a.0 ∙ ap Err same) in
        rw is (refl, a.1)

  pub reached_all : (start : S) (i : ℕ) (rest : List ℕ) (kind : K) → rows ≤ i → Reached start i rest kind
      → RowsRead step width rows bytes start (λ t. stands t kind) (Ok rows)
  reached_all start i rest kind h st =
      let n : rows - i ≡ 0 = omega arith in
      let is : read_rows step width rows bytes 1 start ≡ record { left = st.state; fault = None } =
      sym st.left ∙ ap (λ m. read_rows step width m rest (i + 1) st.state) n in
      rw is (refl, st.stood)

-- whether a row is left, by the bytes that are left
pub row_is_left : (width rows i left : ℕ) → width * i + left ≡ width * rows → width ≤ left → 1 ≤ width → i < rows
row_is_left width rows i left e h some = lt_of_mul-lt-mul_left width (omega arith)

pub no_row_is_left : (width rows i left : ℕ) → width * i + left ≡ width * rows → left < width → rows ≤ i
no_row_is_left width rows i left e h =
    let m : width * suc i ≡ width * i + width = mul-suc width i ∙ omega arith in
    omega (arith, lt_of_mul-lt-mul_left width {m = rows} {n = suc i} (omega arith))

module _ {S : Type 0} (step : S → List ℕ → Result S RowFault) (width : ℕ) (start : S) (bytes : List ℕ) (rows : ℕ) where
  -- from a reading of the rows to the promise of the file
  module _ (most : ℕ) (old : S) (size : Ok rows ≡ row_count width most (length bytes)) where
    pub file_answer_is : ending rows (read_rows step width rows bytes 1 start).fault ≡ file_answer step width start bytes most
    file_answer_is = ap (answer_of step width start bytes) size

    pub file_left : (read_rows step width rows bytes 1 start).left ≡ file_read step width start bytes most old
    file_left = ap (left_of step width start bytes old) size

-- the answer of the rows is never the refusal of the size
pub rows_not_size : (n : ℕ) (o : Option (Numbered RowFault)) (r : Result ℕ FileFault) → r ≡ ending n o → r ≡ Err Size → ⊥
rows_not_size n None r e k = let z : ◌≡◌ {A = ℕ} 0 1 = cc in omega arith
rows_not_size n (Some f) r e k = let z : ◌≡◌ {A = ℕ} 0 1 = cc in omega arith
