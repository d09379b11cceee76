-- Files of rows: what reading one row after another leaves, for every kind of row. Nothing is assumed.
--   step          what one row does to a state: the state after it, or the row's fault
--   row_count     how many rows a file has; the size is judged before any row
--   Reading       the state that reading leaves, and the fault that it stopped at, if any
--   read_rows     rows from the top, up to the first that is refused
--   file_answer   the number of rows, or the first fault
--   file_read     the state after the rows before the first fault; a file of a wrong size changes nothing
--   RowTaken      one row taken: its answer, and what is so of the state that it leaves
--   RowsRead      the same of a number of rows
--   fill          the step of rows whose items are read into a buffer, and what a buffer then holds
use Rattle.std.specs.Prelude.{◌≡◌, ℕ, zero, suc, ◌+◌, ◌-◌, ◌/◌, ◌%◌, min, true, false, ◌&&◌, List, [], ◌∷◌, ◌++◌, length, take, drop, Some, None, Ok, Err, Option, Result, ◌==◌, nat_le}
use Rattle.std.specs.Borrow.{MutBor}
use Rattle.rows.specs.declared.fault.Numbered.{Numbered}
use Rattle.rows.specs.declared.fault.RowFault.{RowFault}
use Rattle.text.specs.declared.fault.FileFault.{FileFault}
use Rattle.text.specs.declared.fault.FileFault.TheVariants.{Row, Size}

-- `size` bytes in rows of `width`, and at most `most` of them
abbrev pub row_count : ℕ → ℕ → ℕ → Result ℕ FileFault
row_count width most size = elim (size % width == 0 && nat_le (size / width) most) [ true ↦ Ok (size / width) | false ↦ Err Size ]

pub record Reading (S : Type 0) : Type 0 where
  pub left : S
  pub fault : Option (Numbered RowFault)

-- the answer of a reading of n rows
abbrev pub ending : ℕ → Option (Numbered RowFault) → Result ℕ FileFault
ending n None = Ok n
ending n (Some f) = Err (Row f)

module _ {S : Type 0} where
  -- row k, and then what is read after it
  abbrev pub on_row : ℕ → S → Result S RowFault → (S → Reading S) → Reading S
  on_row k s (Ok t) next = next t
  on_row k s (Err f) next = record { left = s; fault = Some (record { number = k; fault = f }) }

  module _ (step : S → List ℕ → Result S RowFault) where
    -- P of the state that a row leaves
    abbrev pub RowTaken : S → List ℕ → (S → Type 0) → Result (Unit {0}) RowFault → Type 0
    RowTaken s row P (Ok u) = (t : S) × (step s row ≡ Ok t) × P t
    RowTaken s row P (Err f) = (step s row ≡ Err f) × P s

    module _ (width : ℕ) where
      -- n rows from the front of the bytes, of which the first is row k
      abbrev pub read_rows : ℕ → List ℕ → ℕ → S → Reading S
      read_rows zero bytes k s = record { left = s; fault = None }
      read_rows (suc n) bytes k s = on_row k s (step s (take width bytes)) (λ t. read_rows n (drop width bytes) (k + 1) t)

      -- the answer of a reading of n rows, and P of the state that it leaves
      abbrev pub RowsRead : ℕ → List ℕ → S → (S → Type 0) → Result ℕ FileFault → Type 0
      RowsRead n bytes s P r = (r ≡ ending n (read_rows n bytes 1 s).fault) × P (read_rows n bytes 1 s).left

      module _ (start : S) (bytes : List ℕ) where
        abbrev pub answer_of : Result ℕ FileFault → Result ℕ FileFault
        answer_of (Ok n) = ending n (read_rows n bytes 1 start).fault
        answer_of (Err f) = Err f

        abbrev pub left_of : S → Result ℕ FileFault → S
        left_of old (Ok n) = (read_rows n bytes 1 start).left
        left_of old (Err f) = old

        abbrev pub file_answer : ℕ → Result ℕ FileFault
        file_answer most = answer_of (row_count width most (length bytes))

        abbrev pub file_read : ℕ → S → S
        file_read most old = left_of old (row_count width most (length bytes))

-- a buffer of items: those read, and what is left of what it held; with what stays the same
pub record Filled (P A : Type 0) : Type 0 where
  pub kept : P
  pub front : List A
  pub rest : List A

module _ {P A : Type 0} where
  -- an item that was read takes the place of the first that is left
  abbrev pub put_in : Filled P A → Result A RowFault → Result (Filled P A) RowFault
  put_in s (Ok a) = Ok (record { kept = s.kept; front = s.front ++ a ∷ []; rest = drop 1 s.rest })
  put_in s (Err f) = Err f

  -- by what a row is read as after the items before it
  abbrev pub fill : (P → List A → List ℕ → Result A RowFault) → Filled P A → List ℕ → Result (Filled P A) RowFault
  fill item s row = put_in s (item s.kept s.front row)

  -- the rows that there is room for; no file has more than 50,000
  abbrev pub spare : Filled P A → ℕ
  spare s = min (length s.rest) (50000 - length s.front)

  -- the buffer lent under a name holds that, and so many items were read
  abbrev pub Holds : Filled P A → ℕ → MutBor (List A) → ℕ → Type 0
  Holds s name out count = (out.now ≡ s.front ++ s.rest) × (out.ghost_name ≡ name) × (count ≡ length s.front)
