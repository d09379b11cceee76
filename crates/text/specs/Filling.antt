-- A law of filling a buffer, for kinds of row that do. Nothing is assumed.
--   fill_room   a row takes the room of one row at most
use Rattle.std.proofs.Common.{◌≡◌, ℕ, ◌+◌, ◌≤◌, List, [], ◌∷◌, ◌++◌, length, drop, Ok, Err, Result, ap, arith, length-append, length-drop}
use Rattle.rows.specs.declared.fault.RowFault.{RowFault}
use Rattle.text.specs.Files.{Filled, put_in, fill, spare}

pub fill_room : {P A : Type 0} (item : P → List A → List ℕ → Result A RowFault) (s t : Filled P A) (row : List ℕ) → fill item s row ≡ Ok t
    → spare s ≤ spare t + 1
fill_room {P} {A} item s t row e = by_item (item s.kept s.front row) e
  where
    by_item : (x : Result A RowFault) → put_in s x ≡ Ok t → spare s ≤ spare t + 1
    by_item (Ok a) h =
        let same : record { kept = s.kept; front = s.front ++ a ∷ []; rest = drop 1 s.rest } ≡ t = cc in
        omega (arith, ap (λ (x : Filled P A). length x.rest) same, ap (λ (x : Filled P A). length x.front) same, length-drop 1 s.rest, length-append s.front (a ∷ []))
    by_item (Err f) h = let z : ◌≡◌ {A = ℕ} 0 1 = cc in absurd (omega arith)
