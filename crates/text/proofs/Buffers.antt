-- Rows read into a buffer: each item takes its place, and the buffer ends as the items read over what it held.
use Rattle.std.proofs.Common.{◌≡◌, ℕ, zero, suc, ◌+◌, ◌<◌, ◌≤◌, List, [], ◌∷◌, ◌++◌, length, take, drop, set, Ok, Err, Result, sym, refl, ap, ◌∙◌, subst, arith, length-append}
use Rattle.std.proofs.lemmas.List.{drop-drop}
use Rattle.std.specs.Borrow.{MutBor}
use Rattle.rows.specs.declared.fault.RowFault.{RowFault}
use Rattle.text.specs.declared.fault.FileFault.{FileFault}
use Rattle.text.specs.Files.{Reading, ending, on_row, read_rows, RowsRead, Filled, put_in, fill, spare, Holds}
use Rattle.text.specs.Lists.{over}

module _ {A : Type 0} where
  set_next : (front rest : List A) (a : A) → 0 < length rest → set (front ++ rest) (length front) a ≡ (front ++ a ∷ []) ++ drop 1 rest
  set_next [] [] a some = absurd (omega arith)
  set_next [] (x ∷ rest) a some = refl
  set_next (x ∷ front) rest a some = ap (λ t. x ∷ t) (set_next front rest a some)

  module _ {P : Type 0} where
    -- the item of a row, in the place of the first that is left
    abbrev pub with_item : Filled P A → A → Filled P A
    with_item s a = record { kept = s.kept; front = s.front ++ a ∷ []; rest = drop 1 s.rest }

    pub item_placed : (s : Filled P A) (name : ℕ) (a : A) (out : MutBor (List A)) (count : ℕ) → Holds s name out count → count < length out.now
        → (set out.now count a ≡ (with_item s a).front ++ (with_item s a).rest) × (count + 1 ≡ length (with_item s a).front)
    item_placed s name a out count held room =
        let long = ap length held.0 ∙ length-append s.front s.rest in
        (rw (held.0, held.2) (set_next s.front s.rest a (omega (arith, held.2))), omega (arith, held.2, length-append s.front (a ∷ [])))

    -- there is a place for the next item
    pub item_fits : (s : Filled P A) (name : ℕ) (out : MutBor (List A)) (count : ℕ) → Holds s name out count → 1 ≤ spare s
        → (count < length out.now) × (length s.front < 50000)
    item_fits s name out count held room =
        let long = ap length held.0 ∙ length-append s.front s.rest in
        (omega (arith, held.2), omega arith)

    -- reading into a buffer is reading into a list, over what the buffer held
    module _ (kept : P) (item : P → List A → List ℕ → Result A RowFault) (step : List A → List ℕ → Result (List A) RowFault)
        (takes : (rs : List A) (row : List ℕ) (a : A) → item kept rs row ≡ Ok a → step rs row ≡ Ok (rs ++ a ∷ []))
        (refuses : (rs : List A) (row : List ℕ) (f : RowFault) → item kept rs row ≡ Err f → step rs row ≡ Err f) (width : ℕ) (old : List A) where
      abbrev holding : List A → List A → Filled P A
      holding front rest = record { kept = kept; front = front; rest = rest }

      abbrev over_old : Reading (List A) → Reading (Filled P A)
      over_old r = record { left = holding r.left (drop (length r.left) old); fault = r.fault }

      filled_read : (n : ℕ) (bytes : List ℕ) (k : ℕ) (front : List A)
          → read_rows (fill item) width n bytes k (holding front (drop (length front) old)) ≡ over_old (read_rows step width n bytes k front)
      filled_read zero bytes k front = refl
      filled_read (suc n) bytes k front = at_item (item kept front (take width bytes)) refl (λ t. filled_read n (drop width bytes) (k + 1) t)
        where
          at_item : (x : Result A RowFault) → item kept front (take width bytes) ≡ x
              → ((t : List A) → read_rows (fill item) width n (drop width bytes) (k + 1) (holding t (drop (length t) old)) ≡ over_old (read_rows step width n (drop width bytes) (k + 1) t))
              → read_rows (fill item) width (suc n) bytes k (holding front (drop (length front) old)) ≡ over_old (read_rows step width (suc n) bytes k front)
          at_item (Ok a) is later =
              let s = holding front (drop (length front) old) in
              let more : drop 1 (drop (length front) old) ≡ drop (length (front ++ a ∷ [])) old =
              drop-drop 1 (length front) old ∙ ap (λ m. drop m old) (sym (length-append front (a ∷ []))) in
              ap (λ x. on_row k s (put_in s x) (λ t. read_rows (fill item) width n (drop width bytes) (k + 1) t)) is
              ∙ (ap (λ r. read_rows (fill item) width n (drop width bytes) (k + 1) (holding (front ++ a ∷ []) r)) more
              ∙ (later (front ++ a ∷ [])
              ∙ sym (ap (λ x. over_old (on_row k front x (λ t. read_rows step width n (drop width bytes) (k + 1) t))) (takes front (take width bytes) a is))))
          at_item (Err f) is later =
              let s = holding front (drop (length front) old) in
              ap (λ x. on_row k s (put_in s x) (λ t. read_rows (fill item) width n (drop width bytes) (k + 1) t)) is
              ∙ sym (ap (λ x. over_old (on_row k front x (λ t. read_rows step width n (drop width bytes) (k + 1) t))) (refuses front (take width bytes) f is))

      -- a whole reading
      pub record BufferRead (n : ℕ) (bytes : List ℕ) (name : P → ℕ) (r : Result ℕ FileFault) (out : MutBor (List A)) (count : ℕ) (Q : Filled P A → Type 0) : Type 0 where
        pub value : r ≡ ending n (read_rows step width n bytes 1 []).fault
        pub after : out.now ≡ over (read_rows step width n bytes 1 []).left old
        pub same : out.ghost_name ≡ name kept
        pub many : count ≡ length (read_rows step width n bytes 1 []).left
        pub left : Q (holding (read_rows step width n bytes 1 []).left (drop (length (read_rows step width n bytes 1 []).left) old))

      pub buffer_read : (n : ℕ) (bytes : List ℕ) (name : P → ℕ) (r : Result ℕ FileFault) (out : MutBor (List A)) (count : ℕ) (Q : Filled P A → Type 0)
          → RowsRead (fill item) width n bytes (holding [] old) (λ t. Holds t (name t.kept) out count × Q t) r → BufferRead n bytes name r out count Q
      buffer_read n bytes name r out count Q read =
          let f = filled_read n bytes 1 [] in
          let held = subst (λ (x : Reading (Filled P A)). Holds x.left (name x.left.kept) out count × Q x.left) f read.1 in
          record { value = read.0 ∙ ap (λ (x : Reading (Filled P A)). ending n x.fault) f; after = held.0.0; same = held.0.1; many = held.0.2; left = held.1 }
