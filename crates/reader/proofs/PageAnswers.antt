-- What the answer about a page means.
use Rattle.std.proofs.Common.{◌≡◌, ℕ, ◌+◌, ◌-◌, ◌*◌, ◌/◌, ◌%◌, ◌≤◌, min, Bool, true, false, ◌&&◌, eqb, leb, List, [], ◌++◌, length, take, drop, Some, None, Ok, Err, Option, Result, sym, refl, ap, ◌∙◌, subst, inl, inr, arith, length-append}
use Rattle.std.proofs.lemmas.List.{take-append-drop, drop_at}
use Rattle.std.proofs.lemmas.Bool.{cases_Bool, le-leb, leb-true}
use Rattle.rows.specs.declared.fault.Numbered.{Numbered}
use Rattle.rows.specs.declared.fault.RowFault.{RowFault}
use Rattle.rows.specs.Columns.{foot_row}
use Rattle.rows.specs.Rows.{Within}
use Rattle.text.specs.declared.fault.FileFault.{FileFault}
use Rattle.text.specs.declared.fault.FileFault.TheVariants.{Size}
use Rattle.text.specs.Files.{Reading, row_count}
use Rattle.text.proofs.Sizes.{count_back, count_only}
use Rattle.tally.specs.declared.line.PageRow.{PageRow}
use Rattle.tally.specs.Tallies.{begun, tallied, foot_of}
use Rattle.page.specs.Pages.{foot_bytes}
use Rattle.reader.specs.PageFiles.{rows_shown, page_shown, Fits, foot_read, foot_ending, rows_ending, page_count, reading, answer_of, read_of, page_answer, page_read, PageExact}
use Rattle.reader.proofs.FootLaws.{foot_numbers, foot_only, foot_back, length_foot}
use Rattle.reader.proofs.WholePages.{RowsRead, rows_only, rows_stop, rows_back, rows_length, reading_is}

-- a page of n rows has their bytes and those of a foot
pub size_back : (room size n : ℕ) → size ≡ 36 * n + 36 → n ≤ 50000 → n ≤ room → page_count room size ≡ Ok n
size_back room size n e few fits =
    let t : leb 36 size ≡ true = le-leb 36 size (omega arith) in
    let c : row_count 36 (min 50000 room) (size - 36) ≡ Ok n = count_back 36 (min 50000 room) (size - 36) n (omega arith) (omega arith) (omega arith) in
    rw (t, page_count) c

never : {a : ℕ} {f : FileFault} → ◌≡◌ {A = Result ℕ FileFault} (Err f) (Ok a) → ⊥
never p = let z : ◌≡◌ {A = ℕ} 0 1 = cc in omega arith

pub size_only : (room size n : ℕ) → page_count room size ≡ Ok n → (size ≡ 36 * n + 36) × (n ≤ 50000) × (n ≤ room)
size_only room size n e =
    elim (cases_Bool (leb 36 size)) [
      | inl t ↦
          (let o : page_count room size ≡ row_count 36 (min 50000 room) (size - 36) = rw (t, page_count) refl in
          let c = count_only 36 (min 50000 room) (size - 36) n (sym o ∙ e) in
          let le : 36 ≤ size = leb-true 36 size t in
          (omega (arith, c.0), omega (arith, c.1), omega (arith, c.1)))
      | inr t ↦ (let o : page_count room size ≡ Err Size = rw (t, page_count) refl in absurd (never (sym o ∙ e)))
    ]

-- a size is refused as a size
size_refused : (room size : ℕ) (f : FileFault) → page_count room size ≡ Err f → f ≡ Size
size_refused room size f e = go (leb 36 size) (eqb ((size - 36) % 36) 0 && leb ((size - 36) / 36) (min 50000 room)) e
  where
    same : {g h : FileFault} → ◌≡◌ {A = Result ℕ FileFault} (Err g) (Err h) → g ≡ h
    same p = cc

    unlike : {a : ℕ} {g : FileFault} → ◌≡◌ {A = Result ℕ FileFault} (Ok a) (Err g) → ⊥
    unlike p = let z : ◌≡◌ {A = ℕ} 0 1 = cc in omega arith

    go : (b d : Bool) → ◌≡◌ {A = Result ℕ FileFault} (elim b [ true ↦ elim d [ true ↦ Ok ((size - 36) / 36) | false ↦ Err Size ] | false ↦ Err Size ]) (Err f) → f ≡ Size
    go false d h = sym (same h)
    go true false h = sym (same h)
    go true true h = absurd (unlike h)

module _ (quanta : ℕ → ℕ) (opening : ℕ) (bytes : List ℕ) (room : ℕ) where
  foot_exact : (n : ℕ) (rs : List PageRow) → length bytes ≡ 36 * n + 36 → RowsRead opening n bytes rs
      → (x : Result (Unit {0}) RowFault) → foot_read (foot_of quanta (tallied opening rs)) (drop (36 * n) bytes) ≡ x
      → PageExact quanta opening bytes room rs (foot_ending n x)
  foot_exact n rs size read (Ok u) e = (
    read.count,
    sym (take-append-drop (36 * n) bytes)
        ∙ (ap (λ x. x ++ drop (36 * n) bytes) read.shown ∙ ap (λ x. rows_shown 1 rs ++ x) (foot_only (foot_of quanta (tallied opening rs)) (drop (36 * n) bytes) e)),
    read.fits,
  )
  foot_exact n rs size read (Err f) e =
      (omega (arith, read.count), ap (λ k. take (36 * k) bytes) read.count ∙ read.shown, read.fits)

  rows_exact : (n : ℕ) → length bytes ≡ 36 * n + 36 → (o : Option (Numbered RowFault)) → (reading opening bytes n).fault ≡ o
      → PageExact quanta opening bytes room (reading opening bytes n).left (rows_ending quanta opening bytes n (reading opening bytes n).left o)
  rows_exact n size None e =
      let rs : List PageRow = (reading opening bytes n).left in
      foot_exact n rs size (rows_only opening n bytes rs (omega arith) (reading_is (reading opening bytes n) e))
      (foot_read (foot_of quanta (tallied opening rs)) (drop (36 * n) bytes)) refl
  rows_exact n size (Some f) e =
      let rs : List PageRow = (reading opening bytes n).left in
      rows_stop opening n bytes rs f (λ i. record { left = rs; fault = e i })

  sized : (c : Result ℕ FileFault) → page_count room (length bytes) ≡ c
      → PageExact quanta opening bytes room (read_of opening bytes c) (answer_of quanta opening bytes c)
  sized (Ok n) e =
      rows_exact n (size_only room (length bytes) n e).0 (reading opening bytes n).fault refl
  sized (Err f) e =
      subst (λ g. PageExact quanta opening bytes room [] (Err g)) (sym (size_refused room (length bytes) f e))
      (λ n few fits size. never (sym e ∙ size_back room (length bytes) n size few fits))

  pub page_exact : (r : Result ℕ FileFault) → r ≡ page_answer quanta opening bytes room → PageExact quanta opening bytes room (page_read opening bytes room) r
  page_exact r e = subst (PageExact quanta opening bytes room (page_read opening bytes room)) (sym e) (sized (page_count room (length bytes)) refl)

-- what is shown reads back
pub page_back : (quanta : ℕ → ℕ) (opening room : ℕ) (rs : List PageRow) → length rs ≤ 50000 → length rs ≤ room → Fits (begun opening) rs
    → Within foot_row (foot_numbers (foot_of quanta (tallied opening rs)))
    → (page_answer quanta opening (page_shown quanta opening rs) room ≡ Ok (length rs)) × (page_read opening (page_shown quanta opening rs) room ≡ rs)
page_back quanta opening room rs few fits fit within =
    let foot : List ℕ = foot_bytes (foot_of quanta (tallied opening rs)) in
    let bytes : List ℕ = page_shown quanta opening rs in
    let long : length (rows_shown 1 rs) ≡ 36 * length rs = rows_length opening rs few fit in
    let size : length bytes ≡ 36 * length rs + 36 = length-append (rows_shown 1 rs) foot ∙ omega (arith, long, length_foot (foot_of quanta (tallied opening rs)) within) in
    let c : page_count room (length bytes) ≡ Ok (length rs) = size_back room (length bytes) (length rs) size few fits in
    let r : reading opening bytes (length rs) ≡ record { left = rs; fault = None } = rows_back opening rs foot few fit in
    let rest : drop (36 * length rs) bytes ≡ foot = drop_at (rows_shown 1 rs) foot (36 * length rs) long in (
      ap (answer_of quanta opening bytes) c
          ∙ ap (λ (x : Reading (List PageRow)). rows_ending quanta opening bytes (length rs) x.left x.fault) r
          ∙ ap (λ x. foot_ending (length rs) (foot_read (foot_of quanta (tallied opening rs)) x)) rest
          ∙ ap (foot_ending (length rs)) (foot_back (foot_of quanta (tallied opening rs)) within),
      ap (read_of opening bytes) c ∙ ap (λ (x : Reading (List PageRow)). x.left) r,
    )
