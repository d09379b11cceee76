-- Writing a row field by field: the turns of the writer's loop.
use Rattle.std.proofs.Common.{◌≡◌, ℕ, suc, ◌+◌, ◌-◌, ◌≤◌, true, leb, ◌⊎◌, List, [], ◌∷◌, ◌++◌, length, take, drop, set, replicate, decimal, sym, ap, ◌∙◌, inl, inr, append_assoc, arith, length-append, length-drop}
use borrow.Rule.Slice.PartMut.{put_mid}
use lib.ListN.{length-replicate}
use Rattle.std.proofs.lemmas.List.{take_at, drop_at, drop-drop, drop_all, set_split, length-take-le}
use Rattle.std.proofs.lemmas.Bool.{leb-true, and_parts}
use Rattle.rows.specs.declared.column.Column.{Column}
use Rattle.rows.specs.Fields.{shown}
use Rattle.rows.specs.Columns.{shape, shapes, widths}
use Rattle.rows.specs.Rows.{fields_shown, row_shown, fits}
use Rattle.rows.proofs.Fitting.{column_sound, digits_fit}

pub length_shown : (w v : ℕ) → length (decimal v) ≤ w → length (shown w v) ≡ w
length_shown w v h =
    length-append (replicate (w - length (decimal v)) 32) (decimal v)
    ∙ (ap (λ n. n + length (decimal v)) (length-replicate (w - length (decimal v)) 32) ∙ (let k : w - length (decimal v) + length (decimal v) ≡ w = omega arith in k))

-- a part written after a front that is known
pub grow : (x x₀ p s : List ℕ) (n m : ℕ) → x ≡ p ++ drop n x₀ → length p ≡ n → n ≤ m → take n x ++ (s ++ drop m x) ≡ (p ++ s) ++ drop m x₀
grow x x₀ p s n m e l h =
    let t : take n x ≡ p = ap (take n) e ∙ take_at p (drop n x₀) n l in
    let k : n + (m - n) ≡ m = omega arith in
    let past : drop (m - n) (drop n x) ≡ drop (m - n) (drop n x₀) = ap (λ y. drop (m - n) (drop n y)) e ∙ ap (drop (m - n)) (drop_at p (drop n x₀) n l) in
    let d : drop m x ≡ drop m x₀ = sym (drop-drop (m - n) n x ∙ ap (λ i. drop i x) k) ∙ (past ∙ (drop-drop (m - n) n x₀ ∙ ap (λ i. drop i x₀) k)) in
    ap (λ y. y ++ (s ++ drop m x)) t ∙ (ap (λ y. p ++ (s ++ y)) d ∙ sym (append_assoc p s (drop m x₀)))

-- a part of `n` bytes written at `at`
pub part_written : (buf s : List ℕ) (at n : ℕ) → put_mid at (at + n - at) buf s ≡ take at buf ++ (s ++ drop (at + n) buf)
part_written buf s at n =
    let k : at + n - at ≡ n = omega arith in
    ap (λ t. take at buf ++ (s ++ t)) (ap (λ m. drop m (drop at buf)) k ∙ drop-drop n at buf)

pub part_length : (buf : List ℕ) (at n : ℕ) → at + n ≤ length buf → length (take (at + n - at) (drop at buf)) ≡ n
part_length buf at n h = length-take-le (at + n - at) (drop at buf) (simp length-drop (omega arith)) ∙ (let k : at + n - at ≡ n = omega arith in k)

-- the loop with the columns and numbers that are left: what stands before `at`, with their row after it, is the whole row
pub record RowLeft (cs : List Column) (vs whole out : List ℕ) (at : ℕ) : Type 0 where
  pub is : take at out ++ row_shown (shapes cs) vs ≡ whole
  pub room : at + widths (shapes cs) + 1 ≡ length out
  pub within : fits (shapes cs) vs ≡ true

-- the next field: it has room for the digits of its number, and it is written
pub record FieldLeft (c : Column) (cs : List Column) (v : ℕ) (vs whole out : List ℕ) (at : ℕ) : Type 0 where
  pub room : at + c.width ≤ length out
  pub long : length (take (at + c.width - at) (drop at out)) ≡ c.width
  pub digits : length (decimal v) ≤ c.width
  pub then : (part : List ℕ) → part ≡ shown c.width v → RowLeft cs vs whole (put_mid at (at + c.width - at) out part) (at + c.width)

pub field_left : (ds cs : List Column) (ws vs whole out : List ℕ) (at : ℕ) (c : Column) (v : ℕ) → RowLeft ds ws whole out at → ds ≡ c ∷ cs → ws ≡ v ∷ vs
    → FieldLeft c cs v vs whole out at
field_left ds cs ws vs whole out at c v st e f =
    let left : RowLeft (c ∷ cs) (v ∷ vs) whole out at = rw (← e, ← f) st in
    let w = c.width in
    let p = and_parts (leb v c.limit) (fits (shapes cs) vs) left.within in
    let room : at + w ≤ length out = omega (arith, left.room) in
    let digits = digits_fit (shape w c.limit) (column_sound c) v (leb-true v c.limit p.0) in
    record {
      room = room;
      long = part_length out at w room;
      digits = digits;
      then = λ part is.
          let new : put_mid at (at + w - at) out part ≡ take at out ++ (shown w v ++ drop (at + w) out) = part_written out part at w ∙ ap (λ t. take at out ++ (t ++ drop (at + w) out)) is in
          let front : length (take at out ++ shown w v) ≡ at + w = length-append (take at out) (shown w v) ∙ omega (arith, length-take-le at out (omega arith), length_shown w v digits) in
          record {
            is = ap (λ t. take (at + w) t ++ row_shown (shapes cs) vs) (new ∙ sym (append_assoc (take at out) (shown w v) (drop (at + w) out)))
                ∙ (ap (λ t. t ++ row_shown (shapes cs) vs) (take_at (take at out ++ shown w v) (drop (at + w) out) (at + w) front)
                ∙ (append_assoc (take at out) (shown w v) (row_shown (shapes cs) vs)
                ∙ (ap (λ t. take at out ++ t) (sym (append_assoc (shown w v) (fields_shown (shapes cs) vs) (10 ∷ []))) ∙ left.is)));
            room = omega (arith, left.room, ap length new, length-append (take at out) (shown w v ++ drop (at + w) out), length-append (shown w v) (drop (at + w) out), length-append (take at out) (shown w v), front, length-drop (at + w) out);
            within = p.1;
          };
    }

-- no field is left: the newline ends the row
pub row_ends : (cs : List Column) (vs whole out : List ℕ) (at : ℕ) → RowLeft cs vs whole out at → (length cs ≡ 0) ⊎ (length vs ≡ 0) → set out at 10 ≡ whole
row_ends (c ∷ cs) (v ∷ vs) whole out at st (inl e) = absurd (omega arith)
row_ends (c ∷ cs) (v ∷ vs) whole out at st (inr e) = absurd (omega arith)
row_ends [] (v ∷ vs) whole out at st e = let w = st.within in let z : ◌≡◌ {A = ℕ} 0 1 = cc in absurd (omega arith)
row_ends (c ∷ cs) [] whole out at st e = let w = st.within in let z : ◌≡◌ {A = ℕ} 0 1 = cc in absurd (omega arith)
row_ends [] [] whole out at st e =
    set_split out at 10 (omega (arith, st.room)) ∙ (ap (λ t. take at out ++ 10 ∷ t) (drop_all (suc at) out (omega (arith, st.room))) ∙ st.is)
