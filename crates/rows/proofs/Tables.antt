-- Tables of columns: one computed test says that a table is sound, and the numbers of a row are what stands at its
-- places, one after another.
use Rattle.std.proofs.Common.{◌≡◌, ℕ, zero, suc, ◌+◌, ◌^◌, ◌≤◌, Bool, true, ◌&&◌, ltb, leb, List, [], ◌∷◌, length, get_or, take, drop, sym, refl, ap, ◌∙◌, arith}
use Rattle.std.proofs.lemmas.List.{drop_more, take_all}
use Rattle.std.proofs.lemmas.Bool.{leb-true, ltb-true, and_parts}
use Rattle.rows.specs.Columns.{Shape}
use Rattle.rows.specs.Rows.{Within}
use Rattle.rows.proofs.Fitting.{Sound, AllSound}

abbrev soundly : Shape → Bool
soundly s = leb 1 s.width && (leb s.width 19 && ltb s.limit (10 ^ s.width))

abbrev pub all_soundly : List Shape → Bool
all_soundly [] = true
all_soundly (s ∷ ss) = soundly s && all_soundly ss

sound_by_test : (s : Shape) → soundly s ≡ true → Sound s
sound_by_test s e =
    let p = and_parts (leb 1 s.width) _ e in
    let q = and_parts (leb s.width 19) (ltb s.limit (10 ^ s.width)) p.1 in
    record {
      some = leb-true 1 s.width p.0;
      narrow = leb-true s.width 19 q.0;
      holds = ltb-true s.limit (10 ^ s.width) q.1;
    }

-- a table that passes the test is sound; at a table that is written out the test is computed
pub sound_table : (ss : List Shape) → all_soundly ss ≡ true → AllSound ss
sound_table [] e = tt
sound_table (s ∷ ss) e = let p = and_parts (soundly s) (all_soundly ss) e in (sound_by_test s p.0, sound_table ss p.1)

-- what stands at n places from `at` on
abbrev pub placed : ℕ → ℕ → List ℕ → List ℕ
placed at zero vs = []
placed at (suc n) vs = get_or vs at 0 ∷ placed (at + 1) n vs

placed_part : (n at : ℕ) (vs : List ℕ) → at + n ≤ length vs → placed at n vs ≡ take n (drop at vs)
placed_part zero at vs h = refl
placed_part (suc n) at vs h =
    let d : drop at vs ≡ get_or vs at 0 ∷ drop (at + 1) vs = drop_more vs at 0 (omega arith) in
    ap (λ x. get_or vs at 0 ∷ x) (placed_part n (at + 1) vs (omega arith)) ∙ sym (ap (take (suc n)) d)

within_length : (ss : List Shape) (vs : List ℕ) → Within ss vs → length vs ≡ length ss
within_length [] [] w = refl
within_length [] (v ∷ vs) w = absurd w
within_length (s ∷ ss) [] w = absurd w
within_length (s ∷ ss) (v ∷ vs) w = ap suc (within_length ss vs w.1)

-- the numbers of a row are those at its places
pub row_placed : (ss : List Shape) (vs : List ℕ) → Within ss vs → vs ≡ placed 0 (length ss) vs
row_placed ss vs w =
    let n = within_length ss vs w in
    sym (placed_part (length ss) 0 vs (omega arith) ∙ take_all (length ss) vs (omega arith))
