-- The bits of a foot bound the release lists that could have been seen.
use Rattle.std.proofs.Common.{◌≡◌, ℕ, zero, suc, ◌+◌, ◌-◌, ◌*◌, ◌^◌, ◌<◌, ◌≤◌, Bool, true, false, ◌||◌, eqb, List, [], ◌∷◌, map, length, get_or, set, sym, refl, ap, ◌∙◌, subst, inl, inr, pow-suc, mul-zero, mul-suc, arith, pow-add}
use native.Mathlib.Nat.{pow-zero, pow-le-pow_left}
use Rattle.std.proofs.lemmas.Bool.{cases_eq, eq-eqb, ne_eqb}
use Rattle.std.proofs.lemmas.List.{length-set, get_or-set_same, get_or-set_other, get_or-replicate, length-map}
use Rattle.std.proofs.Math.Bool.{or-false}
use Rattle.source.specs.Replies.{horizon}
use Rattle.promise.specs.Leaks.{Most, most_of, share, over}
use Rattle.promise.specs.Promise.{Key, occurs}
use Rattle.promise.proofs.Mosts.{most_of_is}
use Rattle.promise.proofs.Kept.{few_keys}
use Rattle.tally.specs.declared.line.PageRow.{PageRow}
use Rattle.tally.specs.declared.account.Tally.{Tally}
use Rattle.tally.specs.Bits.{row_bits, occurs_in}
use Rattle.tally.specs.Tallies.{begun, taken, counted, tallied, foot_of, row_key, Bounds}
use Rattle.tally.proofs.Searches.{row_bits_is}

-- the rows of a tally
pub rows_counted : (t : Tally) (rs : List PageRow) → (counted t rs).rows ≡ t.rows + length rs
rows_counted t [] = omega arith
rows_counted t (r ∷ rs) = omega (arith, rows_counted (taken t r) rs)

marks_counted : (t : Tally) (rs : List PageRow) → length t.occurs ≡ 8 → (c : ℕ) → c < 8
    → occurs_in (counted t rs).occurs c ≡ occurs (map row_key rs) c || occurs_in t.occurs c
marks_counted t [] size c hc = refl
marks_counted t (r ∷ rs) size c hc =
    marks_counted (taken t r) rs (length-set t.occurs r.«class» true ∙ size) c hc
    ∙ ap (λ b. occurs (map row_key rs) c || b) here ∙ turned (eqb c r.«class») (occurs (map row_key rs) c) (occurs_in t.occurs c)
  where
    turned : (a b d : Bool) → (b || (a || d)) ≡ ((a || b) || d)
    turned true true d = refl
    turned true false d = refl
    turned false true d = refl
    turned false false d = refl

    here : occurs_in (set t.occurs r.«class» true) c ≡ eqb c r.«class» || occurs_in t.occurs c
    here =
        elim (cases_eq c r.«class») [
          | inl e ↦ ap (λ i. get_or (set t.occurs r.«class» true) i false) e ∙ get_or-set_same t.occurs r.«class» true false (omega (arith, e))
              ∙ sym (ap (λ b. b || occurs_in t.occurs c) (eq-eqb c r.«class» e))
          | inr ne ↦ get_or-set_other t.occurs r.«class» c true false ne ∙ sym (ap (λ b. b || occurs_in t.occurs c) (ne_eqb c r.«class» ne))
        ]

-- a class is marked where it occurs
marks_tallied : (o : ℕ) (rs : List PageRow) (c : ℕ) → c < 8 → occurs_in (tallied o rs).occurs c ≡ occurs (map row_key rs) c
marks_tallied o rs c hc =
    marks_counted (begun o) rs refl c hc ∙ ap (λ b. occurs (map row_key rs) c || b) (get_or-replicate 8 c false false hc)
    ∙ or-false (occurs (map row_key rs) c)

-- a sum over the classes that occur asks no more than which of them do
over_same : (n : ℕ) (f g : ℕ → ℕ) (a b : ℕ → Bool) → ((c : ℕ) → c < n → f c ≡ g c) → ((c : ℕ) → c < n → a c ≡ b c) → over n f a ≡ over n g b
over_same zero f g a b hf hb = refl
over_same (suc n) f g a b hf hb =
    let e : over n f a ≡ over n g b = over_same n f g a b (λ c h. hf c (omega arith)) (λ c h. hb c (omega arith)) in
    let d : share (f n) (a n) ≡ share (g n) (b n) = ap (λ x. share x (a n)) (hf n (omega arith)) ∙ ap (share (g n)) (hb n (omega arith)) in
    omega (arith, e, d)

pow_pow : (b e : ℕ) → (2 ^ b) ^ e ≡ 2 ^ (b * e)
pow_pow b zero = pow-zero (2 ^ b) ∙ sym (ap (λ n. 2 ^ n) (mul-zero b))
pow_pow b (suc e) =
    pow-suc (2 ^ b) e ∙ ap (λ n. n * 2 ^ b) (pow_pow b e) ∙ sym (pow-add 2 (b * e) b) ∙ sym (ap (λ n. 2 ^ n) (mul-suc b e))

-- the tally of some rows bounds what could have been seen over them
pub bounds : (quanta : ℕ → ℕ) (t : Tally) → t.rows ≤ 50000 → t.opening ≤ t.clock → t.clock ≤ horizon → ((c : ℕ) → c ≤ 7 → 1 ≤ quanta c)
    → (rs : List PageRow) → t ≡ tallied t.opening rs → Bounds quanta t.opening rs t.clock (foot_of quanta t).bits
bounds quanta t few since timely low rs is m laws same lists seen different =
    let o : ℕ = t.opening in
    let span : ℕ = t.clock - o in
    let keys : List Key = map row_key rs in
    let b : ℕ = row_bits t.rows in
    let n : ℕ → ℕ = λ c. most_of (quanta c) span in
    let e : ℕ = 1 + over 8 n (occurs keys) in
    let most : (c : ℕ) → c ≤ 7 → Most (m.quantum c) span (n c)
    = λ c hc. subst (λ q. Most q span (n c)) (sym (same c hc)) (most_of_is (quanta c) span (low c hc) (omega arith)) in
    let a : length lists ≤ (length keys + 1) ^ e = few_keys m laws o t.clock (omega arith) since keys n most lists seen different in
    let size : length keys ≡ t.rows = length-map rs row_key ∙ sym (ap (λ (x : Tally). x.rows) is ∙ rows_counted (begun o) rs ∙ omega arith) in
    let wide : (length keys + 1) ^ e ≤ (2 ^ b) ^ e = pow-le-pow_left (omega (arith, size, (row_bits_is t.rows few).enough)) e in
    let marks : over 8 n (occurs_in t.occurs) ≡ over 8 n (occurs keys)
    = over_same 8 n n (occurs_in t.occurs) (occurs keys) (λ c _. refl) (λ c hc. ap (λ (x : Tally). occurs_in x.occurs c) is ∙ marks_tallied o rs c hc) in
    let f : (foot_of quanta t).bits ≡ b * e = ap (λ x. b * (1 + x)) marks in
    let g : 2 ^ (foot_of quanta t).bits ≡ (2 ^ b) ^ e = ap (λ x. 2 ^ x) f ∙ sym (pow_pow b e) in
    omega (arith, a, wide, g)
