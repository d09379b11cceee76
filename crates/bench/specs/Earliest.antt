-- The server free earliest, the lowest-numbered on a tie.
use Rattle.std.specs.Prelude.{◌≡◌, ℕ, zero, suc, ◌+◌, ◌<◌, ◌≤◌, true, false, List, [], ◌∷◌, length, get_or, nat_le, slice_index, slice_index_or, refl, take}
use Rattle.std.proofs.Common.{inl, inr, arith, subst}
use Rattle.std.proofs.lemmas.List.{get_or_default, get_or_past, length-take-le, get_or-take}
use Rattle.std.proofs.lemmas.Bool.{cases_Bool, cases_lt, cases_order, leb-true, leb-false}
use Rattle.bench.specs.declared.Servers.{Servers}
use Rattle.bench.specs.Benches.{free_of, earliest}

-- s is the first of the earliest among the first n servers
pub record FirstUpTo (free : List ℕ) (n s : ℕ) : Type 0 where
  pub known : s < n
  pub least : (k : ℕ) → k < n → slice_index free s ≤ slice_index free k
  pub lowest : (k : ℕ) → k < s → slice_index free s < slice_index free k

module _ (free : List ℕ) where
  pub first_one : FirstUpTo free 1 0
  first_one = record { known = omega arith; least = λ k h. let z : k ≡ 0 = omega arith in rw z (omega arith); lowest = λ k h. absurd (omega arith) }

  module _ (n s : ℕ) (f : FirstUpTo free n s) where
    pub first_stays : get_or free s 0 ≤ slice_index free n → FirstUpTo free (n + 1) s
    first_stays h =
        record {
          known = omega (arith, f.known);
          least = λ k l. elim (cases_lt k n) [ inl m ↦ f.least k m | inr m ↦ let z : k ≡ n = omega arith in rw z h ];
          lowest = f.lowest;
        }

    pub first_moves : get_or free n 0 < slice_index free s → FirstUpTo free (n + 1) n
    first_moves h =
        record {
          known = omega arith;
          least = λ k l. elim (cases_lt k n) [ inl m ↦ omega (arith, f.least k m) | inr m ↦ let z : k ≡ n = omega arith in rw z (omega arith) ];
          lowest = λ k l. omega (arith, f.least k l);
        }

  -- the best of the first n servers, which is none where n is 0
  pub record Best (n s : ℕ) : Type 0 where
    pub below : s ≤ n
    pub first : 0 < n → FirstUpTo free n s

  -- a search that has only begun stands at the first server
  best_begun : (n s : ℕ) → Best n s → n ≡ 0 → FirstUpTo free (n + 1) s
  best_begun n s b e = let none : s ≡ 0 = omega (arith, b.below) in rw (e, none) first_one

  module _ (n s : ℕ) (b : Best n s) where
    pub best_stays : get_or free s 0 ≤ slice_index free n → Best (n + 1) s
    best_stays h =
        record {
          below = omega (arith, b.below);
          first = λ _. elim (cases_lt 0 n) [ inl some ↦ first_stays n s (b.first some) h | inr none ↦ best_begun n s b (omega arith) ];
        }

    pub best_moves : get_or free n 0 < slice_index free s → Best (n + 1) n
    best_moves h =
        record {
          below = omega arith;
          first = λ _. elim (cases_lt 0 n) [ inl some ↦ first_moves n s (b.first some) h | inr none ↦ best_begun n n (record { below = omega arith; first = λ z. absurd (omega arith) }) (omega arith) ];
        }

  pub first_unique : (n a b : ℕ) → FirstUpTo free n a → FirstUpTo free n b → a ≡ b
  first_unique n a b f g =
      elim (cases_order a b) [
        | inl e ↦ e
        | inr (inl l) ↦ absurd (omega (arith, f.least b g.known, g.lowest a l))
        | inr (inr l) ↦ absurd (omega (arith, g.least a f.known, f.lowest b l))
      ]

-- only the first n places are looked at
pub first_among : (free : List ℕ) (n s : ℕ) → FirstUpTo free n s → FirstUpTo (take n free) n s
first_among free n s f =
    record {
      known = f.known;
      least = λ k l. let a = get_or-take n free s 0 f.known in let b = get_or-take n free k 0 l in omega (arith, f.least k l);
      lowest = λ k l. let m : k < n = omega (arith, f.known) in let a = get_or-take n free s 0 f.known in let b = get_or-take n free k 0 m in omega (arith, f.lowest k l);
    }

earliest_zero : (t : ℕ) (ts : List ℕ) → nat_le t (slice_index_or ts (earliest ts) t) ≡ true → earliest (t ∷ ts) ≡ 0
earliest_zero t ts e = rw (e, earliest) refl

earliest_later : (t : ℕ) (ts : List ℕ) → nat_le t (slice_index_or ts (earliest ts) t) ≡ false → earliest (t ∷ ts) ≡ suc (earliest ts)
earliest_later t ts e = rw (e, earliest) refl

-- one server more in front of some, or of none
module _ (t : ℕ) (ts : List ℕ) (f : 0 < length ts → FirstUpTo ts (length ts) (earliest ts)) where
  front_first : t ≤ slice_index_or ts (earliest ts) t → FirstUpTo (t ∷ ts) (length (t ∷ ts)) 0
  front_first low = record { known = omega arith; least = least; lowest = λ k l. absurd (omega arith) }
    where
      least : (k : ℕ) → k < length (t ∷ ts) → t ≤ slice_index (t ∷ ts) k
      least zero l = omega arith
      least (suc k) l =
          let first = f (omega arith) in
          let same = get_or_default ts (earliest ts) t 0 first.known in
          omega (arith, first.least k (omega arith))

  back_first : get_or ts (earliest ts) t < t → FirstUpTo (t ∷ ts) (length (t ∷ ts)) (suc (earliest ts))
  back_first high = record { known = omega (arith, first.known); least = least; lowest = lowest }
    where
      some : 0 < length ts
      some = elim (cases_lt 0 (length ts)) [ inl l ↦ l | inr l ↦ absurd (omega (arith, get_or_past ts (earliest ts) t (omega arith))) ]

      first : FirstUpTo ts (length ts) (earliest ts)
      first = f some

      below : get_or ts (earliest ts) 0 < t
      below = omega (arith, get_or_default ts (earliest ts) t 0 first.known)

      least : (k : ℕ) → k < length (t ∷ ts) → slice_index ts (earliest ts) ≤ slice_index (t ∷ ts) k
      least zero l = omega (arith, below)
      least (suc k) l = first.least k (omega arith)

      lowest : (k : ℕ) → k < suc (earliest ts) → slice_index ts (earliest ts) < slice_index (t ∷ ts) k
      lowest zero l = below
      lowest (suc k) l = first.lowest k (omega arith)

  earliest_step : FirstUpTo (t ∷ ts) (length (t ∷ ts)) (earliest (t ∷ ts))
  earliest_step =
      elim (cases_Bool (nat_le t (slice_index_or ts (earliest ts) t))) [
        | inl e ↦ rw (earliest_zero t ts e) (front_first (leb-true t (slice_index_or ts (earliest ts) t) e))
        | inr e ↦ rw (earliest_later t ts e) (back_first (leb-false t (slice_index_or ts (earliest ts) t) e))
      ]

pub earliest_first : (ts : List ℕ) → 0 < length ts → FirstUpTo ts (length ts) (earliest ts)
earliest_first [] some = absurd (omega arith)
earliest_first (t ∷ ts) some = earliest_step t ts (earliest_first ts)

-- what a search through all of them finds
pub found_best : (free : List ℕ) (s : ℕ) → 0 < length free → Best free (length free) s → s ≡ earliest free
found_best free s some b = first_unique free (length free) s (earliest free) (b.first some) (earliest_first free some)

-- as many ticks as servers
pub free_count : (s : Servers) → length s.free ≡ 4 → length (free_of s) ≡ s.number.count
free_count s four = length-take-le s.number.count s.free (omega (arith, s.number.few))

-- what a search through the first n of at least n places finds
pub found_earliest : (free : List ℕ) (n s : ℕ) → 1 ≤ n → n ≤ length free → FirstUpTo free n s → s ≡ earliest (take n free)
found_earliest free n s some enough f =
    let long = length-take-le n free enough in
    first_unique (take n free) n s (earliest (take n free)) (first_among free n s f)
    (subst (λ m. FirstUpTo (take n free) m (earliest (take n free))) long (earliest_first (take n free) (omega arith)))
