-- Sound ladders: their waits keep the laws of a pace, and one more step that is taken keeps them sound.
use Rattle.std.specs.Prelude.{◌≡◌, ℕ, zero, suc, ◌*◌, ◌^◌, ◌<◌, ◌≤◌, List, [], ◌∷◌, map, length, slice_index, slice_index_or}
use Rattle.std.proofs.Common.{sym, arith}
use Rattle.std.proofs.lemmas.List.{length-take-le, get_or-take, get_or-map}
use Rattle.pace.specs.declared.ladder.ClassSteps.{ClassSteps}
use Rattle.pace.specs.Steps.{ladder_of, ladder}

pub record Sound (ps : List ℕ) : Type 0 where
  pub few : length ps ≤ 16
  pub low : 0 < length ps → 1 ≤ slice_index ps 0
  pub high : 0 < length ps → slice_index ps 0 ≤ 1000000
  pub rising : (i : ℕ) → i < length ps → slice_index ps 0 * 2 ^ i ≤ slice_index ps i
  pub within : (i : ℕ) → i < length ps → slice_index ps i ≤ 1000000000

-- the steps as the class keeps them
module _ (s : ClassSteps) where
  pub ladder_length : length (ladder_of s) ≡ s.count
  ladder_length = length-take-le s.count s.waits (omega (arith, s.table, s.few))

  pub ladder_at : (i : ℕ) → i < s.count → slice_index (ladder_of s) i ≡ slice_index s.waits i
  ladder_at i h = get_or-take s.count s.waits i 0 h

  pub ladder_sound : Sound (ladder_of s)
  ladder_sound =
      let n = ladder_length in
      record {
        few = omega (arith, s.few);
        low = λ h. let k : 0 < s.count = omega arith in rw (ladder_at 0 k) (s.low k);
        high = λ h. let k : 0 < s.count = omega arith in rw (ladder_at 0 k) (s.high k);
        rising = λ i h. let k : i < s.count = omega arith in let z : 0 < s.count = omega arith in rw (ladder_at 0 z, ladder_at i k) (s.rising i k);
        within = λ i h. let k : i < s.count = omega arith in rw (ladder_at i k) (s.within i k);
      }

pub none_sound : Sound []
none_sound = record { few = omega arith; low = λ h. absurd (omega arith); high = λ h. absurd (omega arith); rising = λ i h. absurd (omega arith); within = λ i h. absurd (omega arith) }

pub ladders_sound : (cs : List ClassSteps) (c : ℕ) → Sound (ladder (map ladder_of cs) c)
ladders_sound [] c = none_sound
ladders_sound (s ∷ cs) zero = ladder_sound s
ladders_sound (s ∷ cs) (suc c) = ladders_sound cs c

pub ladder_of_is : (cs : List ClassSteps) (c : ℕ) (d : ClassSteps) → c < length cs → ladder_of (slice_index_or cs c d) ≡ ladder (map ladder_of cs) c
ladder_of_is cs c d h = sym (get_or-map ladder_of cs c d [] h)
