-- What every standing keeps, from any start on: the clock only rises, and misses are charged slowly.
use Rattle.std.proofs.Common.{◌≡◌, ℕ, zero, suc, ◌+◌, ◌*◌, ◌^◌, ◌<◌, ◌≤◌, length, get_or, replicate, Some, None, refl, ◌∙◌, inl, inr, le_refl, arith}
use Rattle.std.proofs.lemmas.Bool.{cases_eq}
use Rattle.std.proofs.lemmas.List.{length-set, get_or-set_same, get_or-set_other}
use Rattle.source.specs.declared.reply.Reply.{Reply}
use Rattle.source.specs.Replies.{horizon}
use Rattle.promise.specs.declared.release.Settled.{Settled}
use Rattle.promise.specs.Rules.{Rules, Laws}
use Rattle.promise.specs.Views.{Standing, own, all, base, charged, fresh, settled, SettlesAt, PassesAt}
use Rattle.promise.proofs.Sums.{part_of_sum}
use Rattle.promise.proofs.Settling.{slow, settles_within, settle_settles, settle_passes}

-- A standing that came from one with clock o, where z c was the quantum of class c doubled as often as it had misses.
pub record Sound (m : Rules) (o : ℕ) (z : ℕ → ℕ) (st : Standing) : Type 0 where
  pub size : length st.misses ≡ 8
  pub since : o ≤ st.clock
  pub within : st.clock ≤ horizon
  pub slowly : (c : ℕ) → c ≤ 7 → m.quantum c * 2 ^ own st c + o ≤ st.clock + z c

-- any standing of eight classes within the horizon may be the start
pub record Start (st : Standing) : Type 0 where
  pub size : length st.misses ≡ 8
  pub within : st.clock ≤ horizon

-- a quantum doubled as often as a class has misses
abbrev pub weight : Rules → Standing → ℕ → ℕ
weight m st c = m.quantum c * 2 ^ own st c

pub sound_start : (m : Rules) (st : Standing) → Start st → Sound m st.clock (weight m st) st
sound_start m st s = record { size = s.size; since = le_refl st.clock; within = s.within; slowly = λ c hc. omega arith }

pub start_fresh : (o : ℕ) → o ≤ horizon → Start (fresh o)
start_fresh o ho = record { size = refl; within = ho }

pub none_at : (n c : ℕ) → get_or {A = ℕ} (replicate n 0) c 0 ≡ 0
none_at zero c = refl
none_at (suc n) zero = refl
none_at (suc n) (suc c) = none_at n c

module _ {B : Type 0} where
  -- a release keeps a standing sound, and is after the clock
  pub sound_charged : (m : Rules) → Laws m → (o : ℕ) (z : ℕ → ℕ) (st : Standing) → Sound m o z st → (r : Reply B) → r.«class» ≤ 7
      → (s : Settled) → SettlesAt m st r s.misses s.tick → Sound m o z (charged st r.«class» s) × (st.clock < s.tick)
  sound_charged m laws o z st sound r hc s by =
      let c : ℕ = r.«class» in
      let b : ℕ = base st r.asked in
      let g = slow m laws c hc r.ready o (z c) b (own st c) (all st) s.misses s.tick (part_of_sum st.misses c)
      (omega (arith, sound.slowly c hc)) by in
      let lt : st.clock < s.tick = omega (arith, g.1) in
      let inside : c < length st.misses = omega (arith, sound.size) in (
        record {
          size = length-set st.misses c (own st c + s.misses) ∙ sound.size;
          since = omega (arith, sound.since);
          within = settles_within m c r.ready b (own st c) (all st) s.misses s.tick by;
          slowly = λ d hd. elim (cases_eq d c) [
            | inl e ↦ rw (e, get_or-set_same st.misses c (own st c + s.misses) 0 inside) g.0
            | inr ne ↦ rw (get_or-set_other st.misses c d (own st c + s.misses) 0 ne) (omega (arith, sound.slowly d hd))
          ];
        },
        lt,
      )

  -- what is computed for a reply obeys the rules
  pub settled_settles : (m : Rules) (st : Standing) (r : Reply B) (s : Settled) → Some s ≡ settled m st r → SettlesAt m st r s.misses s.tick
  unfolding settled
  settled_settles m st r s e = settle_settles 30 m r.«class» r.ready (base st r.asked) (own st r.«class») (all st) s e

  pub settled_passes : (m : Rules) → Laws m → (st : Standing) → st.clock ≤ horizon → (r : Reply B) → r.«class» ≤ 7 → r.asked ≤ horizon
      → None ≡ settled m st r → (k : ℕ) × PassesAt m st r k
  unfolding settled
  settled_passes m laws st hs r hc hr e =
      settle_passes 30 0 refl m laws r.«class» hc r.ready (base st r.asked) (own st r.«class») (all st)
      (part_of_sum st.misses r.«class») (omega arith) (omega arith) (omega arith) e
