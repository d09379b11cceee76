-- Raised ticks: the least multiple of a width not below a tick, and the replies of a bucket.
use Rattle.std.specs.Prelude.{◌≡◌, ℕ, ◌+◌, ◌-◌, ◌*◌, ◌/◌, ◌%◌, ◌<◌, ◌≤◌, List, [], ◌∷◌, Ok, Err, nat_le, refl}
use Rattle.std.proofs.Common.{ap, inl, inr, div-add-mod', mod-lt, arith}
use Rattle.std.proofs.Math.Nat.{add-mul, mul-le-mul_right}
use Rattle.std.proofs.lemmas.Bool.{cases_Bool, cases_lt, leb-true, le-leb, lt-leb}
use Rattle.source.specs.declared.reply.Reply.{Reply}
use Rattle.source.specs.declared.reply.End.TheVariants.{Horizon}
use Rattle.source.specs.Replies.{LawfulFrom}
use Rattle.source.specs.Buckets.{LeastMultiple, raise, raise_answer, raised}

pub least_multiple : (w t : ℕ) → 1 ≤ w → LeastMultiple w t (raise w t)
least_multiple w t h =
    let n = t + (w - 1) in
    let split : n / w * w + n % w ≡ n = div-add-mod' n w in
    let small : n % w < w = mod-lt n h in
    record { multiple = (n / w, refl); not_below = omega arith; near = omega arith }

-- of two such multiples neither is the lower
not_lower : (w t a b : ℕ) → LeastMultiple w t a → LeastMultiple w t b → b ≤ a
not_lower w t a b p q =
    let k = p.multiple.0 in
    let n = q.multiple.0 in
    elim (cases_lt k n) [
      | inl lt ↦
          let more : k + 1 ≤ n = omega arith in
          let up : (k + 1) * w ≤ n * w = mul-le-mul_right w more in
          absurd (omega (arith, add-mul k 1 w, up, p.multiple.1, q.multiple.1, p.not_below, q.near))
      | inr ge ↦ rw (p.multiple.1, q.multiple.1) (mul-le-mul_right w ge)
    ]

-- the multiple is one number only
pub only_multiple : (w t a b : ℕ) → LeastMultiple w t a → LeastMultiple w t b → a ≡ b
only_multiple w t a b p q = omega (arith, not_lower w t a b p q, not_lower w t b a q p)

-- so the library's next multiple is the raised tick
pub next_multiple : (w t up : ℕ) → 1 ≤ w → t ≤ up → up < t + w → up % w ≡ 0 → up ≡ raise w t
next_multiple w t up h low near even =
    let split : up / w * w + up % w ≡ up = div-add-mod' up w in
    only_multiple w t up (raise w t) (record { multiple = (up / w, omega arith); not_below = low; near = near }) (least_multiple w t h)

-- the answer for a tick, by whether its multiple passes the horizon
module _ (w t up : ℕ) (is : up ≡ raise w t) where
  pub raised_in_time : up ≤ 1000000000 → Ok up ≡ raise_answer w t
  raised_in_time le = rw (le-leb (raise w t) 1000000000 (omega (arith, is)), raise_answer) (ap Ok is)

  pub raised_late : 1000000000 < up → Err Horizon ≡ raise_answer w t
  raised_late gt = rw (lt-leb (raise w t) 1000000000 (omega (arith, is)), raise_answer) refl

module _ {B : Type 0} (w : ℕ) (some : 1 ≤ w) where
  pub raised_lawful : (last : ℕ) (rs : List (Reply B)) → LawfulFrom last rs → LawfulFrom last (raised w rs)
  raised_lawful last [] l = tt
  raised_lawful last (r ∷ rs) l =
      elim (cases_Bool (nat_le (raise w r.ready) 1000000000)) [
        | inl e ↦
            let up = least_multiple w r.ready some in
            let within = leb-true (raise w r.ready) 1000000000 e in
            rw (e, raised) (record { rises = l.0.rises; waits = omega (arith, up.not_below, l.0.waits); within = within; known = l.0.known }, raised_lawful r.asked rs l.1)
        | inr e ↦ rw (e, raised) tt
      ]
