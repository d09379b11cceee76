-- A bucket: ready ticks raised to multiples of a width. Nothing is assumed.
--   LeastMultiple   what a raised tick is: a multiple of the width, not below the tick, and less than a width above it
--   raise           the tick so raised
--   raised          the replies with raised ready ticks, up to the first that passes the horizon
--   raised_mark     how they end: horizon where one passes it, else as the replies below do
use Rattle.std.specs.Prelude.{◌≡◌, ℕ, ◌+◌, ◌-◌, ◌*◌, ◌/◌, ◌<◌, ◌≤◌, true, false, List, [], ◌∷◌, Ok, Err, Result, nat_le}
use Rattle.source.specs.declared.reply.Reply.{Reply}
use Rattle.source.specs.declared.reply.End.{End}
use Rattle.source.specs.declared.reply.End.TheVariants.{Horizon}
use Rattle.source.specs.Replies.{horizon}

pub record LeastMultiple (width tick up : ℕ) : Type 0 where
  pub multiple : (k : ℕ) × (up ≡ k * width)
  pub not_below : tick ≤ up
  pub near : up < tick + width

abbrev pub raise : ℕ → ℕ → ℕ
raise width tick = (tick + (width - 1)) / width * width

-- the raised tick, or the mark where it passes the horizon
abbrev pub raise_answer : ℕ → ℕ → Result ℕ End
raise_answer width tick = elim (nat_le (raise width tick) horizon) [ true ↦ Ok (raise width tick) | false ↦ Err Horizon ]

module _ {B : Type 0} where
  abbrev pub raised_reply : ℕ → Reply B → Reply B
  raised_reply width r = record { asked = r.asked; «class» = r.«class»; ready = raise width r.ready; body = r.body }

  abbrev pub raised : ℕ → List (Reply B) → List (Reply B)
  raised width [] = []
  raised width (r ∷ rs) = elim (nat_le (raise width r.ready) horizon) [ true ↦ raised_reply width r ∷ raised width rs | false ↦ [] ]

  abbrev pub raised_mark : ℕ → List (Reply B) → End → End
  raised_mark width [] e = e
  raised_mark width (r ∷ rs) e = elim (nat_le (raise width r.ready) horizon) [ true ↦ raised_mark width rs e | false ↦ Horizon ]
