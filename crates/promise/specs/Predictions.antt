-- How a gate predicts. Nothing is assumed.
--   predict   one prediction: the base and the wait that the misses call for
--   Settles   after so many missed predictions a reply is released at a tick
--   Passes    after so many missed predictions the next one passes the horizon
--   settle    the same, computed
use Rattle.std.specs.Prelude.{◌≡◌, ℕ, zero, suc, ◌+◌, ◌<◌, ◌≤◌, Bool, true, false, Some, None, Option, nat_le}
use Rattle.source.specs.Replies.{horizon}
use Rattle.promise.specs.Rules.{Rules}
use Rattle.promise.specs.declared.release.Settled.{Settled}

-- of class c, from a base, with so many own and all misses
abbrev pub predict : Rules → ℕ → ℕ → ℕ → ℕ → ℕ
predict m c base own all = base + m.wait c (m.epoch own all)

-- a prediction as it is answered
abbrev pub Predicted : ℕ → Option ℕ → Type 0
Predicted p (Some t) = (t ≡ p) × (p ≤ horizon)
Predicted p None = horizon < p

-- After k missed predictions the reply is released at t. Each miss adds one to the misses of the class and to all
-- misses, and the missed prediction is the new base.
abbrev pub Settles : Rules → ℕ → ℕ → ℕ → ℕ → ℕ → ℕ → ℕ → Type 0
Settles m c ready base own all zero t = (t ≡ predict m c base own all) × (ready ≤ t) × (t ≤ horizon)
Settles m c ready base own all (suc k) t =
    (predict m c base own all < ready) × (predict m c base own all ≤ horizon)
    × Settles m c ready (predict m c base own all) (suc own) (suc all) k t

-- After k missed predictions the next one passes the horizon.
abbrev pub Passes : Rules → ℕ → ℕ → ℕ → ℕ → ℕ → ℕ → Type 0
Passes m c ready base own all zero = horizon < predict m c base own all
Passes m c ready base own all (suc k) =
    (predict m c base own all < ready) × (predict m c base own all ≤ horizon)
    × Passes m c ready (predict m c base own all) (suc own) (suc all) k

-- what a reply comes to, as it is answered
abbrev pub Comes : Rules → ℕ → ℕ → ℕ → ℕ → ℕ → Option Settled → Type 0
Comes m c ready base own all (Some s) = Settles m c ready base own all s.misses s.tick
Comes m c ready base own all None = (k : ℕ) × Passes m c ready base own all k

-- one miss more before the same tick
abbrev pub missed : Option Settled → Option Settled
missed (Some s) = Some (record { tick = s.tick; misses = suc s.misses })
missed None = None

-- a prediction p judged by whether it is within the horizon and not before the ready tick; `later` follows a miss
abbrev pub judged : Bool → Bool → ℕ → Option Settled → Option Settled
judged false timely p later = None
judged true true p later = Some (record { tick = p; misses = 0 })
judged true false p later = missed later

-- at most so many predictions
abbrev pub settle : ℕ → Rules → ℕ → ℕ → ℕ → ℕ → ℕ → Option Settled
settle zero m c ready base own all = None
settle (suc rounds) m c ready base own all =
    judged (nat_le (predict m c base own all) horizon) (nat_le ready (predict m c base own all)) (predict m c base own all)
    (settle rounds m c ready (predict m c base own all) (suc own) (suc all))
