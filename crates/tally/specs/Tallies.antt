-- The tally of a page: which rows it takes, and the foot that they give. Nothing is assumed.
--   begun        the tally of a page without rows; `taken`, with one row more; `tallied`, with all rows of a list
--   row_answer   whether a page takes a row: its class, then its order and range, then the room
--   foot_of      the foot
--   Bounds       the release lists that could have been seen over some rows number at most 2 to some bits
use Rattle.std.specs.Prelude.{◌≡◌, ℕ, ◌+◌, ◌-◌, ◌*◌, ◌^◌, ◌≤◌, Bool, true, false, ◌&&◌, List, [], ◌∷◌, map, length, replicate, Ok, Err, Result, nat_le, nat_lt, slice_set}
use Rattle.promise.specs.Rules.{Rules, Laws}
use Rattle.promise.specs.Leaks.{exponent}
use Rattle.promise.specs.Promise.{Key, Seen, All, Different}
use Rattle.tally.specs.declared.line.PageRow.{PageRow}
use Rattle.tally.specs.declared.line.Foot.{Foot}
use Rattle.tally.specs.declared.line.PageFault.{PageFault}
use Rattle.tally.specs.declared.line.PageFault.TheVariants.{Class, Order, Room}
use Rattle.tally.specs.declared.account.Tally.{Tally}
use Rattle.tally.specs.Bits.{row_bits, occurs_in, count}

abbrev pub begun : ℕ → Tally
begun opening = record { opening = opening; rows = 0; clock = opening; misses = 0; occurs = replicate 8 false }

abbrev pub taken : Tally → PageRow → Tally
taken t r =
    record {
      opening = t.opening;
      rows = t.rows + 1;
      clock = r.release;
      misses = t.misses + r.misses;
      occurs = slice_set t.occurs r.«class» true;
    }

-- asked not after the release, the release after the last one and within the horizon, at most 29 misses, and at most
-- 9,999 on the page
abbrev pub orderly : Tally → PageRow → Bool
orderly t r =
    nat_le r.asked r.release && (nat_lt t.clock r.release && (nat_le r.release 1000000000
    && (nat_le r.misses 29 && nat_le (t.misses + r.misses) 9999)))

-- room for the row and a foot
abbrev pub roomy : Tally → ℕ → Bool
roomy t room = nat_lt t.rows 50000 && nat_le (36 * t.rows + 72) room

-- the verdict on a row by its class, its order and the room
abbrev pub verdict : Bool → Bool → Bool → Result (Unit {0}) PageFault
verdict false order room = Err Class
verdict true false room = Err Order
verdict true true false = Err Room
verdict true true true = Ok tt

abbrev pub row_answer : Tally → PageRow → ℕ → Result (Unit {0}) PageFault
row_answer t r room = verdict (nat_le r.«class» 7) (orderly t r) (roomy t room)

-- the foot that the tally and the quanta give
abbrev pub foot_of : (ℕ → ℕ) → Tally → Foot
foot_of quanta t =
    record {
      rows = t.rows;
      clock = t.clock;
      classes = count t.occurs;
      bits = row_bits t.rows * exponent quanta (t.clock - t.opening) (occurs_in t.occurs);
      misses = t.misses;
    }

abbrev pub counted : Tally → List PageRow → Tally
counted t [] = t
counted t (r ∷ rs) = counted (taken t r) rs

abbrev pub tallied : ℕ → List PageRow → Tally
tallied opening rs = counted (begun opening) rs

-- what is public of a row
abbrev pub row_key : PageRow → Key
row_key r = record { asked = r.asked; «class» = r.«class» }

-- Any pairwise different release lists up to a tick, each left by some gate opened at `opening` with rules that have
-- these quanta, over a source with the asked ticks and classes of the rows, number at most 2 to the bits.
abbrev pub Bounds : (ℕ → ℕ) → ℕ → List PageRow → ℕ → ℕ → Type 0
Bounds quanta opening rs clock bits =
    (m : Rules) → Laws m → ((c : ℕ) → c ≤ 7 → m.quantum c ≡ quanta c)
    → (lists : List (List ℕ)) → All (Seen m opening (map row_key rs) clock) lists → Different lists
    → length lists ≤ 2 ^ bits
