-- Lists of replies: which are lawful, and what the two calls of a source answer. Nothing is assumed.
--   horizon     the last tick
--   Lawful      asked ≤ ready ≤ horizon and class at most 7 in each reply, and asked ticks that never fall
--   first       the first reply, or the end mark
--   rest        the replies after the first
--   beginning   the longest lawful beginning of a list, which is what LongestLawful says of it
use Rattle.std.specs.Prelude.{◌≡◌, ℕ, ◌≤◌, Bool, true, false, ◌&&◌, List, [], ◌∷◌, ◌++◌, length, Ok, Err, Result, nat_le}
use Rattle.source.specs.declared.reply.Reply.{Reply}
use Rattle.source.specs.declared.reply.End.{End}

abbrev pub horizon : ℕ
horizon = 1000000000

module _ {B : Type 0} where
  -- a reply that may follow one asked at `last`
  pub record Follows (last : ℕ) (r : Reply B) : Type 0 where
    pub rises : last ≤ r.asked
    pub waits : r.asked ≤ r.ready
    pub within : r.ready ≤ horizon
    pub known : r.«class» ≤ 7

  abbrev pub LawfulFrom : ℕ → List (Reply B) → Type 0
  LawfulFrom last [] = Unit {0}
  LawfulFrom last (r ∷ rs) = Follows last r × LawfulFrom r.asked rs

  abbrev pub Lawful : List (Reply B) → Type 0
  Lawful rs = LawfulFrom 0 rs

  abbrev pub first : List (Reply B) → End → Result (Reply B) End
  first [] e = Err e
  first (r ∷ rs) e = Ok r

  abbrev pub rest : List (Reply B) → List (Reply B)
  rest [] = []
  rest (r ∷ rs) = rs

  -- whether a reply may follow one asked at `last`
  abbrev pub follows : ℕ → Reply B → Bool
  follows last r = nat_le last r.asked && (nat_le r.asked r.ready && (nat_le r.ready horizon && nat_le r.«class» 7))

  -- the longest lawful beginning of a list that follows a reply asked at `last`
  abbrev pub beginning : ℕ → List (Reply B) → List (Reply B)
  beginning last [] = []
  beginning last (r ∷ rs) = elim (follows last r) [ true ↦ r ∷ beginning r.asked rs | false ↦ [] ]

  -- shown is a beginning of the list, it is lawful, and no lawful beginning is longer
  pub record LongestLawful (rs shown : List (Reply B)) : Type 0 where
    pub begins : (more : List (Reply B)) × (rs ≡ shown ++ more)
    pub lawful : Lawful shown
    pub longest : (us vs : List (Reply B)) → rs ≡ us ++ vs → Lawful us → length us ≤ length shown
