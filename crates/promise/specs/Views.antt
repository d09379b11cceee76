-- What a gate shows, and what its calls answer. Nothing is assumed.
--   Standing       a ledger in plain numbers: the opening, the clock, the misses of the classes 0 to 7
--   base           where the predictions for a reply begin: the later of its asked tick and the clock
--   SettlesAt      where the gate stands, a reply is released at a tick after so many misses; PassesAt, its prediction
--                  passes the horizon
--   settled        the same, computed: the release tick and the misses, or nothing where a prediction passes the horizon
--   charged        the standing after a reply of some class is released
--   released       the replies that the gate will release, and `ending` why they end
--   View           what is coming below the gate, how that ends, where the gate stands, how many replies were taken
--   opened         what a gate shows when it is opened
--   answer         what head and take answer; `release`, the same with the misses; `lapses`, the misses alone
--   next           the view after a take
--   Timely         what every release keeps
use Rattle.std.specs.Prelude.{ℕ, suc, ◌+◌, ◌<◌, ◌≤◌, max, List, [], ◌∷◌, replicate, Some, None, Ok, Err, sum, Option, Result, slice_index, slice_set}
use Rattle.source.specs.declared.reply.Reply.{Reply}
use Rattle.source.specs.declared.reply.End.{End}
use Rattle.source.specs.declared.reply.End.TheVariants.{Horizon}
use Rattle.source.specs.Replies.{horizon}
use Rattle.promise.specs.declared.release.Release.{Release}
use Rattle.promise.specs.declared.release.Settled.{Settled}
use Rattle.promise.specs.Rules.{Rules}
use Rattle.promise.specs.Predictions.{Settles, Passes, settle}

pub record Standing : Type 0 where
  pub opening : ℕ
  pub clock : ℕ
  pub misses : List ℕ

abbrev pub own : Standing → ℕ → ℕ
own st c = slice_index st.misses c

abbrev pub all : Standing → ℕ
all st = sum st.misses

abbrev pub base : Standing → ℕ → ℕ
base st asked = max asked st.clock

abbrev pub charged : Standing → ℕ → Settled → Standing
charged st c s =
    record { opening = st.opening; clock = s.tick; misses = slice_set st.misses c (own st c + s.misses) }

abbrev pub fresh : ℕ → Standing
fresh t = record { opening = t; clock = t; misses = replicate 8 0 }

module _ {B : Type 0} where
  abbrev pub SettlesAt : Rules → Standing → Reply B → ℕ → ℕ → Type 0
  SettlesAt m st r k t =
      Settles m r.«class» r.ready (base st r.asked) (own st r.«class») (all st) k t

  abbrev pub PassesAt : Rules → Standing → Reply B → ℕ → Type 0
  PassesAt m st r k = Passes m r.«class» r.ready (base st r.asked) (own st r.«class») (all st) k

  -- no class has more than 29 misses within the horizon, so 30 predictions decide
  unfoldable pub settled : Rules → Standing → Reply B → Option Settled
  settled m st r = settle 30 m r.«class» r.ready (base st r.asked) (own st r.«class») (all st)

  -- the reply, ready at another tick
  abbrev pub moved : Reply B → ℕ → Reply B
  moved r t = record { asked = r.asked; «class» = r.«class»; ready = t; body = r.body }

  abbrev pub released : Rules → Standing → List (Reply B) → List (Reply B)
  released m st [] = []
  released m st (r ∷ rs) =
      elim (settled m st r) [ Some s ↦ moved r s.tick ∷ released m (charged st r.«class» s) rs | None ↦ [] ]

  abbrev pub ending : Rules → Standing → List (Reply B) → End → End
  ending m st [] e = e
  ending m st (r ∷ rs) e =
      elim (settled m st r) [ Some s ↦ ending m (charged st r.«class» s) rs e | None ↦ Horizon ]

pub record View (B : Type 0) : Type 0 where
  pub coming : List (Reply B)
  pub mark : End
  pub standing : Standing
  pub taken : ℕ

module _ {B : Type 0} where
  abbrev pub opened : List (Reply B) → End → ℕ → View B
  opened rs e t = record { coming = rs; mark = e; standing = fresh t; taken = 0 }

  -- the first reply as it is released, with its misses
  abbrev pub release_by : Option Settled → Reply B → Result (Release B) End
  release_by (Some s) r = Ok (record { reply = moved r s.tick; misses = s.misses })
  release_by None r = Err Horizon

  abbrev pub release_from : Rules → View B → List (Reply B) → Result (Release B) End
  release_from m v [] = Err v.mark
  release_from m v (r ∷ rs) = release_by (settled m v.standing r) r

  abbrev pub release : Rules → View B → Result (Release B) End
  release m v = release_from m v v.coming

  abbrev pub reply_of : Result (Release B) End → Result (Reply B) End
  reply_of (Ok x) = Ok x.reply
  reply_of (Err e) = Err e

  abbrev pub answer : Rules → View B → Result (Reply B) End
  answer m v = reply_of (release m v)

  abbrev pub misses_of : Result (Release B) End → Result ℕ End
  misses_of (Ok x) = Ok x.misses
  misses_of (Err e) = Err e

  abbrev pub lapses : Rules → View B → Result ℕ End
  lapses m v = misses_of (release m v)

  abbrev pub next_by : Option Settled → View B → Reply B → List (Reply B) → View B
  next_by (Some s) v r rs =
      record { coming = rs; mark = v.mark; standing = charged v.standing r.«class» s; taken = suc v.taken }
  next_by None v r rs = v

  abbrev pub next_from : Rules → View B → List (Reply B) → View B
  next_from m v [] = v
  next_from m v (r ∷ rs) = next_by (settled m v.standing r) v r rs

  abbrev pub next : Rules → View B → View B
  next m v = next_from m v v.coming

-- what every release keeps: it is not before it was asked, after the clock and within the horizon; its class is known;
-- and it missed at most 29 predictions
pub record Timely {B : Type 0} (clock : ℕ) (x : Release B) : Type 0 where
  pub asked : x.reply.asked ≤ x.reply.ready
  pub after : clock < x.reply.ready
  pub within : x.reply.ready ≤ horizon
  pub known : x.reply.«class» ≤ 7
  pub few : x.misses ≤ 29
