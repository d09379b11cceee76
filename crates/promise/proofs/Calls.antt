-- One call: it takes a reply, or it leaves the gate as it was.
use Rattle.std.proofs.Common.{◌≡◌, ℕ, suc, List, [], ◌∷◌, Some, None, Ok, Err, Option, refl, arith}
use Rattle.source.specs.declared.reply.Reply.{Reply}
use Rattle.source.specs.declared.reply.End.{End}
use Rattle.promise.specs.declared.event.Event.{Event}
use Rattle.promise.specs.declared.event.Event.TheVariants.{Head, Lapses, Take, Misses, Clock, Released}
use Rattle.promise.specs.declared.release.Settled.{Settled}
use Rattle.promise.specs.Rules.{Rules}
use Rattle.promise.specs.Views.{Standing, View, charged, settled, moved, released, release_by, release_from, reply_of, next_by, next_from}
use Rattle.promise.specs.Runs.{Turn, Took, Declined, Looked, Call, turn}

module _ {B : Type 0} where
  -- the view after the reply at the head is released
  abbrev pub passed : View B → Reply B → List (Reply B) → Settled → View B
  passed v r rs s =
      record { coming = rs; mark = v.mark; standing = charged v.standing r.«class» s; taken = suc v.taken }

  -- a take that was answered with x
  pub record Takes (m : Rules) (v w : View B) (x : Reply B) : Type 0 where
    pub head : Reply B
    pub rest : List (Reply B)
    pub by : Settled
    pub list_is : v.coming ≡ head ∷ rest
    pub answer_is : x ≡ moved head by.tick
    pub settled_is : settled m v.standing head ≡ Some by
    pub after_is : w ≡ passed v head rest by

  abbrev pub Turned : Rules → View B → View B → Turn B → Type 0
  Turned m v w (Took x) = Takes m v w x
  Turned m v w Declined = (w ≡ v) × (released m v.standing v.coming ≡ [])
  Turned m v w Looked = w ≡ v

  pub released_some : (m : Rules) (st : Standing) (r : Reply B) (rs : List (Reply B)) (s : Settled) → settled m st r ≡ Some s
      → released m st (r ∷ rs) ≡ moved r s.tick ∷ released m (charged st r.«class» s) rs
  released_some m st r rs s e = rw (e, released) refl

  pub released_none : (m : Rules) (st : Standing) (r : Reply B) (rs : List (Reply B)) → settled m st r ≡ None
      → released m st (r ∷ rs) ≡ []
  released_none m st r rs e = rw (e, released) refl

  takes_by_is : (m : Rules) (v w : View B) (r : Reply B) (rs : List (Reply B)) → v.coming ≡ r ∷ rs → (x : Reply B) (o : Option Settled)
      → settled m v.standing r ≡ o → Ok x ≡ reply_of (release_by o r) → w ≡ next_by o v r rs → Takes m v w x
  takes_by_is m v w r rs l x (Some s) e a b =
      record { head = r; rest = rs; by = s; list_is = l; answer_is = cc; settled_is = e; after_is = b }
  takes_by_is m v w r rs l x None e a b = absurd (let z : ◌≡◌ {A = ℕ} 0 1 = cc in omega arith)

  takes_from : (m : Rules) (v w : View B) (rs : List (Reply B)) → v.coming ≡ rs → (x : Reply B)
      → Ok x ≡ reply_of (release_from m v rs) → w ≡ next_from m v rs → Takes m v w x
  takes_from m v w [] l x a b = absurd (let z : ◌≡◌ {A = ℕ} 0 1 = cc in omega arith)
  takes_from m v w (r ∷ rs) l x a b = takes_by_is m v w r rs l x (settled m v.standing r) refl a b

  declines_by : (m : Rules) (v w : View B) (r : Reply B) (rs : List (Reply B)) (e : End) (o : Option Settled)
      → settled m v.standing r ≡ o → Err e ≡ reply_of (release_by o r) → w ≡ next_by o v r rs
      → (w ≡ v) × (released m v.standing (r ∷ rs) ≡ [])
  declines_by m v w r rs e (Some s) is a b = absurd (let z : ◌≡◌ {A = ℕ} 0 1 = cc in omega arith)
  declines_by m v w r rs e None is a b = (b, released_none m v.standing r rs is)

  declines_from : (m : Rules) (v w : View B) (rs : List (Reply B)) (e : End)
      → Err e ≡ reply_of (release_from m v rs) → w ≡ next_from m v rs → (w ≡ v) × (released m v.standing rs ≡ [])
  declines_from m v w [] e a b = (b, refl)
  declines_from m v w (r ∷ rs) e a b = declines_by m v w r rs e (settled m v.standing r) refl a b

  pub turned : (m : Rules) (v : View B) (e : Event B) (w : View B) → Call m v e w → Turned m v w (turn e)
  turned m v (Head x) w c = c.1
  turned m v (Lapses x) w c = c.1
  turned m v (Take (Ok x)) w c = takes_from m v w v.coming refl x c.0 c.1
  turned m v (Take (Err e)) w c = declines_from m v w v.coming e c.0 c.1
  turned m v (Misses k x) w c = c.1
  turned m v (Clock x) w c = c.1
  turned m v (Released x) w c = c.1
