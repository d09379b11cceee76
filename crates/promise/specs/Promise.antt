-- What a gate promises over every list of its six calls. Nothing is assumed.
--   Key        what is public of a reply: its asked tick and its class
--   Freed      replies are the first of a list in order, altered only in their ready ticks, by the rules
--   Listed     a list is the whole list that the rules give
--   Faithful   the replies taken are the first of that list, one for each take, and the gate shows their tally
--   Bodiless   a run with the bodies left out is a run with the same release list and miss record
--   Seen       a release list up to a tick that some calls of some gate opened alike leave
--   Promise    all of it, of a gate that is opened
use Rattle.std.specs.Prelude.{◌≡◌, ℕ, ◌+◌, ◌-◌, ◌*◌, ◌^◌, ◌≤◌, Bool, true, false, ◌||◌, ◌↔◌, List, [], ◌∷◌, map, length, take, drop, ◌==◌, ◌≢◌, nat_le}
use Rattle.source.specs.declared.reply.Reply.{Reply}
use Rattle.source.specs.declared.reply.End.{End}
use Rattle.source.specs.Replies.{horizon, Lawful}
use Rattle.promise.specs.Rules.{Rules, Laws, Alike}
use Rattle.promise.specs.Views.{Standing, View, own, charged, moved, opened, SettlesAt, PassesAt}
use Rattle.promise.specs.Runs.{Step, Runs, replies, release_list, miss_record, takes, left}
use Rattle.promise.specs.Bodies.{bare, bare_step}
use Rattle.promise.specs.Leaks.{Most, share, over}

pub record Key : Type 0 where
  pub asked : ℕ
  pub «class» : ℕ

module _ {B : Type 0} where
  abbrev pub key_of : Reply B → Key
  key_of r = record { asked = r.asked; «class» = r.«class» }

  abbrev pub keys_of : List (Reply B) → List Key
  keys_of rs = map key_of rs

  -- where the gate stands once a reply is released at a tick after k misses
  abbrev pub stands : Standing → Reply B → ℕ → ℕ → Standing
  stands st r k t = charged st r.«class» (record { tick = t; misses = k })

  -- The replies xs are the first of the list in order, with the misses ks: each is altered only in its ready tick,
  -- which is the release tick that the rules give, and leaves no sooner than it was ready.
  abbrev pub Freed : Rules → Standing → List (Reply B) → List (Reply B) → List ℕ → Type 0
  Freed m st rs [] [] = Unit {0}
  Freed m st rs [] (k ∷ ks) = ⊥
  Freed m st rs (x ∷ xs) [] = ⊥
  Freed m st [] (x ∷ xs) (k ∷ ks) = ⊥
  Freed m st (r ∷ rs) (x ∷ xs) (k ∷ ks) =
      (x ≡ moved r x.ready) × (r.ready ≤ x.ready) × SettlesAt m st r k x.ready
      × Freed m (stands st r k x.ready) rs xs ks

  -- The list xs is all that the rules release: to the end of the list below, or to the first reply whose prediction
  -- passes the horizon.
  abbrev pub Listed : Rules → Standing → List (Reply B) → List (Reply B) → Type 0
  Listed m st [] [] = Unit {0}
  Listed m st [] (x ∷ xs) = ⊥
  Listed m st (r ∷ rs) [] = (k : ℕ) × PassesAt m st r k
  Listed m st (r ∷ rs) (x ∷ xs) =
      (k : ℕ) × (x ≡ moved r x.ready) × SettlesAt m st r k x.ready × Listed m (stands st r k x.ready) rs xs

  -- the sum of the miss record over one class
  abbrev pub record_of : ℕ → List (Reply B) → List ℕ → ℕ
  record_of c [] ks = 0
  record_of c (x ∷ xs) [] = 0
  record_of c (x ∷ xs) (k ∷ ks) = share k (c == x.«class») + record_of c xs ks

-- the last of the list, or d
abbrev pub last_or : ℕ → List ℕ → ℕ
last_or d [] = d
last_or d (x ∷ xs) = last_or x xs

-- What the gate shows in the end is the tally of what was taken.
pub record Tallied {B : Type 0} (v : View B) (h : List (Step B)) : Type 0 where
  pub clock : (left v h).standing.clock ≡ last_or v.standing.clock (release_list h)
  pub taken : (left v h).taken ≡ v.taken + length (replies h)
  pub misses : (c : ℕ) → own (left v h).standing c ≡ own v.standing c + record_of c (replies h) (miss_record v h)
  pub coming : (left v h).coming ≡ drop (length (replies h)) v.coming
  pub mark : (left v h).mark ≡ v.mark
  pub opening : (left v h).standing.opening ≡ v.standing.opening

-- The replies taken are the first ones, by the rules: as many as there were takes, until the rules end the list.
pub record Faithful {B : Type 0} (m : Rules) (v : View B) (h : List (Step B)) : Type 0 where
  pub in_order : Freed m v.standing v.coming (replies h) (miss_record v h)
  pub whole : List (Reply B)
  pub by_rules : Listed m v.standing v.coming whole
  pub each_take : replies h ≡ take (takes h) whole
  pub tallied : Tallied v h

-- The same calls of the same gate with the bodies left out: a run again, with the same lists.
pub record Bodiless {B : Type 0} (m : Rules) (rs : List (Reply B)) (e : End) (o : ℕ) (h : List (Step B)) : Type 0 where
  pub lawful : Lawful (map bare rs)
  pub keys : keys_of (map bare rs) ≡ keys_of rs
  pub runs : Runs m (opened (map bare rs) e o) (map bare_step h)
  pub releases : release_list (map bare_step h) ≡ release_list h
  pub misses : miss_record (opened (map bare rs) e o) (map bare_step h) ≡ miss_record (opened rs e o) h

-- a release list up to a tick: what stands before the first one past it
abbrev pub up_to : ℕ → List ℕ → List ℕ
up_to t [] = []
up_to t (x ∷ xs) = elim (nat_le x t) [ true ↦ x ∷ up_to t xs | false ↦ [] ]

abbrev pub All : {X : Type 0} → (X → Type 0) → List X → Type 0
All P [] = Unit {0}
All P (x ∷ xs) = P x × All P xs

-- pairwise different
abbrev pub Different : {X : Type 0} → List X → Type 0
Different [] = Unit {0}
Different (x ∷ xs) = All (λ y. x ≢ y) xs × Different xs

-- whether a class occurs
abbrev pub occurs : List Key → ℕ → Bool
occurs [] c = false
occurs (k ∷ ks) c = c == k.«class» || occurs ks c

-- The list is left up to tick t by some calls of some gate opened alike at o over a source with these keys.
pub record Seen (m : Rules) (o : ℕ) (keys : List Key) (t : ℕ) (xs : List ℕ) : Type 0 where
  pub rules : Rules
  pub laws : Laws rules
  pub alike : Alike m rules
  pub coming : List (Reply (Unit {0}))
  pub lawful : Lawful coming
  pub agrees : keys_of coming ≡ keys
  pub mark : End
  pub steps : List (Step (Unit {0}))
  pub runs : Runs rules (opened coming mark o) steps
  pub shows : up_to t (release_list steps) ≡ xs

-- The promise of a gate opened with the rules m at o over a source with the list rs and the mark e. Other gates are
-- taken with their bodies left out: by `bodiless` every gate's run is such a run too.
pub record Promise {B : Type 0} (m : Rules) (rs : List (Reply B)) (e : End) (o : ℕ) : Type 0 where
  pub faithful : (h : List (Step B)) → Runs m (opened rs e o) h → Faithful m (opened rs e o) h
  pub bodiless : (h : List (Step B)) → Runs m (opened rs e o) h → Bodiless m rs e o h
  -- timing tells the misses and nothing more
  pub same :
      (n : Rules) → Laws n → Alike m n → (ss : List (Reply (Unit {0}))) → Lawful ss → keys_of rs ≡ keys_of ss → (d : End)
      → (h : List (Step B)) → Runs m (opened rs e o) h
      → (i : List (Step (Unit {0}))) → Runs n (opened ss d o) i
      → length (replies h) ≡ length (replies i)
      → (release_list h ≡ release_list i) ↔ (miss_record (opened rs e o) h ≡ miss_record (opened ss d o) i)
  -- misses are charged slowly
  pub slow :
      (h : List (Step B)) → Runs m (opened rs e o) h → (c : ℕ) → c ≤ 7
      → m.quantum c * (2 ^ own (left (opened rs e o) h).standing c - 1) ≤ (left (opened rs e o) h).standing.clock - o
  -- there are few release lists
  pub few :
      (t : ℕ) → o ≤ t → t ≤ horizon
      → (n : ℕ → ℕ) → ((c : ℕ) → c ≤ 7 → Most (m.quantum c) (t - o) (n c))
      → (lists : List (List ℕ)) → All (Seen m o (keys_of rs) t) lists → Different lists
      → length lists ≤ (length rs + 1) ^ (1 + over 8 n (occurs (keys_of rs)))
