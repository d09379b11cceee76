-- The six calls of a gate, and runs of them. Nothing is assumed.
--   Call           one call: what it answers, and what the gate shows after it
--   Step           a call with its answer, and what the gate shows after it
--   Runs           a list of calls, each made where the one before it left the gate
--   turn           what a call does to the list: it takes a reply, it is a take that is declined, or it only looks
--   replies        the replies taken
--   release_list   their release ticks; `miss_record`, the misses that the take of each charged
--   takes          how often take was called
--   left           what the gate shows in the end
--   run            the one run that a list of requests has
--   Played         calls that were asked for in one buffer and are reported in another are a run
use Rattle.std.specs.Prelude.{◌≡◌, ℕ, suc, ◌-◌, min, List, [], ◌∷◌, ◌++◌, map, length, take, drop, Ok, Err}
use Rattle.source.specs.declared.reply.Reply.{Reply}
use Rattle.pace.specs.Laws.{of_class}
use Rattle.promise.specs.declared.event.Event.{Event}
use Rattle.promise.specs.declared.event.Event.TheVariants.{Head, Lapses, Take, Misses, Clock, Released}
use Rattle.promise.specs.declared.event.Request.{Request}
use Rattle.promise.specs.declared.event.Request.TheVariants as request
use Rattle.promise.specs.Rules.{Rules}
use Rattle.promise.specs.Views.{View, own, all, answer, lapses, next}

-- what a call does: it takes a reply, it is a take that is declined, or it only looks
pub data Turn (B : Type 0) : Type 0 where
  Took : Reply B → Turn B
  Declined : Turn B
  Looked : Turn B

-- a call with its answer, and what the gate shows after it
pub record Step (B : Type 0) : Type 0 where
  pub event : Event B
  pub after : View B

module _ {B : Type 0} where
  -- the call that was asked for
  abbrev pub asked : Event B → Request
  asked (Head x) = request.Head
  asked (Lapses x) = request.Lapses
  asked (Take x) = request.Take
  asked (Misses c x) = request.Misses c
  asked (Clock x) = request.Clock
  asked (Released x) = request.Released

  -- the answer is the one that the rules give
  abbrev pub Answers : Rules → View B → Event B → Type 0
  Answers m v (Head x) = x ≡ answer m v
  Answers m v (Lapses x) = x ≡ lapses m v
  Answers m v (Take x) = x ≡ answer m v
  Answers m v (Misses c x) = x ≡ of_class c (own v.standing c)
  Answers m v (Clock x) = x ≡ v.standing.clock
  Answers m v (Released x) = x ≡ v.taken

  -- what the gate shows after a call: only take moves it on
  abbrev pub after : Rules → View B → Event B → View B
  after m v (Head x) = v
  after m v (Lapses x) = v
  after m v (Take x) = next m v
  after m v (Misses c x) = v
  after m v (Clock x) = v
  after m v (Released x) = v

  abbrev pub Call : Rules → View B → Event B → View B → Type 0
  Call m v e w = Answers m v e × (w ≡ after m v e)

  abbrev pub Runs : Rules → View B → List (Step B) → Type 0
  Runs m v [] = Unit {0}
  Runs m v (s ∷ h) = Call m v s.event s.after × Runs m s.after h

  abbrev pub turn : Event B → Turn B
  turn (Head x) = Looked
  turn (Lapses x) = Looked
  turn (Take (Ok r)) = Took r
  turn (Take (Err e)) = Declined
  turn (Misses c x) = Looked
  turn (Clock x) = Looked
  turn (Released x) = Looked

  abbrev pub replies_by : Turn B → List (Reply B) → List (Reply B)
  replies_by (Took r) xs = r ∷ xs
  replies_by Declined xs = xs
  replies_by Looked xs = xs

  abbrev pub replies : List (Step B) → List (Reply B)
  replies [] = []
  replies (s ∷ h) = replies_by (turn s.event) (replies h)

  abbrev pub ticks_of : List (Reply B) → List ℕ
  ticks_of xs = map (λ (r : Reply B). r.ready) xs

  abbrev pub release_list : List (Step B) → List ℕ
  release_list h = ticks_of (replies h)

  abbrev pub record_by : Turn B → ℕ → List ℕ → List ℕ
  record_by (Took r) k ks = k ∷ ks
  record_by Declined k ks = ks
  record_by Looked k ks = ks

  abbrev pub miss_record : View B → List (Step B) → List ℕ
  miss_record v [] = []
  miss_record v (s ∷ h) =
      record_by (turn s.event) (all s.after.standing - all v.standing) (miss_record s.after h)

  abbrev pub takes_by : Turn B → ℕ → ℕ
  takes_by (Took r) n = suc n
  takes_by Declined n = suc n
  takes_by Looked n = n

  abbrev pub takes : List (Step B) → ℕ
  takes [] = 0
  takes (s ∷ h) = takes_by (turn s.event) (takes h)

  abbrev pub left : View B → List (Step B) → View B
  left v [] = v
  left v (s ∷ h) = left s.after h

  -- a request with the answer that the rules give, and the run of a list of requests
  abbrev pub told : Rules → View B → Request → Event B
  told m v request.Head = Head (answer m v)
  told m v request.Lapses = Lapses (lapses m v)
  told m v request.Take = Take (answer m v)
  told m v (request.Misses c) = Misses c (of_class c (own v.standing c))
  told m v request.Clock = Clock v.standing.clock
  told m v request.Released = Released v.taken

  abbrev pub run : Rules → View B → List Request → List (Step B)
  run m v [] = []
  run m v (q ∷ qs) = record { event = told m v q; after = after m v (told m v q) } ∷ run m (after m v (told m v q)) qs

  -- The first n requests were made, one after another, as many as both buffers hold; the reports are those calls with
  -- their answers, and what was in the buffer behind them stays.
  pub record Played (m : Rules) (v w : View B) (requests : List Request) (before after : List (Event B)) (n : ℕ) : Type 0 where
    pub count : n ≡ min (length requests) (length before)
    pub steps : List (Step B)
    pub runs : Runs m v steps
    pub ends : w ≡ left v steps
    pub asks : map (λ (s : Step B). asked s.event) steps ≡ take n requests
    pub reports : after ≡ map (λ (s : Step B). s.event) steps ++ drop n before
