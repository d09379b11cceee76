-- A gate driven onto a page. Nothing is assumed.
--   row_of     the page row of a release
--   Releases   the gate lets these replies go one after another, and shows a view after the last
--   tallied    the tally of a page with the rows of these releases; `filled`, its buffer
--   Stops      why no further row is taken: the gate ends, or the page is full and the reply stays
--   Fills      what is driven onto a page; `Replays`, onto a page that is begun and closed
use Rattle.std.specs.Prelude.{◌≡◌, ℕ, ◌+◌, ◌*◌, ◌<◌, ◌≤◌, false, List, [], ◌∷◌, length, Some, None, Ok, Err, Option, Result}
use Rattle.source.specs.declared.reply.End.{End}
use Rattle.promise.specs.declared.release.Release.{Release}
use Rattle.promise.specs.Rules.{Rules}
use Rattle.promise.specs.Views.{View, release, next}
use Rattle.tally.specs.declared.line.PageRow.{PageRow}
use Rattle.tally.specs.declared.line.PageFault.{PageFault}
use Rattle.tally.specs.declared.line.PageFault.TheVariants.{Room}
use Rattle.tally.specs.declared.account.Tally.{Tally}
use Rattle.tally.specs.Tallies.{begun, taken, roomy, foot_of}
use Rattle.page.specs.Pages.{row_bytes, foot_bytes, lined}
use Rattle.driver.specs.declared.replay.Replayed.{Replayed}

module _ {B : Type 0} where
  abbrev pub row_of : Release B → PageRow
  row_of x = record { asked = x.reply.asked; «class» = x.reply.«class»; release = x.reply.ready; misses = x.misses }

  abbrev pub Releases : Rules → View B → List (Release B) → View B → Type 0
  Releases m v [] w = w ≡ v
  Releases m v (x ∷ xs) w = (release m v ≡ Ok x) × Releases m (next m v) xs w

  abbrev pub tallied : Tally → List (Release B) → Tally
  tallied t [] = t
  tallied t (x ∷ xs) = tallied (taken t (row_of x)) xs

  abbrev pub filled : Tally → List (Release B) → List ℕ → List ℕ
  filled t [] buf = buf
  filled t (x ∷ xs) buf = filled (taken t (row_of x)) xs (lined t.rows (row_bytes (t.rows + 1) (row_of x)) buf)

  -- from what the gate shows, with the tally of the page in so much room
  abbrev pub Stops : Rules → View B → Tally → ℕ → Option End → Type 0
  Stops m v t room (Some e) = release m v ≡ Err e
  Stops m v t room None = ((x : Release B) × (release m v ≡ Ok x)) × (roomy t room ≡ false)

  pub record Fills (m : Rules) (v w : View B) (t u : Tally) (buf buf' : List ℕ) (end : Option End) : Type 0 where
    pub row_list : List (Release B)
    pub releases : Releases m v row_list w
    pub tally : u ≡ tallied t row_list
    pub bytes : buf' ≡ filled t row_list buf
    pub stops : Stops m w u (length buf) end

  pub record Replays (m : Rules) (v w : View B) (buf buf' : List ℕ) (d : Replayed) : Type 0 where
    pub row_list : List (Release B)
    pub releases : Releases m v row_list w
    pub length_is : d.length ≡ 36 * length row_list + 36
    pub bytes : buf' ≡ lined (length row_list) (foot_bytes (foot_of m.quantum (tallied (begun v.standing.clock) row_list))) (filled (begun v.standing.clock) row_list buf)
    pub inside : d.length ≤ length buf
    pub stops : Stops m w (tallied (begun v.standing.clock) row_list) (length buf) d.end

  -- refused where not even a foot has room, with the gate and the buffer as they were
  abbrev pub ReplayLeaves : Rules → View B → View B → List ℕ → List ℕ → Result Replayed PageFault → Type 0
  ReplayLeaves m v w buf buf' (Ok d) = Replays m v w buf buf' d
  ReplayLeaves m v w buf buf' (Err f) = (length buf < 36) × (f ≡ Room) × (w ≡ v) × (buf' ≡ buf)
