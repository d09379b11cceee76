-- A trace: what it has still to come. Nothing is assumed.
--   shown    the longest lawful beginning of the first 50,000 records, less those taken
--   NextOf   what comes after a reply that comes first
use Rattle.std.specs.Prelude.{◌≡◌, ◌+◌, ◌<◌, List, ◌∷◌, take, drop, Ok, Err, Result}
use Rattle.source.specs.declared.reply.Reply.{Reply}
use Rattle.source.specs.declared.reply.End.{End}
use Rattle.source.specs.declared.trace.Trace.{Trace}
use Rattle.source.specs.Replies.{beginning}

module _ {B R : Type 0} where
  -- of the records that the trace's buffer holds
  abbrev pub shown : List (Reply B) → Trace R → List (Reply B)
  shown held t = beginning t.last (drop t.taken (take 50000 held))

  pub record Next (held : List (Reply B)) (t : Trace R) (r : Reply B) : Type 0 where
    pub inside : t.taken < 50000
    pub others : shown held t ≡ r ∷ beginning r.asked (drop (t.taken + 1) (take 50000 held))

  abbrev pub NextOf : List (Reply B) → Trace R → Result (Reply B) End → Type 0
  NextOf held t (Ok r) = Next held t r
  NextOf held t (Err e) = Unit {0}
