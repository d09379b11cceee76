-- Gates and their calls with the bodies left out, so that gates with other kinds of body can be compared.
-- Nothing is assumed.
--   bare       a reply without its body; likewise of a view, an answer, a call and a step
use Rattle.std.specs.Prelude.{map, Ok, Err, Result}
use Rattle.source.specs.declared.reply.Reply.{Reply}
use Rattle.source.specs.declared.reply.End.{End}
use Rattle.promise.specs.declared.event.Event.{Event}
use Rattle.promise.specs.declared.event.Event.TheVariants.{Head, Lapses, Take, Misses, Clock, Released}
use Rattle.promise.specs.Views.{View}
use Rattle.promise.specs.Runs.{Step}

module _ {B : Type 0} where
  abbrev pub bare : Reply B → Reply (Unit {0})
  bare r = record { asked = r.asked; «class» = r.«class»; ready = r.ready; body = tt }

  abbrev pub bare_view : View B → View (Unit {0})
  bare_view v = record { coming = map bare v.coming; mark = v.mark; standing = v.standing; taken = v.taken }

  abbrev pub bare_answer : Result (Reply B) End → Result (Reply (Unit {0})) End
  bare_answer (Ok r) = Ok (bare r)
  bare_answer (Err e) = Err e

  abbrev pub bare_event : Event B → Event (Unit {0})
  bare_event (Head x) = Head (bare_answer x)
  bare_event (Lapses x) = Lapses x
  bare_event (Take x) = Take (bare_answer x)
  bare_event (Misses c x) = Misses c x
  bare_event (Clock x) = Clock x
  bare_event (Released x) = Released x

  abbrev pub bare_step : Step B → Step (Unit {0})
  bare_step s = record { event = bare_event s.event; after = bare_view s.after }
