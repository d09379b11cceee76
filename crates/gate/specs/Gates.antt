-- What the gate at hand shows, in the words that every gate is spoken of with. Nothing is assumed.
--   standing_of   a ledger in plain numbers
--   view_of       what the gate shows
--   rules_in      the rules that it predicts by
--   GateCall      a call of the gate: what it answers, and how it leaves the gate
use Rattle.std.specs.Prelude.{sum}
use Rattle.source.specs.declared.Source as Source
use Rattle.pace.specs.declared.Pace as Pace
use Rattle.pace.specs.declared.Penalty as Penalty
use Rattle.promise.specs.Rules.{Rules, rules_of}
use Rattle.promise.specs.Views.{Standing, View}
use Rattle.promise.specs.declared.event.Event.{Event}
use Rattle.promise.specs.Runs.{Call}
use Rattle.gate.specs.declared.Gate.{Gate}
use Rattle.gate.specs.declared.ledger.Ledger.{Ledger}
use Rattle.gate.specs.Rows.{misses_in, releases_in}

abbrev pub standing_of : Ledger → Standing
standing_of l = record { opening = l.opening; clock = l.clock; misses = misses_in l.rows }

abbrev pub view_of : {S P R B : Type 0} → Source.Ghosts S B → Gate S P R → View B
view_of source g =
    record {
      coming = source.coming g.source;
      mark = source.mark g.source;
      standing = standing_of g.ledger;
      taken = sum (releases_in g.ledger.rows);
    }

abbrev pub rules_in : {S P R : Type 0} → Pace.Ghosts P → Penalty.Ghosts R → Gate S P R → Rules
rules_in pace penalty g = rules_of pace penalty g.pace g.penalty

-- the gate g makes a call with its answer, and is h after it
abbrev pub GateCall : {S P R B : Type 0} → Source.Ghosts S B → Pace.Ghosts P → Penalty.Ghosts R → Gate S P R → Event B → Gate S P R → Type 0
GateCall source pace penalty g e h = Call (rules_in pace penalty g) (view_of source g) e (view_of source h)
