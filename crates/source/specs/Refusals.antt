-- The refusals and their numbers. Nothing is assumed.
--   number_of   the number that a refusal is printed as
--   end_code    the refusal with which a call answers the mark of a list
use Rattle.std.specs.Prelude.{ℕ}
use Rattle.source.specs.declared.refusal.Code.{Code}
use Rattle.source.specs.declared.refusal.Code.TheVariants as code
use Rattle.source.specs.declared.reply.End.{End}
use Rattle.source.specs.declared.reply.End.TheVariants.{Dry, Horizon}

abbrev pub number_of : Code → ℕ
number_of code.Form = 1
number_of code.Limit = 2
number_of code.Newline = 3
number_of code.Size = 4
number_of code.Order = 5
number_of code.Dry = 6
number_of code.Horizon = 7
number_of code.Class = 8
number_of code.Range = 9
number_of code.Step = 10
number_of code.Room = 11
number_of code.NoStep = 12
number_of code.NoRow = 13

abbrev pub end_code : End → Code
end_code Dry = code.Dry
end_code Horizon = code.Horizon
