-- Which refusal each fault of a page is. Nothing is assumed.
use Rattle.source.specs.declared.refusal.Code.{Code}
use Rattle.source.specs.declared.refusal.Code.TheVariants as code
use Rattle.tally.specs.declared.line.PageFault.{PageFault}
use Rattle.tally.specs.declared.line.PageFault.TheVariants.{Class, Order, Room}

abbrev pub page_fault_code : PageFault → Code
page_fault_code Class = code.Class
page_fault_code Order = code.Order
page_fault_code Room = code.Room
