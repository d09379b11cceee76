-- Which refusal each fault of a pace is. Nothing is assumed.
--   quantum_fault_code   of a quantum that was not set
--   step_fault_code      of a step that was not added
use Rattle.source.specs.declared.refusal.Code.{Code}
use Rattle.source.specs.declared.refusal.Code.TheVariants as code
use Rattle.pace.specs.declared.fault.QuantumFault.{QuantumFault}
use Rattle.pace.specs.declared.fault.QuantumFault.TheVariants as quantum
use Rattle.pace.specs.declared.fault.StepFault.{StepFault}
use Rattle.pace.specs.declared.fault.StepFault.TheVariants as step

abbrev pub quantum_fault_code : QuantumFault → Code
quantum_fault_code (quantum.Class u) = code.Class
quantum_fault_code quantum.Range = code.Range

abbrev pub step_fault_code : StepFault → Code
step_fault_code (step.Class u) = code.Class
step_fault_code step.Range = code.Range
step_fault_code step.Order = code.Step
