-- Which stop each refusal of a step is.
use Rattle.lg_io.specs.declared.fault.FileFault.{FileFault}
use Rattle.lg_io.specs.declared.fault.FileFault.TheVariants as file
use Rattle.lg_circ.specs.declared.fault.CircFault.{CircFault}
use Rattle.lg_circ.specs.declared.fault.CircFault.TheVariants as circ
use Rattle.lg_netlist.specs.declared.acceptance.NotAccepted.{NotAccepted}
use Rattle.lg_netlist.specs.declared.acceptance.NotAccepted.TheVariants as not_accepted
use Rattle.lg_vectors.specs.declared.fault.VectorFault.{VectorFault}
use Rattle.lg_vectors.specs.declared.fault.VectorFault.TheVariants as vector
use Rattle.lg_vrows.specs.declared.fault.ModuleFault.{ModuleFault}
use Rattle.lg_vrows.specs.declared.fault.ModuleFault.TheVariants as module_fault
use Rattle.lg_vrows.specs.declared.fault.RowsFault.{RowsFault}
use Rattle.lg_vrows.specs.declared.fault.RowsFault.TheVariants as rows_fault
use Rattle.lg_run.specs.declared.one_sheet.EarlyFault.{EarlyFault}
use Rattle.lg_run.specs.declared.one_sheet.EarlyFault.TheVariants as early
use Rattle.lg_run.specs.declared.stop.Unmet.TheVariants.{ManyDrivers, Undriven, Cycle}
use Rattle.lg_run.specs.declared.stop.Refusal.TheVariants as refusal
use Rattle.lg_run.specs.declared.stop.Stop.{Stop}
use Rattle.lg_run.specs.declared.stop.Stop.TheVariants as stop

abbrev pub file_stop : FileFault → Stop
file_stop file.Missing = stop.Input refusal.Missing
file_stop file.TooLong = stop.Input refusal.TooLong
file_stop file.Failed = stop.ReadFault
file_stop file.Memory = stop.Memory

abbrev pub circ_stop : CircFault → Stop
circ_stop circ.TooLong = stop.Input refusal.TooLong
circ_stop circ.TooDeep = stop.Input refusal.TooDeep
circ_stop circ.NotProject = stop.Input refusal.NotProject
circ_stop circ.Memory = stop.Memory

abbrev pub early_stop : EarlyFault → Stop
early_stop early.NotBuilt = stop.Input refusal.NotBuilt
early_stop early.Memory = stop.Memory

abbrev pub not_accepted_stop : NotAccepted → Stop
not_accepted_stop (not_accepted.ManyDrivers net first second) = stop.NotAccepted (ManyDrivers net first second)
not_accepted_stop (not_accepted.Undriven part port) = stop.NotAccepted (Undriven part port)
not_accepted_stop (not_accepted.Cycle part) = stop.NotAccepted (Cycle part)
not_accepted_stop not_accepted.Memory = stop.Memory

abbrev pub module_stop : ModuleFault → Stop
module_stop module_fault.NotSubset = stop.Input refusal.NotSubset
module_stop (module_fault.NotValid rule) = stop.Input (refusal.NotValid rule)
module_stop (module_fault.Cyclic wire) = stop.Input (refusal.Cyclic wire)
module_stop module_fault.Memory = stop.Memory

abbrev pub vector_stop : VectorFault → Stop
vector_stop (vector.NotVector line) = stop.Input (refusal.NotVector line)
vector_stop (vector.NoPin name) = stop.Input (refusal.NoPin name)
vector_stop (vector.PinWidth name) = stop.Input (refusal.PinWidth name)
vector_stop (vector.PinClash name) = stop.Input (refusal.PinClash name)
vector_stop vector.TooManyRows = stop.Input refusal.TooManyRows
vector_stop (vector.MissingPin name) = stop.Input (refusal.MissingPin name)
vector_stop vector.Memory = stop.Memory

abbrev pub rows_stop : RowsFault → Stop
rows_stop (rows_fault.Vector fault) = vector_stop fault
rows_stop (rows_fault.Undefined row) = stop.Input (refusal.Undefined row)
rows_stop rows_fault.Memory = stop.Memory

-- the stop is one for what was read: it is due by what is said, and not a fault or want of memory
abbrev pub IsDeserved : Stop → Type 0
IsDeserved (stop.Input refusal) = Unit {0}
IsDeserved (stop.NotAccepted condition) = Unit {0}
IsDeserved _ = ⊥
