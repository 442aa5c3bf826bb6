-- Which fault each refusal of a step is.
use Rattle.lg_vectors.specs.declared.fault.VectorFault.{VectorFault}
use Rattle.lg_vectors.specs.declared.fault.VectorFault.TheVariants as vector
use Rattle.lg_vread.specs.declared.fault.ReadFault.{ReadFault}
use Rattle.lg_vread.specs.declared.fault.ReadFault.TheVariants as read
use Rattle.lg_vmeaning.specs.declared.validity.MeanFault.{MeanFault}
use Rattle.lg_vmeaning.specs.declared.validity.MeanFault.TheVariants as mean
use Rattle.lg_vrows.specs.declared.fault.ModuleFault.{ModuleFault}
use Rattle.lg_vrows.specs.declared.fault.ModuleFault.TheVariants as module_fault
use Rattle.lg_vrows.specs.declared.fault.RowsFault.{RowsFault}
use Rattle.lg_vrows.specs.declared.fault.RowsFault.TheVariants as rows_fault

abbrev pub read_fault : ReadFault → ModuleFault
read_fault read.NotSubset = module_fault.NotSubset
read_fault read.Memory = module_fault.Memory

abbrev pub mean_fault : MeanFault → ModuleFault
mean_fault (mean.NotValid rule) = module_fault.NotValid rule
mean_fault (mean.Cyclic wire) = module_fault.Cyclic wire
mean_fault mean.Memory = module_fault.Memory

abbrev pub vector_fault : VectorFault → RowsFault
vector_fault vector.Memory = rows_fault.Memory
vector_fault fault = rows_fault.Vector fault
