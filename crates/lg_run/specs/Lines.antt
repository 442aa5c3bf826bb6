-- The status and the line of each stop.
use Rattle.std.specs.Prelude.{ℕ, List, ◌++◌, codes}
use Rattle.std.specs.Fmt.{decimal}
use Rattle.lg_run.specs.declared.status.Status.{Status}
use Rattle.lg_run.specs.declared.status.Status.TheVariants as status
use Rattle.lg_run.specs.declared.stop.Unmet.{Unmet}
use Rattle.lg_run.specs.declared.stop.Unmet.TheVariants as unmet
use Rattle.lg_run.specs.declared.stop.Refusal.{Refusal}
use Rattle.lg_run.specs.declared.stop.Refusal.TheVariants as refusal
use Rattle.lg_run.specs.declared.stop.Stop.{Stop}
use Rattle.lg_run.specs.declared.stop.Stop.TheVariants as stop

abbrev pub status_of : Stop → Status
status_of stop.Usage = status.Usage
status_of (stop.Input refusal) = status.Input
status_of (stop.NotAccepted condition) = status.NotAccepted
status_of stop.ReadFault = status.ReadFault
status_of stop.WriteFault = status.WriteFault
status_of stop.Memory = status.Memory

-- why an input is refused: the refusal, then what it tells, after a space
abbrev pub refusal_text : Refusal → List ℕ
refusal_text refusal.Missing = codes "Missing"
refusal_text refusal.TooLong = codes "TooLong"
refusal_text refusal.TooDeep = codes "TooDeep"
refusal_text refusal.NotProject = codes "NotProject"
refusal_text refusal.NotBuilt = codes "NotBuilt"
refusal_text refusal.NotSubset = codes "NotSubset"
refusal_text (refusal.NotValid rule) = codes "NotValid " ++ decimal rule
refusal_text (refusal.Cyclic wire) = codes "Cyclic " ++ wire
refusal_text (refusal.NotVector line) = codes "NotVector " ++ decimal line
refusal_text (refusal.NoPin name) = codes "NoPin " ++ name
refusal_text (refusal.PinWidth name) = codes "PinWidth " ++ name
refusal_text (refusal.PinClash name) = codes "PinClash " ++ name
refusal_text refusal.TooManyRows = codes "TooManyRows"
refusal_text (refusal.MissingPin name) = codes "MissingPin " ++ name
refusal_text (refusal.Undefined row) = codes "Undefined " ++ decimal row

-- why a netlist is not accepted: the condition, then its names, each after a space
abbrev pub unmet_text : Unmet → List ℕ
unmet_text (unmet.ManyDrivers net first second) = codes "ManyDrivers " ++ decimal net ++ codes " " ++ first ++ codes " " ++ second
unmet_text (unmet.Undriven part port) = codes "Undriven " ++ part ++ codes " " ++ port
unmet_text (unmet.Cycle part) = codes "Cycle " ++ part

-- the line of a stop, about a file
abbrev pub line_of : Stop → List ℕ → List ℕ
line_of stop.Usage file = codes "lg: usage: lg VERB [OPTIONS] ARGUMENTS\n"
line_of (stop.Input refusal) file = codes "lg: input: " ++ file ++ codes ": " ++ refusal_text refusal ++ codes "\n"
line_of (stop.NotAccepted condition) file = codes "lg: not accepted: " ++ unmet_text condition ++ codes "\n"
line_of stop.ReadFault file = codes "lg: read fault: " ++ file ++ codes "\n"
line_of stop.WriteFault file = codes "lg: write fault\n"
line_of stop.Memory file = codes "lg: out of memory\n"
