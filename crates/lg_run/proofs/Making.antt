-- What the refusals of the steps say of the text that bytes have.
use Rattle.std.proofs.Common.{◌≡◌, ℕ, ◌<◌, ◌≤◌, List, length, Result, Err, refl, ◌⊎◌, inl, inr}
use Rattle.lg_circ.specs.declared.fault.CircFault.{CircFault}
use Rattle.lg_circ.specs.declared.fault.CircFault.TheVariants as circ
use Rattle.lg_circ.specs.declared.project.Project.{Project}
use Rattle.lg_circ.specs.declared.read.TheConstants.{GREATEST_LENGTH}
use Rattle.lg_circ.specs.Project.{SaysProject, IsTooDeep, IsNoProject}
use Rattle.lg_netlist.specs.declared.acceptance.NotAccepted.{NotAccepted}
use Rattle.lg_netlist.specs.declared.acceptance.NotAccepted.TheVariants as not_accepted
use Rattle.lg_netlist.specs.declared.netlist.Netlist.{Netlist}
use Rattle.lg_netlist.specs.Acceptance.{IsRefused}
use Rattle.lg_run.specs.declared.one_sheet.EarlyFault.{EarlyFault}
use Rattle.lg_run.specs.declared.one_sheet.EarlyFault.TheVariants as early
use Rattle.lg_run.specs.Answered.{IsUnmade, Long, NoText, NoMemory}
use Rattle.lg_run.specs.Due.{IsRefusedText, Deep, NoProject, Unbuilt, Unaccepted}
use Rattle.lg_run.specs.OneSheet.{IsBuilt, IsNotBuilt}
use Rattle.lg_run.specs.Stops.{circ_stop, early_stop, not_accepted_stop}

-- a project that was not read
pub unread : (bytes : List ℕ) (fault : CircFault) → (◌≡◌ {A = Result Project CircFault} (Err fault) (Err circ.TooLong) → GREATEST_LENGTH < length bytes)
    → (◌≡◌ {A = Result Project CircFault} (Err fault) (Err circ.TooDeep) → (length bytes ≤ GREATEST_LENGTH) × IsTooDeep bytes)
    → (◌≡◌ {A = Result Project CircFault} (Err fault) (Err circ.NotProject) → (length bytes ≤ GREATEST_LENGTH) × IsNoProject bytes) → IsUnmade bytes (circ_stop fault)
unread bytes circ.TooLong long deep none = Long (long refl) refl
unread bytes circ.TooDeep long deep none = let d = deep refl in NoText d.0 (Deep d.1 refl)
unread bytes circ.NotProject long deep none = let n = none refl in NoText n.0 (NoProject n.1 refl)
unread bytes circ.Memory long deep none = NoMemory refl

-- a project that was read, with a circuit that is not built
pub unbuilt : (bytes : List ℕ) (project : Project) (fault : EarlyFault) → length bytes ≤ GREATEST_LENGTH → SaysProject bytes project
    → (◌≡◌ {A = Result Netlist EarlyFault} (Err fault) (Err early.NotBuilt) → IsNotBuilt project) → IsUnmade bytes (early_stop fault)
unbuilt bytes project early.NotBuilt within says none = NoText within (Unbuilt project says (none refl) refl)
unbuilt bytes project early.Memory within says none = NoMemory refl

-- a netlist that was not accepted
pub unaccepted : (bytes : List ℕ) (project : Project) (netlist : Netlist) (fault : NotAccepted) → length bytes ≤ GREATEST_LENGTH → SaysProject bytes project → IsBuilt project netlist
    → (fault ≡ not_accepted.Memory) ⊎ IsRefused netlist fault → IsUnmade bytes (not_accepted_stop fault)
unaccepted bytes project netlist fault within says built (inl e) = rw e (NoMemory refl)
unaccepted bytes project netlist fault within says built (inr refused) =
    by fault (record { project = project; netlist = netlist; says = says; built = built; refused = refused })
  where
    by : (fault : NotAccepted) → IsRefusedText bytes fault → IsUnmade bytes (not_accepted_stop fault)
    by (not_accepted.ManyDrivers net first second) is = NoText within (Unaccepted (not_accepted.ManyDrivers net first second) is refl)
    by (not_accepted.Undriven part port) is = NoText within (Unaccepted (not_accepted.Undriven part port) is refl)
    by (not_accepted.Cycle part) is = NoText within (Unaccepted (not_accepted.Cycle part) is refl)
    by not_accepted.Memory is = NoMemory refl
