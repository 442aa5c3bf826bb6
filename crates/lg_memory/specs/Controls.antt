-- Clock, clear and preset, which every part with a state has in common. Source: the library reference of
-- Logisim-evolution, Memory Library, the attribute Trigger.
use Rattle.std.specs.Prelude.{ℕ, Bool, true, false, List, Option, None, Some}
use Rattle.lg_value.specs.declared.bit.Bit.{Bit}
use Rattle.lg_value.specs.declared.bit.Bit.TheVariants.{Zero, One}
use Rattle.lg_value.specs.Bit.{same_bit}
use Rattle.lg_memory.specs.declared.event.Event.{Event}
use Rattle.lg_memory.specs.declared.event.Event.TheVariants.{Clear, Preset, Triggered, Rest}
use Rattle.lg_memory.specs.declared.form.Trigger.{Trigger}
use Rattle.lg_memory.specs.declared.form.Trigger.TheVariants.{Rising, Falling, High, Low}
use Rattle.lg_memory.specs.declared.form.FlipKind.{FlipKind}
use Rattle.lg_memory.specs.declared.form.FlipKind.TheVariants.{D, T, Jk, Sr}
use Rattle.lg_memory.specs.declared.form.StateForm.{StateForm}
use Rattle.lg_memory.specs.declared.form.StateForm.TheVariants.{Flip, Register, Counter, Shift, Rom, Ram}
use Rattle.lg_memory.specs.Inputs.{Word, bit_at}

-- whether a clock that goes from one bit to another triggers: exactly from 0 to 1, exactly from 1 to 0, or
-- where it is now 1, or now 0
abbrev pub triggers : Trigger → Bit → Bit → Bool
triggers Rising Zero One = true
triggers Falling One Zero = true
triggers High _ One = true
triggers Low _ Zero = true
triggers _ _ _ = false

-- the data inputs of a flip-flop
abbrev pub data_inputs : FlipKind → ℕ
data_inputs D = 1
data_inputs T = 1
data_inputs Jk = 2
data_inputs Sr = 2

-- the trigger of a form and the place of its clock input
abbrev pub clock_of : StateForm → Option (Trigger × ℕ)
clock_of (Flip kind trigger) = Some (trigger, data_inputs kind)
clock_of (Register width trigger) = Some (trigger, 2)
clock_of (Counter width max goal trigger) = Some (trigger, 4)
clock_of (Shift width stages parallel trigger) = Some (trigger, 2)
clock_of (Rom address width words) = None
clock_of (Ram address width trigger) = Some (trigger, 3)

-- the place of a form's clear input
abbrev pub clear_of : StateForm → Option ℕ
clear_of (Flip D trigger) = Some 3
clear_of (Flip T trigger) = Some 3
clear_of (Flip Jk trigger) = Some 4
clear_of (Flip Sr trigger) = Some 4
clear_of (Register width trigger) = Some 3
clear_of (Counter width max goal trigger) = Some 5
clear_of (Shift width stages parallel trigger) = Some 3
clear_of _ = None

-- the place of a form's preset input
abbrev pub preset_of : StateForm → Option ℕ
preset_of (Flip D trigger) = Some 2
preset_of (Flip T trigger) = Some 2
preset_of (Flip Jk trigger) = Some 3
preset_of (Flip Sr trigger) = Some 3
preset_of _ = None

-- whether a form has a control input and that is 1
abbrev pub is_one : Option ℕ → List Word → Bool
is_one None inputs = false
is_one (Some place) inputs = same_bit One (bit_at inputs place)

-- whether the step between two lists of inputs triggers a clock
abbrev pub is_triggered : Option (Trigger × ℕ) → List Word → List Word → Bool
is_triggered None old new = false
is_triggered (Some clock) old new = triggers clock.0 (bit_at old clock.1) (bit_at new clock.1)

-- what a step does, by whether clear is 1, whether preset is 1 and whether the clock triggers: clear goes
-- before preset, and both act whatever the clock does
abbrev pub event_of : Bool → Bool → Bool → Event
event_of true _ _ = Clear
event_of false true _ = Preset
event_of false false true = Triggered
event_of false false false = Rest

-- what the step between two lists of inputs does to a form
abbrev pub event : StateForm → List Word → List Word → Event
event form old new =
    event_of (is_one (clear_of form) new) (is_one (preset_of form) new) (is_triggered (clock_of form) old new)
