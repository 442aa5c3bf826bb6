-- What the layout asks of a netlist: what is named can be spelled, and what is read is driven.
use Rattle.std.specs.Prelude.{◌≡◌, ℕ, ◌<◌, false, IsTrue, List, length, All}
use Rattle.lg_netlist.specs.declared.netlist.PartUse.{PartUse}
use Rattle.lg_netlist.specs.declared.netlist.PinUse.{PinUse}
use Rattle.lg_netlist.specs.declared.netlist.Netlist.{Netlist}
use Rattle.lg_netlist.specs.Acceptance.{is_undriven}
use Rattle.lg_netlist.specs.Static.{output_pins}
use Rattle.lg_names.specs.Names.{is_pin_name}
use Rattle.lg_netlist.specs.Valid.{AreNets}
use Rattle.lg_export.specs.Layout.{attached}

-- a module can spell the pin's name
abbrev pub IsNamed : PinUse → Type 0
IsNamed pin = IsTrue (is_pin_name pin.name)

-- there is a bit, and something drives each
pub record IsReadable (n : Netlist) (bits : List ℕ) : Type 0 where
  pub has_bit : 0 < length bits
  pub driven : All (λ net. is_undriven n net ≡ false) bits
  pub on_nets : AreNets n.nets bits

-- an input is attached, and what is attached is driven
pub record IsFed (n : Netlist) (part : PartUse) : Type 0 where
  pub has_input : 0 < length (attached part)
  pub driven : All (λ bits. 0 < length bits → IsReadable n bits) part.inputs

-- each part is fed, and each output pin can be read
pub record CanBeLaidOut (n : Netlist) : Type 0 where
  pub fed : All (IsFed n) n.parts
  pub read : All (λ pin. IsReadable n pin.bits) (output_pins n)
