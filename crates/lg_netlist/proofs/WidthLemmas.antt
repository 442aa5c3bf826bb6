-- Ports of at most one bit have the widths of gates.
use Rattle.std.proofs.Common.{ℕ, ◌≤◌, List, [], ◌∷◌, length, get_or, refl, arith}
use Rattle.std.specs.Prelude.{All, IsTrue}
use Rattle.lg_netlist.specs.declared.netlist.Cell.{Cell}
use Rattle.lg_netlist.specs.declared.netlist.Cell.TheVariants.{Not, And, Or}
use Rattle.lg_netlist.specs.Cell.{input_width, output_width}
use Rattle.lg_netlist.specs.Valid.{has_width, HaveWidths}

one_bit : (bits : List ℕ) → length bits ≤ 1 → IsTrue (has_width 1 bits)
one_bit [] h = refl
one_bit (b ∷ []) h = refl
one_bit (b ∷ c ∷ bits) h = absurd (omega (arith, h))

pub inputs_have_widths : (cell : Cell) (ports : List (List ℕ)) → All (λ bits. length bits ≤ 1) ports → HaveWidths (input_width cell) ports
inputs_have_widths Not ports few port within = one_bit (get_or ports port []) (few port [] within)
inputs_have_widths And ports few port within = one_bit (get_or ports port []) (few port [] within)
inputs_have_widths Or ports few port within = one_bit (get_or ports port []) (few port [] within)

pub outputs_have_widths : (cell : Cell) (ports : List (List ℕ)) → All (λ bits. length bits ≤ 1) ports → HaveWidths (output_width cell) ports
outputs_have_widths Not ports few port within = one_bit (get_or ports port []) (few port [] within)
outputs_have_widths And ports few port within = one_bit (get_or ports port []) (few port [] within)
outputs_have_widths Or ports few port within = one_bit (get_or ports port []) (few port [] within)
