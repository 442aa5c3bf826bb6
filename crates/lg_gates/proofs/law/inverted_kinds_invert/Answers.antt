use Rattle.std.proofs.Common.{refl}
use Rattle.lg_gates.specs.declared.gates.GateKind.TheVariants.{And, Or, Nand, Nor, XorOne, XorOdd, XnorOne, XnorOdd, OddParity, EvenParity}
use Rattle.lg_gates.proofs.GateLaws.{gate_word-inverted, gate_word-agree}
use Rattle.lg_gates.proofs.law.inverted_kinds_invert.Goals as goal

pub returns : goal.returns
returns c = record {
  nand = gate_word-inverted Nand And (λ _. refl);
  nor = gate_word-inverted Nor Or (λ _. refl);
  xnor_one = gate_word-inverted XnorOne XorOne (λ _. refl);
  xnor_odd = gate_word-inverted XnorOdd XorOdd (λ _. refl);
  even = gate_word-inverted EvenParity OddParity (λ _. refl);
  odd = λ width inputs strict. gate_word-agree OddParity XorOdd width inputs inputs strict refl (λ _. refl);
}
