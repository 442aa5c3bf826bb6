use Rattle.std.proofs.Common.{List, sym, ap, ◌∙◌}
use Rattle.lg_value.specs.declared.bit.Bit.{Bit}
use Rattle.lg_value.specs.declared.bit.Bit.TheVariants.{Zero, One, Error}
use Rattle.lg_gates.proofs.PriorityLemmas.{priority_of-undefined, priority_of-error, priority_of-disabled, priority_of-found, priority_of-none}
use Rattle.lg_gates.proofs.encoder.priority.Goals as goal

pub returns-then-not-all_defined-clause-outputs : goal.returns-then-not-all_defined-clause-outputs
returns-then-not-all_defined-clause-outputs c =
    let outputs : List Bit → List Bit × Bit × Bit = λ w. (w, Error, Error) in
    ap outputs c.fill.ensures.bits ∙ sym (priority_of-undefined c.args.inputs.now c.args.enable c.args.select c.args.off (sym c.all_defined.ensures ∙ c.if-not-all_defined.true))

pub returns-in-Error-clause-outputs : goal.returns-in-Error-clause-outputs
returns-in-Error-clause-outputs c =
    let outputs : List Bit → List Bit × Bit × Bit = λ w. (w, Error, Error) in
    let defined = sym c.all_defined.ensures ∙ c.if-not-all_defined.false in
    rw c.in-Error.is (ap outputs c.fill.ensures.bits ∙ sym (priority_of-error c.args.inputs.now c.args.select c.args.off defined))

pub returns-in-Zero-clause-outputs : goal.returns-in-Zero-clause-outputs
returns-in-Zero-clause-outputs c =
    let outputs : List Bit → List Bit × Bit × Bit = λ w. (w, Zero, Zero) in
    let defined = sym c.all_defined.ensures ∙ c.if-not-all_defined.false in
    rw c.in-Zero.is (ap outputs c.fill-in-Zero.ensures.bits ∙ sym (priority_of-disabled c.args.inputs.now c.args.select c.args.off defined))

pub returns-in-Some-clause-outputs : goal.returns-in-Some-clause-outputs
returns-in-Some-clause-outputs c =
    let outputs : List Bit → List Bit × Bit × Bit = λ w. (w, One, Zero) in
    let defined = sym c.all_defined.ensures ∙ c.if-not-all_defined.false in
    let is = sym c.greatest_one.ensures.place ∙ c.in-Some.is in
    ap outputs c.from_number.ensures.bits ∙ sym (priority_of-found c.args.inputs.now c.args.enable c.args.select c.args.off c.in-Some.place defined c.in-One.is is)

pub returns-in-None-clause-outputs : goal.returns-in-None-clause-outputs
returns-in-None-clause-outputs c =
    let outputs : List Bit → List Bit × Bit × Bit = λ w. (w, Zero, One) in
    let defined = sym c.all_defined.ensures ∙ c.if-not-all_defined.false in
    let is = sym c.greatest_one.ensures.place ∙ c.in-None.is in
    ap outputs c.fill-in-None.ensures.bits ∙ sym (priority_of-none c.args.inputs.now c.args.enable c.args.select c.args.off defined c.in-One.is is)
